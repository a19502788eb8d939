-- A page, by its constant parts and its data. Source: the HTML Living Standard, "Restrictions for contents of script elements":
-- without a `<` nothing in the data ends its element, or begins a comment; RFC 8259, section 7.
use Rattle.std.specs.Prelude.{ℕ, ◌==◌, ◌++◌, ◌∷◌, List, [], Bool, not, codes, if◌then◌else◌}
use Rattle.std.specs.List.{flat_map}

-- a byte of JSON, or its escape if it is a `<`
abbrev pub shielded_byte : ℕ → List ℕ
shielded_byte byte = if byte == 60 then codes "\\u003c" else byte ∷ []

abbrev pub shielded : List ℕ → List ℕ
shielded json = flat_map shielded_byte json

-- a page: its constant parts, and between them its data without a `<`
unfoldable pub page_text : List ℕ → List ℕ → List ℕ → List ℕ → List ℕ → List ℕ
page_text head style body json stepping = head ++ (style ++ (body ++ (shielded json ++ stepping)))

-- a byte is no `<`
abbrev pub is_no_less : ℕ → Bool
is_no_less byte = not (byte == 60)
