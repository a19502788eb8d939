-- Pieces of JSON. Source: RFC 8259, sections 4, 6 and 7; that control characters are written by their numbers is this
-- project's own.
use Rattle.std.specs.Prelude.{ℕ, ◌/◌, ◌%◌, ◌==◌, ◌++◌, ◌∷◌, nat_lt, List, [], Bool, false, codes, decimal, if◌then◌else◌}
use Rattle.std.specs.Fmt.{digit_glyph}
use Rattle.std.specs.List.{flat_map}

-- a byte as two hexadecimal digits
abbrev pub hex_text : ℕ → List ℕ
hex_text byte = digit_glyph false (byte / 16) ∷ (digit_glyph false (byte % 16) ∷ [])

-- a byte of a string: `"` and `\` after a `\`, a control character by its number, and each other byte as it is
abbrev pub string_glyph : ℕ → List ℕ
string_glyph byte =
    if byte == 34 then codes "\\\"" else (if byte == 92 then codes "\\\\" else (if nat_lt byte 32
    then codes "\\u00" ++ hex_text byte else byte ∷ []))

abbrev pub string_text : List ℕ → List ℕ
string_text words = codes "\"" ++ (flat_map string_glyph words ++ codes "\"")

-- ---- members, each after a comma

abbrev pub named : List ℕ → List ℕ
named name = codes ",\"" ++ (name ++ codes "\":")

abbrev pub number_member : List ℕ → ℕ → List ℕ
number_member name value = named name ++ decimal value

abbrev pub switch_member : List ℕ → Bool → List ℕ
switch_member name is = named name ++ (if is then codes "1" else codes "0")

abbrev pub word_member : List ℕ → List ℕ → List ℕ
word_member name word = named name ++ string_text word

-- two digits for each byte
abbrev pub data_member : List ℕ → List ℕ
data_member bytes = named (codes "data") ++ (codes "\"" ++ (flat_map hex_text bytes ++ codes "\""))
