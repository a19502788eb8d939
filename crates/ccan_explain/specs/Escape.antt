-- Words as XML has them. Source: Extensible Markup Language 1.0, section 2.4; what is no printed character of ASCII is this
-- project's own.
use Rattle.std.specs.Prelude.{ℕ, ◌==◌, ◌||◌, nat_lt, List, [], ◌∷◌, codes, if◌then◌else◌}
use Rattle.std.specs.List.{flat_map}

-- `&`, `<`, `>` and `"` by their names, `?` for what is no printed character of ASCII, and each other byte as it is
abbrev pub escaped_glyph : ℕ → List ℕ
escaped_glyph byte =
    if byte == 38 then codes "&amp;" else (if byte == 60 then codes "&lt;" else (if byte == 62 then codes "&gt;"
    else (if byte == 34 then codes "&quot;" else (if nat_lt byte 32 || nat_lt 126 byte then codes "?" else byte ∷ []))))

abbrev pub escaped : List ℕ → List ℕ
escaped words = flat_map escaped_glyph words
