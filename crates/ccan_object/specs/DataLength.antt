-- Data length codes. Source: ISO 11898-1, data length code.
use Rattle.std.specs.Prelude.{ℕ, min}

-- how many data bytes a code means: 0 to 8 mean that many, 9 to 15 mean 8 too
abbrev pub byte_count : ℕ → ℕ
byte_count code = min code 8
