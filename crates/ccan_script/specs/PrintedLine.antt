-- The numbers and the fields of a printed line. Fields are separated by one space, and hexadecimal digits are lower case.
-- Source: this project's own; the registers in the fields are those of the C_CAN User's Manual 1.2, section 3.3.
use Rattle.std.specs.Prelude.{ℕ, zero, suc, ◌/◌, ◌%◌, ◌^◌, List, [], ◌∷◌, ◌++◌, Bool, false, if◌then◌else◌}
use Rattle.std.specs.List.{flat_map}
use Rattle.std.specs.Fmt.{digit_glyph}
use Rattle.ccan_object.specs.declared.record.Record.{Record}
use Rattle.ccan_object.specs.Register.{arbitration, masks, control}

-- ---- numbers

-- a number in hexadecimal with this many digits, the most significant digit first
unfoldable pub hex : ℕ → ℕ → List ℕ
hex zero n = []
hex (suc place) n = digit_glyph false (n / 16 ^ place % 16) ∷ hex place n

-- a number in two decimal digits
unfoldable pub two_digits : ℕ → List ℕ
two_digits n = digit_glyph false (n / 10) ∷ digit_glyph false (n % 10) ∷ []

-- two hexadecimal digits for each byte, byte 0 first
unfoldable pub hex_bytes : List ℕ → List ℕ
hex_bytes bytes = flat_map (hex 2) bytes

-- a bit: 0 or 1
unfoldable pub bit_text : Bool → List ℕ
bit_text bit = (if bit then 49 else 48) ∷ []

-- ---- fields

-- a space, and then the field
abbrev pub field : List ℕ → List ℕ
field text = 32 ∷ text

-- Arbitration 2 and 1 in eight digits, Mask 2 and 1 in eight, Message Control in four, and the data in sixteen
unfoldable pub record_text : Record → List ℕ
record_text r =
    field (hex 8 (arbitration r)) ++ field (hex 8 (masks r)) ++ field (hex 4 (control r)) ++ field (hex_bytes r.bytes)

-- a word and the number of an object
unfoldable pub verb_text : List ℕ → ℕ → List ℕ
verb_text verb object = verb ++ field (two_digits object)

-- a word, the number of an object and its record
unfoldable pub shown_text : List ℕ → ℕ → Record → List ℕ
shown_text verb object r = verb_text verb object ++ record_text r
