-- Records packed into three words of 64 bits. Source: this project's own; word 0 has the Arbitration registers below the
-- Mask registers, word 1 Message Control, word 2 the data.
use Rattle.std.specs.Prelude.{ℕ, ◌≡◌, ◌<◌, ◌==◌, ◌+◌, ◌^◌, Bool, false, ◌||◌, not, nat_le, if◌then◌else◌, Option, None, Some, List, [], ◌∷◌, All, length, slice_index}
use Rattle.std.specs.Int.{from_le_bytes, to_le_bytes, w64}
use Rattle.ccan_object.specs.declared.record.Record.{Record}
use Rattle.ccan_object.specs.Bits.{bit, part, at}
use Rattle.ccan_object.specs.Register.{arbitration, masks, control}
use Rattle.ccan_object.specs.Interface.{with_control}

-- id 28 to 0, dir 29, xtd 30, valid 31, mask 60 to 32, mdir 62, mxtd 63; Message Control; byte i at 8i
abbrev pub packed : Record → List ℕ
packed r = (at 32 (masks r) + arbitration r) ∷ control r ∷ from_le_bytes w64 r.bytes ∷ []

-- the record in three words, whatever is at the places that no field has
abbrev pub unpacked : ℕ → ℕ → ℕ → Record
unpacked identifiers control content =
    with_control control
    record {
      id = part identifiers 0 29;
      dir = bit identifiers 29;
      xtd = bit identifiers 30;
      valid = bit identifiers 31;
      mask = part identifiers 32 29;
      mdir = bit identifiers 62;
      mxtd = bit identifiers 63;
      newdat = false;
      msglst = false;
      intpnd = false;
      umask = false;
      txie = false;
      rxie = false;
      rmten = false;
      txrqst = false;
      eob = false;
      dlc = 0;
      bytes = to_le_bytes w64 content;
    }

-- a bit is set at a place that no field has: bit 61 of word 0, bits 6 to 4 and 63 to 16 of word 1
abbrev pub has_reserved : List ℕ → Bool
has_reserved words =
    bit (slice_index words 0) 61 || not (part (slice_index words 1) 4 3 == 0) || nat_le (2 ^ 16) (slice_index words 1)

-- the record that three words hold; none if a reserved bit is set
abbrev pub unpacked_from : List ℕ → Option Record
unpacked_from words =
    if has_reserved words then None
    else Some (unpacked (slice_index words 0) (slice_index words 1) (slice_index words 2))

-- three words of 64 bits
pub record IsThreeWords (words : List ℕ) : Type 0 where
  pub three : length words ≡ 3
  pub sizes : All (λ word. word < 2 ^ 64) words
