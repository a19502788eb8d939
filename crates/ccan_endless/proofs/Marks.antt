-- The parts of a record, and how the packed words of the record without MsgVal come back from them. Each field is less than
-- the room that its places leave, so quotients and remainders of the marks are the parts of Message Control, and MsgVal.
use Rattle.std.proofs.Common.{ℕ, ◌≡◌, ◌<◌, ◌≤◌, ◌+◌, ◌*◌, ◌/◌, ◌%◌, false, List, [], ◌∷◌, get_or, sym, arith}
use Rattle.std.specs.Int.{from_le_bytes, w64}
use Rattle.ccan_object.specs.declared.record.Record.{Record}
use Rattle.ccan_object.specs.Bits.{flag, at}
use Rattle.ccan_object.specs.Record.{IsRecord}
use Rattle.ccan_object.specs.Register.{arbitration, masks, control}
use Rattle.ccan_object.specs.Packing.{packed}
use Rattle.ccan_object.proofs.Flags.{flag-le}
use Rattle.ccan_endless.specs.Parts.{marks_of, marks_limit, body_of}

module _ (r : Record) (short : r.dlc ≤ 15) where
  pub limits : (flag r.newdat ≤ 1) × (flag r.msglst ≤ 1) × (flag r.intpnd ≤ 1) × (flag r.umask ≤ 1) × (flag r.txie ≤ 1)
      × (flag r.rxie ≤ 1) × (flag r.rmten ≤ 1) × (flag r.txrqst ≤ 1) × (flag r.eob ≤ 1) × (flag r.valid ≤ 1)
  limits = (
    flag-le r.newdat,
    flag-le r.msglst,
    flag-le r.intpnd,
    flag-le r.umask,
    flag-le r.txie,
    flag-le r.rxie,
    flag-le r.rmten,
    flag-le r.txrqst,
    flag-le r.eob,
    flag-le r.valid,
  )

  -- Message Control stands in the marks, and MsgVal above it
  pub to_control : marks_of r / 16 % 512 * 128 + marks_of r % 16 ≡ control r
  to_control = omega (arith, short, limits)

  pub to_valid : marks_of r / 8192 ≡ flag r.valid
  to_valid = omega (arith, short, limits)

  small : marks_of r < marks_limit
  small = omega (arith, short, limits)

pub marks_small : (r : Record) → IsRecord r → marks_of r < marks_limit
marks_small r is = small r is.dlc

-- the record without MsgVal
abbrev pub unmarked : Record → Record
unmarked r = record r { valid = false }

pub unmarked_is : (r : Record) → IsRecord r → IsRecord (unmarked r)
unmarked_is r is = record { id = is.id; mask = is.mask; dlc = is.dlc; length_is = is.length_is; bytes = is.bytes }

-- the words that are packed from marks and a body
abbrev pub packed_from : ℕ → List ℕ → List ℕ
packed_from m b = get_or b 0 0 ∷ (m / 16 % 512 * 128 + m % 16) ∷ get_or b 1 0 ∷ []

-- are those of the record without MsgVal
pub packs : (r : Record) → IsRecord r → packed (unmarked r) ≡ packed_from (marks_of r) (body_of r)
packs r is =
    let first : at 32 (masks r) + arbitration (unmarked r) ≡ get_or (packed_from (marks_of r) (body_of r)) 0 0 =
    omega arith in
    let second : control r ≡ marks_of r / 16 % 512 * 128 + marks_of r % 16 = sym (to_control r is.dlc) in
    λ i. first i ∷ second i ∷ from_le_bytes w64 r.bytes ∷ []
