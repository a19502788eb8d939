-- Packed words, and the fields that stand in them.
use Rattle.std.proofs.Common.{ℕ, ◌≡◌, ◌≤◌, ◌<◌, ◌+◌, ◌^◌, ◌==◌, nat_le, Bool, true, false, ◌||◌, not, ap, List, [], ◌∷◌, refl, sym, ◌∙◌, arith, All, length, get_or, ◌⊎◌, inl, inr}
use Rattle.std.specs.Int.{bit_at, w64, from_le_bytes, to_le_bytes}
use Rattle.std.proofs.lemmas.Nat.{le_bytes_8, from_le_bytes-to_le_bytes_8}
use Rattle.std.proofs.lemmas.Bool.{cases_lt}
use Rattle.std.proofs.lemmas.Bool.Decides.{leb_tells}
use Rattle.std.proofs.lemmas.List.{get_or_past}
use Rattle.ccan_object.specs.declared.record.Record.{Record}
use Rattle.ccan_object.specs.Bits.{bit, part, flag, at}
use Rattle.ccan_object.specs.Record.{IsRecord}
use Rattle.ccan_object.specs.Register.{arbitration, masks, control}
use Rattle.ccan_object.specs.Packing.{packed, unpacked, has_reserved}
use Rattle.ccan_object.proofs.Flags.{flag-le, flag-bit, bit-flag}

-- a word is the sum of its parts
module _ (w : ℕ) (fits : w < 2 ^ 64) (none : bit_at w 61 ≡ 0) where
  whole : at 32 (at 31 (bit_at w 63) + at 30 (bit_at w 62) + part w 32 29)
      + (at 31 (bit_at w 31) + at 30 (bit_at w 30) + at 29 (bit_at w 29) + part w 0 29)
      ≡ w
  whole = omega arith

-- Message Control is the sum of its bits
module _ (w : ℕ) (fits : w < 2 ^ 16) (none : part w 4 3 ≡ 0) where
  whole_control : at 15 (bit_at w 15) + at 14 (bit_at w 14) + at 13 (bit_at w 13) + at 12 (bit_at w 12)
      + at 11 (bit_at w 11) + at 10 (bit_at w 10) + at 9 (bit_at w 9) + at 8 (bit_at w 8) + at 7 (bit_at w 7) + part w 0 4
      ≡ w
  whole_control = omega arith

is_zero : (on : Bool) → on ≡ false → flag on ≡ 0
is_zero true h = absurd cc
is_zero false h = refl

or_false : (a b c : Bool) → a ≡ false → b ≡ false → c ≡ false → (a || b || c) ≡ false
or_false true b c p q r = cc
or_false false true c p q r = cc
or_false false false c p q r = r

-- a limit is not reached below it
above : (limit n : ℕ) → n < limit → nat_le limit n ≡ false
above limit n low = elim (leb_tells limit n) [
  | inl h ↦ absurd (omega (arith, h.1))
  | inr h ↦ h.0
]

-- the words of three numbers that have no reserved bit
pub packed-unpacked : (w c d : ℕ) → w < 2 ^ 64 → c < 2 ^ 16 → d < 2 ^ 64 → bit w 61 ≡ false → part c 4 3 ≡ 0
    → packed (unpacked w c d) ≡ w ∷ c ∷ d ∷ []
packed-unpacked w c d small short fits none clear =
    let zero : bit_at w 61 ≡ 0 = sym (flag-bit w 61) ∙ is_zero (bit w 61) none in
    rw (flag-bit w 63, flag-bit w 62, flag-bit w 31, flag-bit w 30, flag-bit w 29)
    (rw (
      flag-bit c 15,
      flag-bit c 14,
      flag-bit c 13,
      flag-bit c 12,
      flag-bit c 11,
      flag-bit c 10,
      flag-bit c 9,
      flag-bit c 8,
      flag-bit c 7,
    )
    (rw (whole w small zero, whole_control c short clear, from_le_bytes-to_le_bytes_8 d fits) refl))

-- each byte of a list of bytes, and what stands past its end
byte_fits : (bytes : List ℕ) → All (λ byte. byte < 2 ^ 8) bytes → (i : ℕ) → get_or bytes i 0 < 256
byte_fits bytes all i = by_length (cases_lt i (length bytes)) where
  by_length : (i < length bytes) ⊎ (length bytes ≤ i) → get_or bytes i 0 < 256
  by_length (inl within) = all i 0 within
  by_length (inr past) = rw (get_or_past bytes i 0 past) (omega arith)

-- the fields that stand in the words of a record
module _ (r : Record) (w c d : ℕ) (is : IsRecord r) (words : packed r ≡ w ∷ c ∷ d ∷ []) where
  identifiers : at 32 (masks r) + arbitration r ≡ w
  identifiers = cc

  message_control : control r ≡ c
  message_control = cc

  content : d ≡ from_le_bytes w64 r.bytes
  content = cc

  limits : (flag r.valid ≤ 1) × (flag r.xtd ≤ 1) × (flag r.dir ≤ 1) × (flag r.mxtd ≤ 1) × (flag r.mdir ≤ 1)
  limits = (flag-le r.valid, flag-le r.xtd, flag-le r.dir, flag-le r.mxtd, flag-le r.mdir)

  valid : bit w 31 ≡ r.valid
  valid = bit-flag w 31 r.valid (omega (arith, identifiers, is.id, is.mask, limits))

  xtd : bit w 30 ≡ r.xtd
  xtd = bit-flag w 30 r.xtd (omega (arith, identifiers, is.id, is.mask, limits))

  dir : bit w 29 ≡ r.dir
  dir = bit-flag w 29 r.dir (omega (arith, identifiers, is.id, is.mask, limits))

  mxtd : bit w 63 ≡ r.mxtd
  mxtd = bit-flag w 63 r.mxtd (omega (arith, identifiers, is.id, is.mask, limits))

  mdir : bit w 62 ≡ r.mdir
  mdir = bit-flag w 62 r.mdir (omega (arith, identifiers, is.id, is.mask, limits))

  id : part w 0 29 ≡ r.id
  id = omega (arith, identifiers, is.id, is.mask, limits)

  mask : part w 32 29 ≡ r.mask
  mask = omega (arith, identifiers, is.id, is.mask, limits)

  control_limits : (flag r.newdat ≤ 1) × (flag r.msglst ≤ 1) × (flag r.intpnd ≤ 1) × (flag r.umask ≤ 1) × (flag r.txie ≤ 1)
      × (flag r.rxie ≤ 1) × (flag r.rmten ≤ 1) × (flag r.txrqst ≤ 1) × (flag r.eob ≤ 1)
  control_limits = (
    flag-le r.newdat,
    flag-le r.msglst,
    flag-le r.intpnd,
    flag-le r.umask,
    flag-le r.txie,
    flag-le r.rxie,
    flag-le r.rmten,
    flag-le r.txrqst,
    flag-le r.eob,
  )

  newdat : bit c 15 ≡ r.newdat
  newdat = bit-flag c 15 r.newdat (omega (arith, message_control, is.dlc, control_limits))

  msglst : bit c 14 ≡ r.msglst
  msglst = bit-flag c 14 r.msglst (omega (arith, message_control, is.dlc, control_limits))

  intpnd : bit c 13 ≡ r.intpnd
  intpnd = bit-flag c 13 r.intpnd (omega (arith, message_control, is.dlc, control_limits))

  umask : bit c 12 ≡ r.umask
  umask = bit-flag c 12 r.umask (omega (arith, message_control, is.dlc, control_limits))

  txie : bit c 11 ≡ r.txie
  txie = bit-flag c 11 r.txie (omega (arith, message_control, is.dlc, control_limits))

  rxie : bit c 10 ≡ r.rxie
  rxie = bit-flag c 10 r.rxie (omega (arith, message_control, is.dlc, control_limits))

  rmten : bit c 9 ≡ r.rmten
  rmten = bit-flag c 9 r.rmten (omega (arith, message_control, is.dlc, control_limits))

  txrqst : bit c 8 ≡ r.txrqst
  txrqst = bit-flag c 8 r.txrqst (omega (arith, message_control, is.dlc, control_limits))

  eob : bit c 7 ≡ r.eob
  eob = bit-flag c 7 r.eob (omega (arith, message_control, is.dlc, control_limits))

  dlc : part c 0 4 ≡ r.dlc
  dlc = omega (arith, message_control, is.dlc, control_limits)

  bytes : to_le_bytes w64 d ≡ r.bytes
  bytes = le_bytes_8 r.bytes d is.length_is (byte_fits r.bytes is.bytes) content

  -- a record is read back from its words
  pub unpacked-packed : unpacked w c d ≡ r
  unpacked-packed =
      rw (valid, xtd, dir, id, mxtd, mdir, mask, bytes)
      (rw (newdat, msglst, intpnd, umask, txie, rxie, rmten, txrqst, eob, dlc) refl)

  -- its words have no reserved bit
  free_identifiers : bit_at w 61 ≡ 0
  free_identifiers = omega (arith, identifiers, is.id, is.mask, limits)

  free_control : part c 4 3 ≡ 0
  free_control = omega (arith, message_control, is.dlc, control_limits)

  short_control : c < 2 ^ 16
  short_control = omega (arith, message_control, is.dlc, control_limits)

  pub not_reserved : has_reserved (w ∷ c ∷ d ∷ []) ≡ false
  not_reserved =
      or_false (bit w 61) (not (part c 4 3 == 0)) (nat_le (2 ^ 16) c)
      (ap (λ n. n == 1) free_identifiers) (ap (λ n. not (n == 0)) free_control) (above (2 ^ 16) c short_control)

-- a list of three, place by place
pub three : (words : List ℕ) → length words ≡ 3 → get_or words 0 0 ∷ get_or words 1 0 ∷ get_or words 2 0 ∷ [] ≡ words
three (a ∷ b ∷ c ∷ []) is = refl
three [] is = absurd (omega arith)
three (a ∷ []) is = absurd (omega arith)
three (a ∷ b ∷ []) is = absurd (omega arith)
three (a ∷ b ∷ c ∷ d ∷ more) is = absurd (omega arith)
