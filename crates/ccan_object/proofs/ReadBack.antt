-- A register reads back as it was written, and every other as before.
use Rattle.std.proofs.Common.{ℕ, ◌≡◌, ◌≢◌, ◌≤◌, ◌<◌, ◌+◌, ◌^◌, List, length, refl, arith}
use Rattle.ccan_object.specs.declared.register.Reg.{Reg}
use Rattle.ccan_object.specs.declared.register.Reg.TheVariants.{CMask, Mask1, Mask2, Arb1, Arb2, Ctrl, DataA1, DataA2, DataB1, DataB2}
use Rattle.ccan_object.specs.Bits.{bit, flag, part, at}
use Rattle.ccan_object.specs.Record.{IsRecord}
use Rattle.ccan_object.specs.Register.{two_bytes}
use Rattle.ccan_object.specs.Interface.{Registers, shown, set_register, with_bytes}
use Rattle.ccan_object.specs.Laws.{without_reserved, RegistersReadBack}
use Rattle.ccan_object.proofs.Flags.{flag-le, flag-bit}
use Rattle.ccan_object.proofs.Eight.{by_eight}

-- two bytes that were written, and those beside them
module _ (w : ℕ) (fits : w < 2 ^ 16) where
  written : part w 0 8 + at 8 (part w 8 8) ≡ w
  written = omega arith

  record Kept (bytes : List ℕ) : Type 0 where
    a1 : two_bytes (with_bytes 0 w bytes) 0 ≡ w
    a2 : two_bytes (with_bytes 2 w bytes) 2 ≡ w
    b1 : two_bytes (with_bytes 4 w bytes) 4 ≡ w
    b2 : two_bytes (with_bytes 6 w bytes) 6 ≡ w
    a1-a2 : two_bytes (with_bytes 0 w bytes) 2 ≡ two_bytes bytes 2
    a1-b1 : two_bytes (with_bytes 0 w bytes) 4 ≡ two_bytes bytes 4
    a1-b2 : two_bytes (with_bytes 0 w bytes) 6 ≡ two_bytes bytes 6
    a2-a1 : two_bytes (with_bytes 2 w bytes) 0 ≡ two_bytes bytes 0
    a2-b1 : two_bytes (with_bytes 2 w bytes) 4 ≡ two_bytes bytes 4
    a2-b2 : two_bytes (with_bytes 2 w bytes) 6 ≡ two_bytes bytes 6
    b1-a1 : two_bytes (with_bytes 4 w bytes) 0 ≡ two_bytes bytes 0
    b1-a2 : two_bytes (with_bytes 4 w bytes) 2 ≡ two_bytes bytes 2
    b1-b2 : two_bytes (with_bytes 4 w bytes) 6 ≡ two_bytes bytes 6
    b2-a1 : two_bytes (with_bytes 6 w bytes) 0 ≡ two_bytes bytes 0
    b2-a2 : two_bytes (with_bytes 6 w bytes) 2 ≡ two_bytes bytes 2
    b2-b1 : two_bytes (with_bytes 6 w bytes) 4 ≡ two_bytes bytes 4

  kept : (bytes : List ℕ) → length bytes ≡ 8 → Kept bytes
  kept = by_eight Kept (λ a b c d e f g h. record {
    a1 = written;
    a2 = written;
    b1 = written;
    b2 = written;
    a1-a2 = refl;
    a1-b1 = refl;
    a1-b2 = refl;
    a2-a1 = refl;
    a2-b1 = refl;
    a2-b2 = refl;
    b1-a1 = refl;
    b1-a2 = refl;
    b1-b2 = refl;
    b2-a1 = refl;
    b2-a2 = refl;
    b2-b1 = refl;
  })

  module _ (i : Registers) (is : IsRecord i.buffer) where
    mask_flags : (flag i.buffer.mxtd ≤ 1) × (flag i.buffer.mdir ≤ 1)
    mask_flags = (flag-le i.buffer.mxtd, flag-le i.buffer.mdir)

    arbitration_flags : (flag i.buffer.valid ≤ 1) × (flag i.buffer.xtd ≤ 1) × (flag i.buffer.dir ≤ 1)
    arbitration_flags = (flag-le i.buffer.valid, flag-le i.buffer.xtd, flag-le i.buffer.dir)

    own : (register : Reg) → shown register (set_register register w i) ≡ without_reserved register w
    own CMask = refl
    own Mask1 = omega (arith, is.mask, mask_flags)
    own Mask2 = rw (flag-bit w 15, flag-bit w 14) (omega (arith, is.mask))
    own Arb1 = omega (arith, is.id, arbitration_flags)
    own Arb2 = rw (flag-bit w 15, flag-bit w 14, flag-bit w 13) (omega (arith, is.id))
    own Ctrl =
        rw (flag-bit w 15, flag-bit w 14, flag-bit w 13, flag-bit w 12, flag-bit w 11, flag-bit w 10, flag-bit w 9)
        (rw (flag-bit w 8, flag-bit w 7) (omega arith))
    own DataA1 = (kept i.buffer.bytes is.length_is).a1
    own DataA2 = (kept i.buffer.bytes is.length_is).a2
    own DataB1 = (kept i.buffer.bytes is.length_is).b1
    own DataB2 = (kept i.buffer.bytes is.length_is).b2

    others : (register other : Reg) → other ≢ register → shown other (set_register register w i) ≡ shown other i
    others CMask CMask differ = absurd (differ refl)
    others CMask other differ = refl
    others Mask1 Mask1 differ = absurd (differ refl)
    others Mask1 Mask2 differ = omega (arith, is.mask, mask_flags)
    others Mask1 other differ = refl
    others Mask2 Mask2 differ = absurd (differ refl)
    others Mask2 Mask1 differ = omega (arith, is.mask, mask_flags, flag-le (bit w 15), flag-le (bit w 14))
    others Mask2 other differ = refl
    others Arb1 Arb1 differ = absurd (differ refl)
    others Arb1 Arb2 differ = omega (arith, is.id, arbitration_flags)
    others Arb1 other differ = refl
    others Arb2 Arb2 differ = absurd (differ refl)
    others Arb2 Arb1 differ =
        omega (arith, is.id, arbitration_flags, flag-le (bit w 15), flag-le (bit w 14), flag-le (bit w 13))
    others Arb2 other differ = refl
    others Ctrl Ctrl differ = absurd (differ refl)
    others Ctrl other differ = refl
    others DataA1 DataA1 differ = absurd (differ refl)
    others DataA1 DataA2 differ = (kept i.buffer.bytes is.length_is).a1-a2
    others DataA1 DataB1 differ = (kept i.buffer.bytes is.length_is).a1-b1
    others DataA1 DataB2 differ = (kept i.buffer.bytes is.length_is).a1-b2
    others DataA1 other differ = refl
    others DataA2 DataA2 differ = absurd (differ refl)
    others DataA2 DataA1 differ = (kept i.buffer.bytes is.length_is).a2-a1
    others DataA2 DataB1 differ = (kept i.buffer.bytes is.length_is).a2-b1
    others DataA2 DataB2 differ = (kept i.buffer.bytes is.length_is).a2-b2
    others DataA2 other differ = refl
    others DataB1 DataB1 differ = absurd (differ refl)
    others DataB1 DataA1 differ = (kept i.buffer.bytes is.length_is).b1-a1
    others DataB1 DataA2 differ = (kept i.buffer.bytes is.length_is).b1-a2
    others DataB1 DataB2 differ = (kept i.buffer.bytes is.length_is).b1-b2
    others DataB1 other differ = refl
    others DataB2 DataB2 differ = absurd (differ refl)
    others DataB2 DataA1 differ = (kept i.buffer.bytes is.length_is).b2-a1
    others DataB2 DataA2 differ = (kept i.buffer.bytes is.length_is).b2-a2
    others DataB2 DataB1 differ = (kept i.buffer.bytes is.length_is).b2-b1
    others DataB2 other differ = refl

pub read_back : RegistersReadBack
read_back register other w i fits is = (own w fits i is register, others w fits i is register other)
