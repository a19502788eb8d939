use Rattle.std.proofs.Common.{◌≡◌, ◌*◌, ◌%◌, ◌^◌, ℕ, Bool, true, false, sym, ap, cond, arith}
use Rattle.std.specs.Prelude.{bit_xor}
use mathlib.Core.Bool.{xor}
use Rattle.std.proofs.lemmas.Nat.{xor_lt}
use Rattle.ccan_object.specs.Bits.{bit}
use Rattle.ccan_time.specs.Transmitter.{register_with}
use Rattle.ccan_time.proofs.register.register_with.Goals as goal

changed : (register : ℕ) (b : Bool) (differs : Bool) → xor b (bit register 14) ≡ differs
    → register_with register b ≡ cond differs (bit_xor (register * 2 % 2 ^ 15) 0x4599) (register * 2 % 2 ^ 15)
unfolding register_with
changed register b differs h =
    ap (λ (t : Bool). cond t (bit_xor (register * 2 % 2 ^ 15) 0x4599) (register * 2 % 2 ^ 15)) h

pub returns-then-bit-leaving-clause-value : goal.returns-then-bit-leaving-clause-value
unfolding xor
returns-then-bit-leaving-clause-value c = sym (changed c.args.register c.args.bit true c.if-bit-leaving.true)

pub returns-then-bit-leaving-clause-in_range : goal.returns-then-bit-leaving-clause-in_range
returns-then-bit-leaving-clause-in_range c =
    xor_lt 15 (c.args.register * 2 % 32768) 17817 (omega arith) (omega arith)

pub returns-else-bit-leaving-clause-value : goal.returns-else-bit-leaving-clause-value
unfolding xor
returns-else-bit-leaving-clause-value c = sym (changed c.args.register c.args.bit false c.if-bit-leaving.false)
