-- The flags of the Message Handler Registers, as they stand in a record's marks.
use Rattle.std.proofs.Common.{◌≡◌, ℕ, ◌/◌, ◌%◌, ◌==◌, ◌≤◌, Bool, true, false, ap, subst, arith}
use Rattle.ccan_object.specs.declared.record.Record.{Record}
use Rattle.ccan_object.specs.Bits.{flag}
use Rattle.ccan_ram.specs.declared.handler_registers.HandlerRegisters.{HandlerRegisters}
use Rattle.ccan_ram.specs.HandlerRegisters.{with_bit, with_flags}
use Rattle.ccan_endless.specs.Parts.{marks_of}
use Rattle.ccan_endless.specs.Picture.{AddsMarks}
use Rattle.ccan_endless.proofs.Marks.{limits}

pub is_set : (on : Bool) (b : ℕ) → b ≡ flag on → (b == 1) ≡ on
is_set true b h = ap (λ (n : ℕ). n == 1) h
is_set false b h = ap (λ (n : ℕ). n == 1) h

module _ (r : Record) (short : r.dlc ≤ 15) where
  newdat : (marks_of r / 4096 % 2 == 1) ≡ r.newdat
  newdat = is_set r.newdat (marks_of r / 4096 % 2) (omega (arith, short, limits r short))

  msglst : (marks_of r / 2048 % 2 == 1) ≡ r.msglst
  msglst = is_set r.msglst (marks_of r / 2048 % 2) (omega (arith, short, limits r short))

  intpnd : (marks_of r / 1024 % 2 == 1) ≡ r.intpnd
  intpnd = is_set r.intpnd (marks_of r / 1024 % 2) (omega (arith, short, limits r short))

  txrqst : (marks_of r / 32 % 2 == 1) ≡ r.txrqst
  txrqst = is_set r.txrqst (marks_of r / 32 % 2) (omega (arith, short, limits r short))

  msgval : (marks_of r / 8192 % 2 == 1) ≡ r.valid
  msgval = is_set r.valid (marks_of r / 8192 % 2) (omega (arith, short, limits r short))

-- the registers with the flags that marks show
abbrev pub with_marked : ℕ → ℕ → HandlerRegisters → HandlerRegisters
with_marked place marks registers =
    record {
      newdat = with_bit registers.newdat place (marks / 4096 % 2 == 1);
      msglst = with_bit registers.msglst place (marks / 2048 % 2 == 1);
      intpnd = with_bit registers.intpnd place (marks / 1024 % 2 == 1);
      txrqst = with_bit registers.txrqst place (marks / 32 % 2 == 1);
      msgval = with_bit registers.msgval place (marks / 8192 % 2 == 1);
    }

-- are those with the flags of the record
pub marked : (place marks : ℕ) (registers : HandlerRegisters)
    → AddsMarks place marks registers (with_marked place marks registers)
marked place marks registers r is e =
    subst (λ (m : ℕ). with_marked place m registers ≡ with_flags place r registers) e
    (λ i. record {
      newdat = with_bit registers.newdat place (newdat r is.dlc i);
      msglst = with_bit registers.msglst place (msglst r is.dlc i);
      intpnd = with_bit registers.intpnd place (intpnd r is.dlc i);
      txrqst = with_bit registers.txrqst place (txrqst r is.dlc i);
      msgval = with_bit registers.msgval place (msgval r is.dlc i);
    })
