-- The Message Handler Registers: a word for each flag, in which bit k - 1 is that flag of object k. Source: C_CAN User's
-- Manual 1.2, section 3.4, which has TxRqst, NewDat, IntPnd and MsgVal, each in two registers; the word of MsgLst is this
-- project's own.
use Rattle.std.specs.Prelude.{ℕ, zero, suc, ◌+◌, ◌<◌, ◌^◌, Bool, List, [], ◌∷◌, length, if◌then◌else◌}
use Rattle.ccan_object.specs.declared.profile.Profile.{Profile}
use Rattle.ccan_object.specs.declared.record.Record.{Record}
use Rattle.ccan_object.specs.Profile.{objects_in}
use Rattle.ccan_ram.specs.declared.event.Event.{Event}
use Rattle.ccan_ram.specs.declared.flag.Flag.{Flag}
use Rattle.ccan_ram.specs.declared.flag.Flag.TheVariants.{NewDat, MsgLst, IntPnd, TxRqst, MsgVal}
use Rattle.ccan_ram.specs.declared.handler_registers.HandlerRegisters.{HandlerRegisters}
use Rattle.ccan_ram.specs.Flags.{flag_of}
use Rattle.ccan_ram.specs.History.{record_at}

-- the word with one more bit
abbrev pub with_bit : ℕ → ℕ → Bool → ℕ
with_bit word place is_set = word + (if is_set then 2 ^ place else 0)

-- the word of a flag that these records show, the last first: the flag of the first record is bit 0
abbrev pub flag_word : Flag → List Record → ℕ
flag_word flag [] = 0
flag_word flag (last ∷ before) = with_bit (flag_word flag before) (length before) (flag_of flag last)

-- the records of objects 1 to n in the memory that a history left, the last first
abbrev pub first_records : ℕ → List Event → List Record
first_records zero history = []
first_records (suc n) history = record_at (suc n) history ∷ first_records n history

-- the registers that these records show
abbrev pub registers_of : List Record → HandlerRegisters
registers_of shown =
    record {
      newdat = flag_word NewDat shown;
      msglst = flag_word MsgLst shown;
      intpnd = flag_word IntPnd shown;
      txrqst = flag_word TxRqst shown;
      msgval = flag_word MsgVal shown;
    }

-- the registers in the memory that a history left
abbrev pub registers_at : Profile → List Event → HandlerRegisters
registers_at profile history = registers_of (first_records (objects_in profile) history)

-- the register of a flag
abbrev pub register_of : Flag → HandlerRegisters → ℕ
register_of NewDat registers = registers.newdat
register_of MsgLst registers = registers.msglst
register_of IntPnd registers = registers.intpnd
register_of TxRqst registers = registers.txrqst
register_of MsgVal registers = registers.msgval

abbrev pub zero_registers : HandlerRegisters
zero_registers = record { newdat = 0; msglst = 0; intpnd = 0; txrqst = 0; msgval = 0 }

-- the registers with the flags of one more object
abbrev pub with_flags : ℕ → Record → HandlerRegisters → HandlerRegisters
with_flags place object registers =
    record {
      newdat = with_bit registers.newdat place object.newdat;
      msglst = with_bit registers.msglst place object.msglst;
      intpnd = with_bit registers.intpnd place object.intpnd;
      txrqst = with_bit registers.txrqst place object.txrqst;
      msgval = with_bit registers.msgval place object.valid;
    }

-- no register has a bit from this place on
abbrev pub AreBelow : ℕ → HandlerRegisters → Type 0
AreBelow place registers = (flag : Flag) → register_of flag registers < 2 ^ place
