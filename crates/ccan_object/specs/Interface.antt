-- An interface register set: the Command Mask register, and the message buffer that the other nine registers show.
-- Source: C_CAN User's Manual 1.2, section 3.3 (Message Interface Register Sets) and section 4.2.1.
use Rattle.std.specs.Prelude.{ℕ, ◌+◌, ◌++◌, List, ◌∷◌, take, drop, if◌then◌else◌}
use Rattle.ccan_object.specs.declared.record.Record.{Record}
use Rattle.ccan_object.specs.declared.command.CommandMask.{CommandMask}
use Rattle.ccan_object.specs.declared.register.Reg.{Reg}
use Rattle.ccan_object.specs.declared.register.Reg.TheVariants.{CMask, Mask1, Mask2, Arb1, Arb2, Ctrl, DataA1, DataA2, DataB1, DataB2}
use Rattle.ccan_object.specs.Bits.{bit, part, at}
use Rattle.ccan_object.specs.Command.{bits_of, command_in, is_write}
use Rattle.ccan_object.specs.Group.{by_groups}
use Rattle.ccan_object.specs.Record.{zero_record}
use Rattle.ccan_object.specs.Register.{register_of}

pub record Registers : Type 0 where
  pub command : CommandMask
  pub buffer : Record

-- all registers read 0
abbrev pub zero_registers : Registers
zero_registers = record { command = command_in 0; buffer = zero_record }

-- the number in a register
abbrev pub shown : Reg → Registers → ℕ
shown CMask i = bits_of i.command
shown register i = register_of register i.buffer

-- the fields of Message Control, from their places
abbrev pub with_control : ℕ → Record → Record
with_control w r =
    record r {
      newdat = bit w 15;
      msglst = bit w 14;
      intpnd = bit w 13;
      umask = bit w 12;
      txie = bit w 11;
      rxie = bit w 10;
      rmten = bit w 9;
      txrqst = bit w 8;
      eob = bit w 7;
      dlc = part w 0 4;
    }

-- two neighbouring bytes, the first from the low half
abbrev pub with_bytes : ℕ → ℕ → List ℕ → List ℕ
with_bytes first w bytes = take first bytes ++ part w 0 8 ∷ part w 8 8 ∷ drop (first + 2) bytes

-- the record that the buffer holds once a register of it is written: the fields in the register come from their places,
-- all others stay
abbrev pub with_register : Reg → ℕ → Record → Record
with_register CMask w r = r
with_register Mask1 w r = record r { mask = at 16 (part r.mask 16 13) + part w 0 16 }
with_register Mask2 w r = record r { mxtd = bit w 15; mdir = bit w 14; mask = at 16 (part w 0 13) + part r.mask 0 16 }
with_register Arb1 w r = record r { id = at 16 (part r.id 16 13) + part w 0 16 }
with_register Arb2 w r = record r { valid = bit w 15; xtd = bit w 14; dir = bit w 13; id = at 16 (part w 0 13) + part r.id 0 16 }
with_register Ctrl w r = with_control w r
with_register DataA1 w r = record r { bytes = with_bytes 0 w r.bytes }
with_register DataA2 w r = record r { bytes = with_bytes 2 w r.bytes }
with_register DataB1 w r = record r { bytes = with_bytes 4 w r.bytes }
with_register DataB2 w r = record r { bytes = with_bytes 6 w r.bytes }

-- the registers once one of them is written
abbrev pub set_register : Reg → ℕ → Registers → Registers
set_register CMask w i = record i { command = command_in w }
set_register register w i = record i { buffer = with_register register w i.buffer }

-- the registers once a transfer has ended: after a write the whole buffer is the object as written, after a read the
-- selected groups come from the object
abbrev pub filled : CommandMask → Record → Registers → Registers
filled c object i = record i { buffer = (if is_write c then object else by_groups c object i.buffer) }
