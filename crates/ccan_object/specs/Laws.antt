-- Laws of the definitions, in the words of the manual.
use Rattle.std.specs.Prelude.{ℕ, ◌≡◌, ◌≢◌, ◌↔◌, ◌<◌, ◌+◌, ◌^◌, true, false, ◌&&◌, not, if◌then◌else◌, IsTrue, Some, IfSome, IsNone, List}
use Rattle.ccan_object.specs.declared.record.Record.{Record}
use Rattle.ccan_object.specs.declared.command.CommandMask.{CommandMask}
use Rattle.ccan_object.specs.declared.register.Reg.{Reg}
use Rattle.ccan_object.specs.declared.register.Reg.TheVariants.{CMask, Mask2, Ctrl}
use Rattle.ccan_object.specs.declared.group.Group.{Group}
use Rattle.ccan_object.specs.declared.group.Group.TheVariants.{Control}
use Rattle.ccan_object.specs.Bits.{part, at}
use Rattle.ccan_object.specs.Command.{clears_intpnd, has_txrqst_newdat, is_write}
use Rattle.ccan_object.specs.Group.{selects, fields_of}
use Rattle.ccan_object.specs.Record.{IsRecord}
use Rattle.ccan_object.specs.Register.{control}
use Rattle.ccan_object.specs.Transfer.{merged, cleared}
use Rattle.ccan_object.specs.Interface.{Registers, shown, set_register, filled}
use Rattle.ccan_object.specs.Packing.{packed, unpacked_from, IsThreeWords}

-- ---- transfers
-- a record has the fields of one record in each group that a command selects, and those of another in each other group
abbrev pub GoesByGroups : CommandMask → Record → Record → Record → Type 0
GoesByGroups command selected other r =
    (group : Group) → fields_of group r ≡ (if selects command group then fields_of group selected else fields_of group other)

-- a masked write takes each selected group from the buffer and leaves each other group as it was; bit 2 makes TxRqst 1,
-- without it TxRqst goes with Control
abbrev pub WritesByGroups : Type 0
WritesByGroups =
    (command : CommandMask) (buffer old : Record) → IsRecord buffer → IsRecord old
    → GoesByGroups command buffer old (merged command buffer old)
    × ((merged command buffer old).txrqst
    ≡ (if has_txrqst_newdat command then true else (if selects command Control then buffer.txrqst else old.txrqst)))

-- a read shows each selected group of the object in the interface buffer and leaves each other group of the buffer; TxRqst
-- goes with Control
abbrev pub ReadsByGroups : Type 0
ReadsByGroups =
    (command : CommandMask) (object : Record) (i : Registers) → IsRecord object → IsRecord i.buffer → is_write command ≡ false
    → GoesByGroups command object i.buffer (filled command object i).buffer
    × ((filled command object i).buffer.txrqst ≡ (if selects command Control then object.txrqst else i.buffer.txrqst))

-- the registers before and after a read, and the object before and after it: the buffer shows the object as it was before,
-- group by group, and Message Control with the flags from before; in the object ClrIntPnd clears IntPnd, bit 2 clears
-- NewDat, and nothing else changes
pub record ShowsThenClears (command : CommandMask) (old new : Registers) (before after : Record) : Type 0 where
  pub groups : GoesByGroups command before old.buffer new.buffer
  pub flags : IsTrue (selects command Control) → shown Ctrl new ≡ control before
  pub intpnd : after.intpnd ≡ (before.intpnd && not (clears_intpnd command))
  pub newdat : after.newdat ≡ (before.newdat && not (has_txrqst_newdat command))
  pub others : record after { intpnd = before.intpnd; newdat = before.newdat } ≡ before

-- a clearing read fills the registers from the object as it was before, and then clears it
abbrev pub ReadsBeforeClearing : Type 0
ReadsBeforeClearing =
    (command : CommandMask) (object : Record) (i : Registers) → IsRecord object → IsRecord i.buffer → is_write command ≡ false
    → ShowsThenClears command i (filled command object i) object (cleared command object)

-- ---- registers
-- a number less the reserved bits of a register: bits 15 to 8 of the Command Mask, bit 13 of Mask 2, bits 6 to 4 of
-- Message Control
abbrev pub without_reserved : Reg → ℕ → ℕ
without_reserved CMask w = part w 0 8
without_reserved Mask2 w = at 14 (part w 14 2) + part w 0 13
without_reserved Ctrl w = at 7 (part w 7 9) + part w 0 4
without_reserved register w = w

-- a register reads back as it was written, less its reserved bits, and every other register as before
abbrev pub RegistersReadBack : Type 0
RegistersReadBack =
    (register other : Reg) (w : ℕ) (i : Registers) → w < 2 ^ 16 → IsRecord i.buffer
    → (shown register (set_register register w i) ≡ without_reserved register w)
    × (other ≢ register → shown other (set_register register w i) ≡ shown other i)

-- ---- packing
-- what some words hold is a record, and packs to them again
abbrev pub PacksBack : List ℕ → Type 0
PacksBack words = IfSome (unpacked_from words) (λ object. IsRecord object × (packed object ≡ words))

-- no record packs to some words
abbrev pub NoRecordPacks : List ℕ → Type 0
NoRecordPacks words = (object : Record) → IsRecord object → packed object ≢ words

-- the words of a record hold that record; what three words hold packs to them again; and they hold none exactly when no
-- record packs to them
abbrev pub RoundTrips : Type 0
RoundTrips =
    ((object : Record) → IsRecord object → unpacked_from (packed object) ≡ Some object)
    × ((words : List ℕ) → IsThreeWords words → PacksBack words)
    × ((words : List ℕ) → IsThreeWords words → IsNone (unpacked_from words) ↔ NoRecordPacks words)
