-- Where the registers are in C_CAN with its 16-bit registers side by side. Source: C_CAN User's Manual 1.2, section 3
-- (Programmer's Model); the table reg_map_c_can of the mainline Linux driver c_can has the same offsets. The places of the
-- flags of objects 33 to 64 are this project's own.
use Rattle.std.specs.Prelude.{ℕ, ◌≡◌, ◌+◌, ◌*◌, ⊤}
use Rattle.ccan_object.specs.declared.register.Reg.{Reg}
use Rattle.ccan_object.specs.declared.register.Reg.TheVariants.{CMask, Mask1, Mask2, Arb1, Arb2, Ctrl, DataA1, DataA2, DataB1, DataB2}
use Rattle.ccan_ram.specs.declared.flag.Flag.{Flag}
use Rattle.ccan_ram.specs.declared.flag.Flag.TheVariants.{NewDat, MsgLst, IntPnd, TxRqst, MsgVal}
use Rattle.ccan_chip.specs.declared.interface.Interface.{Interface}
use Rattle.ccan_chip.specs.declared.interface.Interface.TheVariants.{One, Two}
use Rattle.ccan_chip.specs.declared.register.Register.{Register}
use Rattle.ccan_chip.specs.declared.register.Register.TheVariants.{Control, ControlUpper, Status, ErrorCounter, BitTiming, Interrupt, Test, Extension, Request, Buffer, Flags}
use Rattle.ccan_chip.specs.FlagPart.{index_of}

-- where an interface begins
abbrev pub interface_base : Interface → ℕ
interface_base One = 0x10
interface_base Two = 0x40

-- how far from there a register is
abbrev pub buffer_place : Reg → ℕ
buffer_place CMask = 0x02
buffer_place Mask1 = 0x04
buffer_place Mask2 = 0x06
buffer_place Arb1 = 0x08
buffer_place Arb2 = 0x0a
buffer_place Ctrl = 0x0c
buffer_place DataA1 = 0x0e
buffer_place DataA2 = 0x10
buffer_place DataB1 = 0x12
buffer_place DataB2 = 0x14

-- where the registers of a flag begin; MsgLst has none, and its number here means nothing
abbrev pub flag_base : Flag → ℕ
flag_base TxRqst = 0x80
flag_base NewDat = 0x90
flag_base IntPnd = 0xa0
flag_base MsgVal = 0xb0
flag_base MsgLst = 0x00

-- where a register is; there is no upper half of Control, and its number here means nothing
abbrev pub narrow_offset : Register → ℕ
narrow_offset Control = 0x00
narrow_offset ControlUpper = 0x00
narrow_offset Status = 0x02
narrow_offset ErrorCounter = 0x04
narrow_offset BitTiming = 0x06
narrow_offset Interrupt = 0x08
narrow_offset Test = 0x0a
narrow_offset Extension = 0x0c
narrow_offset (Request interface) = interface_base interface
narrow_offset (Buffer interface register) = interface_base interface + buffer_place register
narrow_offset (Flags flag part) = flag_base flag + 2 * index_of part

-- a register of an interface, this far from where the interface begins
abbrev pub IsAtInterface : Interface → ℕ → Register → Type 0
IsAtInterface interface place (Request owner) = (owner ≡ interface) × (0 ≡ place)
IsAtInterface interface place (Buffer owner register) = (owner ≡ interface) × (buffer_place register ≡ place)
IsAtInterface interface place register = ⊥

-- a register that a chip has once, neither in an interface nor for a flag
abbrev pub IsGeneral : Register → Type 0
IsGeneral (Request interface) = ⊥
IsGeneral (Buffer interface register) = ⊥
IsGeneral (Flags flag part) = ⊥
IsGeneral ControlUpper = ⊥
IsGeneral register = ⊤
