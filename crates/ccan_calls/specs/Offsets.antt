-- Which register of a chip is at an offset. Source: this project's own, over the places of the registers (C_CAN User's Manual 1.2,
-- section 3, Programmer's Model).
use Rattle.std.specs.Prelude.{ℕ, ◌+◌, ◌*◌, ◌==◌, Bool, true, false, ◌&&◌, List, [], ◌∷◌, ◌++◌, map, flat_map, find, Option, nat_le}
use Rattle.ccan_object.specs.declared.profile.Profile.{Profile}
use Rattle.ccan_object.specs.declared.register.Reg.{Reg}
use Rattle.ccan_object.specs.declared.register.Reg.TheVariants.{CMask, Mask1, Mask2, Arb1, Arb2, Ctrl, DataA1, DataA2, DataB1, DataB2}
use Rattle.ccan_object.specs.Profile.{objects_in}
use Rattle.ccan_ram.specs.declared.flag.Flag.{Flag}
use Rattle.ccan_ram.specs.declared.flag.Flag.TheVariants.{NewDat, MsgLst, IntPnd, TxRqst, MsgVal}
use Rattle.ccan_chip.specs.declared.flag_part.FlagPart.{FlagPart}
use Rattle.ccan_chip.specs.declared.flag_part.FlagPart.TheVariants.{First, Second, Third, Fourth}
use Rattle.ccan_chip.specs.declared.interface.Interface.{Interface}
use Rattle.ccan_chip.specs.declared.interface.Interface.TheVariants.{One, Two}
use Rattle.ccan_chip.specs.declared.map.Map.{Map}
use Rattle.ccan_chip.specs.declared.map.Map.TheVariants.{Dcan, Narrow, Wide}
use Rattle.ccan_chip.specs.declared.register.Register.{Register}
use Rattle.ccan_chip.specs.declared.register.Register.TheVariants as register
use Rattle.ccan_chip.specs.FlagPart.{index_of}
use Rattle.ccan_chip.specs.Map.{offset_of}

abbrev pub all_flags : List Flag
all_flags = TxRqst ∷ NewDat ∷ IntPnd ∷ MsgVal ∷ []

abbrev pub all_parts : List FlagPart
all_parts = First ∷ Second ∷ Third ∷ Fourth ∷ []

abbrev pub all_regs : List Reg
all_regs = CMask ∷ Mask1 ∷ Mask2 ∷ Arb1 ∷ Arb2 ∷ Ctrl ∷ DataA1 ∷ DataA2 ∷ DataB1 ∷ DataB2 ∷ []

abbrev pub interface_registers : Interface → List Register
interface_registers interface =
    register.Request interface ∷ map (λ reg. register.Buffer interface reg) all_regs

abbrev pub flag_registers : List Register
flag_registers = flat_map (λ flag. map (λ place. register.Flags flag place) all_parts) all_flags

-- the registers that a chip may have
abbrev pub all_registers : List Register
all_registers =
    register.Control ∷ register.ControlUpper ∷ register.Status ∷ register.ErrorCounter ∷ register.BitTiming
    ∷ register.Interrupt ∷ register.Test ∷ register.Extension
    ∷ interface_registers One ++ (interface_registers Two ++ flag_registers)

-- only a D_CAN has the upper half of Control
abbrev pub has_upper : Map → Bool
has_upper Narrow = false
has_upper Wide = false
has_upper Dcan = true

-- MsgLst has no register
abbrev pub has_words : Flag → Bool
has_words MsgLst = false
has_words flag = true

-- whether a chip of this layout and profile has the register
abbrev pub has_register : Map → Profile → Register → Bool
has_register map profile register.ControlUpper = has_upper map
has_register map profile (register.Flags flag place) =
    has_words flag && nat_le (16 * (index_of place + 1)) (objects_in profile)
has_register map profile r = true

-- the register is at the offset
abbrev pub is_at : Map → Profile → ℕ → Register → Bool
is_at map profile offset r = has_register map profile r && offset_of map r == offset

abbrev pub register_at : Map → Profile → ℕ → Option Register
register_at map profile offset = find (is_at map profile offset) all_registers

-- ---- which registers are the halves of a word

-- the lower half of the word at an offset is this register, and the upper half this one
abbrev pub are_halves : Map → Profile → ℕ → Register → Register → Bool
are_halves map profile offset low high = is_at map profile offset low && is_at map profile (offset + 2) high

-- a flag, and the objects of two registers of it
abbrev pub FlagWord : Type 0
FlagWord = Flag × FlagPart × FlagPart

abbrev pub all_flag_words : List FlagWord
all_flag_words =
    flat_map (λ flag. flat_map (λ low. map (λ high. (flag, low, high)) all_parts) all_parts) all_flags

-- the flag that both halves are registers of, if they are of one
abbrev pub flag_word_at : Map → Profile → ℕ → Option FlagWord
flag_word_at map profile offset =
    find (λ (word : FlagWord). are_halves map profile offset (register.Flags word.0 word.1) (register.Flags word.0 word.2))
    all_flag_words
