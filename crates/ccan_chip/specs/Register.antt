-- Which registers a chip has. Source: C_CAN User's Manual 1.2, section 3 (Programmer's Model); that a D_CAN has the upper half
-- of CAN Control too: Texas Instruments AM335x Technical Reference Manual, chapter DCAN; that the flags of objects 33 to 64 have
-- registers if there are 64 objects is this project's own.
use Rattle.std.specs.Prelude.{ℕ, ◌≡◌, ⊤}
use Rattle.ccan_object.specs.declared.profile.Profile.{Profile}
use Rattle.ccan_ram.specs.declared.flag.Flag.{Flag}
use Rattle.ccan_ram.specs.declared.flag.Flag.TheVariants.{MsgLst}
use Rattle.ccan_chip.specs.declared.map.Map.{Map}
use Rattle.ccan_chip.specs.declared.map.Map.TheVariants.{Narrow, Wide, Dcan}
use Rattle.ccan_chip.specs.declared.register.Register.{Register}
use Rattle.ccan_chip.specs.declared.register.Register.TheVariants.{ControlUpper, Flags}
use Rattle.ccan_chip.specs.FlagPart.{HasObjectsOf, IsPlaceOf}

-- the flag has registers
abbrev pub HasRegisters : Flag → Type 0
HasRegisters MsgLst = ⊥
HasRegisters flag = ⊤

-- a C_CAN with this many objects has the register
abbrev pub IsInCcan : Profile → Register → Type 0
IsInCcan profile ControlUpper = ⊥
IsInCcan profile (Flags flag part) = HasRegisters flag × HasObjectsOf profile part
IsInCcan profile register = ⊤

-- a D_CAN with this many objects has the register
abbrev pub IsInDcan : Profile → Register → Type 0
IsInDcan profile (Flags flag part) = HasRegisters flag × HasObjectsOf profile part
IsInDcan profile register = ⊤

-- a chip of this layout with this many objects has the register
abbrev pub IsIn : Map → Profile → Register → Type 0
IsIn Narrow profile register = IsInCcan profile register
IsIn Wide profile register = IsInCcan profile register
IsIn Dcan profile register = IsInDcan profile register

-- a register of a flag, this far from where the flag's registers begin, which a chip with this many objects has
abbrev pub IsAtFlag : Profile → Flag → ℕ → Register → Type 0
IsAtFlag profile flag place (Flags owner part) = (owner ≡ flag) × IsPlaceOf profile place part
IsAtFlag profile flag place register = ⊥
