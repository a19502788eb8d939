-- The registers of an interface as they begin. Source: C_CAN User's Manual 1.2, section 3.3 (the reset values of the IFx
-- registers); bit 13 of Mask 2, which is reserved, reads 0 here.
use Rattle.std.specs.Prelude.{ℕ, ◌≡◌}
use Rattle.ccan_object.specs.declared.register.Reg.TheVariants.{Mask1, Mask2}
use Rattle.ccan_object.specs.Interface.{set_register, zero_registers}
use Rattle.ccan_object.specs.Number.{requested}
use Rattle.ccan_ram.specs.Terms.{Terms}
use Rattle.ccan_line.specs.declared.line_answer.LineAnswer.{LineAnswer}
use Rattle.ccan_endless.specs.Chip.{ChipHistory}
use Rattle.ccan_registers.specs.declared.interface_set.InterfaceSet.{InterfaceSet}
use Rattle.ccan_registers.specs.Objects.{Transfers}

-- all registers read 0, and the Command Request register names object 1
abbrev pub zero_set : InterfaceSet
zero_set = record { registers = zero_registers; asked = 1 }

-- after a reset all bits of the masks are 1
abbrev pub reset_set : InterfaceSet
reset_set = record { registers = set_register Mask2 0xffff (set_register Mask1 0xffff zero_registers); asked = 1 }

-- a transfer with these registers, and the Command Request register then reads the number of its object
pub record Transferred (terms : Terms) (tries request : ℕ) (own : InterfaceSet) (seen added : ChipHistory) (reply : LineAnswer)
    (left : InterfaceSet) : Type 0 where
  pub transfers : Transfers terms tries request own.registers seen added reply left.registers
  pub asked : left.asked ≡ requested terms.profile request
