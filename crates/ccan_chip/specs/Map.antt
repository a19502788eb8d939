-- The layouts in which drivers meet the registers of the chip. Source: C_CAN User's Manual 1.2, section 3 (Programmer's
-- Model), and Texas Instruments AM335x Technical Reference Manual, chapter DCAN; that each 16-bit register may be at twice
-- its address, aligned to 32 bits, is as the mainline Linux driver c_can has it. The numbers of the layouts are this
-- project's own.
use Rattle.std.specs.Prelude.{ℕ, ◌*◌}
use Rattle.ccan_chip.specs.declared.map.Map.{Map}
use Rattle.ccan_chip.specs.declared.map.Map.TheVariants.{Narrow, Wide, Dcan}
use Rattle.ccan_chip.specs.declared.register.Register.{Register}
use Rattle.ccan_chip.specs.Narrow.{narrow_offset}
use Rattle.ccan_chip.specs.Dcan.{dcan_offset}

abbrev pub map_number : Map → ℕ
map_number Narrow = 0
map_number Wide = 1
map_number Dcan = 2

-- the offset of a register in bytes
abbrev pub offset_of : Map → Register → ℕ
offset_of Narrow register = narrow_offset register
offset_of Wide register = 2 * narrow_offset register
offset_of Dcan register = dcan_offset register
