-- Which register C_CAN has at an offset, by the block that the offset is in, and that no two share one.
use Rattle.std.proofs.Common.{ℕ, ◌≡◌, ◌+◌, ◌-◌, ◌≤◌, refl, ap, arith}
use Rattle.ccan_object.specs.declared.profile.Profile.{Profile}
use Rattle.ccan_object.specs.declared.register.Reg.{Reg}
use Rattle.ccan_ram.specs.declared.flag.Flag.{Flag}
use Rattle.ccan_ram.specs.declared.flag.Flag.TheVariants.{NewDat, MsgLst, IntPnd, TxRqst, MsgVal}
use Rattle.ccan_chip.specs.declared.interface.Interface.{Interface}
use Rattle.ccan_chip.specs.declared.interface.Interface.TheVariants.{One, Two}
use Rattle.ccan_chip.specs.declared.register.Register.{Register}
use Rattle.ccan_chip.specs.declared.register.Register.TheVariants.{Control, ControlUpper, Status, ErrorCounter, BitTiming, Interrupt, Test, Extension, Request, Buffer, Flags}
use Rattle.ccan_chip.specs.Narrow.{interface_base, buffer_place, flag_base, narrow_offset, IsAtInterface}
use Rattle.ccan_chip.specs.Register.{HasRegisters, IsInCcan, IsAtFlag}
use Rattle.ccan_chip.proofs.Parts.{index-within, index-apart}

buffer-within : (register : Reg) → buffer_place register ≤ 0x14
buffer-within register = grind arith

buffer-above : (register : Reg) → 0x02 ≤ buffer_place register
buffer-above register = grind arith

buffer-apart : (a b : Reg) → buffer_place a ≡ buffer_place b → a ≡ b
buffer-apart a b e = grind arith

module _ (profile : Profile) (offset : ℕ) where
  -- an offset in the block of an interface is of one of its registers
  pub at_interface : (interface : Interface) (r : Register) → IsInCcan profile r → narrow_offset r ≡ offset
      → interface_base interface ≤ offset → offset ≤ interface_base interface + 0x14
      → IsAtInterface interface (offset - interface_base interface) r
  at_interface One (Request One) has is low high = (refl, omega arith)
  at_interface One (Buffer One register) has is low high = (refl, omega arith)
  at_interface Two (Request Two) has is low high = (refl, omega arith)
  at_interface Two (Buffer Two register) has is low high = (refl, omega arith)
  at_interface interface (Flags MsgLst part) has is low high = absurd has.0
  at_interface interface r has is low high = absurd (omega (arith, buffer-within, index-within))

  -- an offset in the block of a flag is of one of its registers
  pub at_flag : (flag : Flag) (r : Register) → HasRegisters flag → IsInCcan profile r → narrow_offset r ≡ offset
      → flag_base flag ≤ offset → offset ≤ flag_base flag + 0x06
      → IsAtFlag profile flag (offset - flag_base flag) r
  at_flag TxRqst (Flags TxRqst part) shown has is low high = (refl, record { stands = omega arith; has = has.1 })
  at_flag NewDat (Flags NewDat part) shown has is low high = (refl, record { stands = omega arith; has = has.1 })
  at_flag IntPnd (Flags IntPnd part) shown has is low high = (refl, record { stands = omega arith; has = has.1 })
  at_flag MsgVal (Flags MsgVal part) shown has is low high = (refl, record { stands = omega arith; has = has.1 })
  at_flag MsgLst r shown has is low high = absurd shown
  at_flag flag (Flags MsgLst part) shown has is low high = absurd has.0
  at_flag flag (Request One) shown has is low high = absurd (omega arith)
  at_flag flag (Buffer One register) shown has is low high = absurd (omega (arith, buffer-within))
  at_flag flag r shown has is low high = absurd (omega (arith, buffer-within, index-within))

-- two registers of a chip never share an offset
pub narrow-apart : (profile : Profile) (a b : Register) → IsInCcan profile a → IsInCcan profile b
    → narrow_offset a ≡ narrow_offset b → a ≡ b
narrow-apart profile Control Control has_a has_b e = refl
narrow-apart profile Status Status has_a has_b e = refl
narrow-apart profile ErrorCounter ErrorCounter has_a has_b e = refl
narrow-apart profile BitTiming BitTiming has_a has_b e = refl
narrow-apart profile Interrupt Interrupt has_a has_b e = refl
narrow-apart profile Test Test has_a has_b e = refl
narrow-apart profile Extension Extension has_a has_b e = refl
narrow-apart profile (Request One) (Request One) has_a has_b e = refl
narrow-apart profile (Request Two) (Request Two) has_a has_b e = refl
narrow-apart profile (Buffer One a) (Buffer One b) has_a has_b e = ap (Buffer One) (buffer-apart a b (omega arith))
narrow-apart profile (Buffer Two a) (Buffer Two b) has_a has_b e = ap (Buffer Two) (buffer-apart a b (omega arith))
narrow-apart profile (Flags TxRqst a) (Flags TxRqst b) has_a has_b e = ap (Flags TxRqst) (index-apart a b (omega arith))
narrow-apart profile (Flags NewDat a) (Flags NewDat b) has_a has_b e = ap (Flags NewDat) (index-apart a b (omega arith))
narrow-apart profile (Flags IntPnd a) (Flags IntPnd b) has_a has_b e = ap (Flags IntPnd) (index-apart a b (omega arith))
narrow-apart profile (Flags MsgVal a) (Flags MsgVal b) has_a has_b e = ap (Flags MsgVal) (index-apart a b (omega arith))
narrow-apart profile ControlUpper b has_a has_b e = absurd has_a
narrow-apart profile (Flags MsgLst a) b has_a has_b e = absurd has_a.0
narrow-apart profile a ControlUpper has_a has_b e = absurd has_b
narrow-apart profile a (Flags MsgLst b) has_a has_b e = absurd has_b.0
narrow-apart profile a (Request One) has_a has_b e = absurd (omega (arith, buffer-above, buffer-within, index-within))
narrow-apart profile a (Buffer One b) has_a has_b e = absurd (omega (arith, buffer-above, buffer-within, index-within))
narrow-apart profile a b has_a has_b e = absurd (omega (arith, buffer-above, buffer-within, index-within))
