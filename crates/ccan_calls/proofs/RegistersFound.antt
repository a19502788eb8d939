-- The register at an offset is found among all registers.
use Rattle.std.proofs.Common.{ℕ, ◌≡◌, inl, inr, ◌==◌, ◌&&◌, ◌+◌, ◌*◌, true, false, List, ◌++◌, map, Option, Some, None, refl, sym, ap, ◌∙◌, arith}
use Rattle.std.specs.Prelude.{nat_le}
use Rattle.std.proofs.lemmas.Bool.{and_parts, eqb-true, eq-eqb, false≢true}
use Rattle.ccan_object.specs.declared.profile.Profile.{Profile}
use Rattle.ccan_object.specs.declared.profile.Profile.TheVariants as profile
use Rattle.ccan_object.specs.declared.register.Reg.{Reg}
use Rattle.ccan_object.specs.declared.register.Reg.TheVariants.{CMask, Mask1, Mask2, Arb1, Arb2, Ctrl, DataA1, DataA2, DataB1, DataB2}
use Rattle.ccan_object.specs.Profile.{objects_in}
use Rattle.ccan_ram.specs.declared.flag.Flag.{Flag}
use Rattle.ccan_ram.specs.declared.flag.Flag.TheVariants.{NewDat, MsgLst, IntPnd, TxRqst, MsgVal}
use Rattle.ccan_chip.specs.declared.flag_part.FlagPart.{FlagPart}
use Rattle.ccan_chip.specs.declared.flag_part.FlagPart.TheVariants.{First, Second, Third, Fourth}
use Rattle.ccan_chip.specs.declared.interface.Interface.{Interface}
use Rattle.ccan_chip.specs.declared.interface.Interface.TheVariants.{One, Two}
use Rattle.ccan_chip.specs.declared.map.Map.{Map}
use Rattle.ccan_chip.specs.declared.map.Map.TheVariants.{Dcan, Narrow, Wide}
use Rattle.ccan_chip.specs.declared.register.Register.{Register}
use Rattle.ccan_chip.specs.declared.register.Register.TheVariants as register
use Rattle.ccan_chip.specs.FlagPart.{index_of}
use Rattle.ccan_chip.specs.Map.{offset_of}
use Rattle.ccan_chip.specs.FlagPart.{HasObjectsOf}
use Rattle.ccan_chip.specs.Register.{HasRegisters, IsIn}
use Rattle.ccan_chip.proofs.MapPlaces.{apart}
use Rattle.ccan_registers.specs.Register.{HasNone, IsAt}
use Rattle.ccan_calls.specs.Offsets.{all_flags, all_parts, all_registers, all_regs, flag_registers, has_register, has_words, interface_registers, is_at, register_at}
use Rattle.ccan_calls.proofs.Finding.{Found, Has, first_found, has_first, has_flat, has_map, has_second}

-- ---- the lists are whole

each_reg : (reg : Reg) → Has reg all_regs
each_reg CMask = inl refl
each_reg Mask1 = inr (inl refl)
each_reg Mask2 = inr (inr (inl refl))
each_reg Arb1 = inr (inr (inr (inl refl)))
each_reg Arb2 = inr (inr (inr (inr (inl refl))))
each_reg Ctrl = inr (inr (inr (inr (inr (inl refl)))))
each_reg DataA1 = inr (inr (inr (inr (inr (inr (inl refl))))))
each_reg DataA2 = inr (inr (inr (inr (inr (inr (inr (inl refl)))))))
each_reg DataB1 = inr (inr (inr (inr (inr (inr (inr (inr (inl refl))))))))
each_reg DataB2 = inr (inr (inr (inr (inr (inr (inr (inr (inr (inl refl)))))))))

pub each_part : (place : FlagPart) → Has place all_parts
each_part First = inl refl
each_part Second = inr (inl refl)
each_part Third = inr (inr (inl refl))
each_part Fourth = inr (inr (inr (inl refl)))

-- MsgLst has no register
pub each_flag : (flag : Flag) → HasRegisters flag → Has flag all_flags
each_flag TxRqst has = inl refl
each_flag NewDat has = inr (inl refl)
each_flag IntPnd has = inr (inr (inl refl))
each_flag MsgVal has = inr (inr (inr (inl refl)))
each_flag MsgLst has = absurd has

-- all except the first eight
abbrev later : List Register
later = interface_registers One ++ (interface_registers Two ++ flag_registers)

is_later : (r : Register) → Has r later → Has r all_registers
is_later r has = inr (inr (inr (inr (inr (inr (inr (inr has)))))))

of_interface : (interface : Interface) (r : Register) → Has r (interface_registers interface) → Has r all_registers
of_interface One r has = is_later r (has_first r (interface_registers One) (interface_registers Two ++ flag_registers) has)
of_interface Two r has =
    is_later r (has_second r (interface_registers One) (interface_registers Two ++ flag_registers)
    (has_first r (interface_registers Two) flag_registers has))

of_flag : (flag : Flag) (place : FlagPart) → HasRegisters flag → Has (register.Flags flag place) all_registers
of_flag flag place some =
    is_later (register.Flags flag place) (has_second (register.Flags flag place) (interface_registers One)
    (interface_registers Two ++ flag_registers)
    (has_second (register.Flags flag place) (interface_registers Two) flag_registers
    (has_flat (λ f. map (λ p. register.Flags f p) all_parts) flag (register.Flags flag place) all_flags (each_flag flag some)
    (has_map (λ p. register.Flags flag p) place all_parts (each_part place)))))

-- ---- a chip has it

-- a chip that has a register has it among these
abbrev Known : Map → Profile → Register → Type 0
Known map profile r = Has r all_registers × (has_register map profile r ≡ true)

fits_in : (profile : Profile) (place : FlagPart) → HasObjectsOf profile place
    → nat_le (16 * (index_of place + 1)) (objects_in profile) ≡ true
fits_in profile.One First has = refl
fits_in profile.One Second has = refl
fits_in profile.One Third has = absurd (omega (arith, has))
fits_in profile.One Fourth has = absurd (omega (arith, has))
fits_in profile.Two First has = refl
fits_in profile.Two Second has = refl
fits_in profile.Two Third has = refl
fits_in profile.Two Fourth has = refl

in_fits : (profile : Profile) (place : FlagPart) → nat_le (16 * (index_of place + 1)) (objects_in profile) ≡ true
    → HasObjectsOf profile place
in_fits profile.One First is = omega arith
in_fits profile.One Second is = omega arith
in_fits profile.One Third is = absurd (false≢true is)
in_fits profile.One Fourth is = absurd (false≢true is)
in_fits profile.Two First is = omega arith
in_fits profile.Two Second is = omega arith
in_fits profile.Two Third is = omega arith
in_fits profile.Two Fourth is = omega arith

flags_known : (profile : Profile) (flag : Flag) (place : FlagPart) → HasRegisters flag → HasObjectsOf profile place
    → (has_words flag && nat_le (16 * (index_of place + 1)) (objects_in profile)) ≡ true
flags_known profile TxRqst place some has = fits_in profile place has
flags_known profile NewDat place some has = fits_in profile place has
flags_known profile IntPnd place some has = fits_in profile place has
flags_known profile MsgVal place some has = fits_in profile place has
flags_known profile MsgLst place some has = absurd some

flags_in : (profile : Profile) (flag : Flag) (place : FlagPart)
    → (has_words flag && nat_le (16 * (index_of place + 1)) (objects_in profile)) ≡ true
    → HasRegisters flag × HasObjectsOf profile place
flags_in profile TxRqst place is = (tt, in_fits profile place is)
flags_in profile NewDat place is = (tt, in_fits profile place is)
flags_in profile IntPnd place is = (tt, in_fits profile place is)
flags_in profile MsgVal place is = (tt, in_fits profile place is)
flags_in profile MsgLst place is = absurd (false≢true is)

known : (map : Map) (profile : Profile) (r : Register) → IsIn map profile r → Known map profile r
known map profile register.Control has = (inl refl, refl)
known map profile register.Status has = (inr (inr (inl refl)), refl)
known map profile register.ErrorCounter has = (inr (inr (inr (inl refl))), refl)
known map profile register.BitTiming has = (inr (inr (inr (inr (inl refl)))), refl)
known map profile register.Interrupt has = (inr (inr (inr (inr (inr (inl refl))))), refl)
known map profile register.Test has = (inr (inr (inr (inr (inr (inr (inl refl)))))), refl)
known map profile register.Extension has = (inr (inr (inr (inr (inr (inr (inr (inl refl))))))), refl)
known map profile (register.Request interface) has =
    (of_interface interface (register.Request interface) (inl refl), refl)
known map profile (register.Buffer interface reg) has = (
  of_interface interface (register.Buffer interface reg)
      (inr (has_map (λ k. register.Buffer interface k) reg
      all_regs (each_reg reg))),
  refl,
)
known Narrow profile register.ControlUpper has = absurd has
known Wide profile register.ControlUpper has = absurd has
known Dcan profile register.ControlUpper has = (inr (inl refl), refl)
known Narrow profile (register.Flags flag place) has = (of_flag flag place has.0, flags_known profile flag place has.0 has.1)
known Wide profile (register.Flags flag place) has = (of_flag flag place has.0, flags_known profile flag place has.0 has.1)
known Dcan profile (register.Flags flag place) has = (of_flag flag place has.0, flags_known profile flag place has.0 has.1)

-- and what it has of these is a register of it
is_in : (map : Map) (profile : Profile) (r : Register) → has_register map profile r ≡ true → IsIn map profile r
is_in Narrow profile register.Control is = tt
is_in Narrow profile register.Status is = tt
is_in Narrow profile register.ErrorCounter is = tt
is_in Narrow profile register.BitTiming is = tt
is_in Narrow profile register.Interrupt is = tt
is_in Narrow profile register.Test is = tt
is_in Narrow profile register.Extension is = tt
is_in Narrow profile (register.Request interface) is = tt
is_in Narrow profile (register.Buffer interface reg) is = tt
is_in Narrow profile register.ControlUpper is = absurd (false≢true is)
is_in Narrow profile (register.Flags flag place) is = flags_in profile flag place is
is_in Wide profile register.Control is = tt
is_in Wide profile register.Status is = tt
is_in Wide profile register.ErrorCounter is = tt
is_in Wide profile register.BitTiming is = tt
is_in Wide profile register.Interrupt is = tt
is_in Wide profile register.Test is = tt
is_in Wide profile register.Extension is = tt
is_in Wide profile (register.Request interface) is = tt
is_in Wide profile (register.Buffer interface reg) is = tt
is_in Wide profile register.ControlUpper is = absurd (false≢true is)
is_in Wide profile (register.Flags flag place) is = flags_in profile flag place is
is_in Dcan profile register.Control is = tt
is_in Dcan profile register.ControlUpper is = tt
is_in Dcan profile register.Status is = tt
is_in Dcan profile register.ErrorCounter is = tt
is_in Dcan profile register.BitTiming is = tt
is_in Dcan profile register.Interrupt is = tt
is_in Dcan profile register.Test is = tt
is_in Dcan profile register.Extension is = tt
is_in Dcan profile (register.Request interface) is = tt
is_in Dcan profile (register.Buffer interface reg) is = tt
is_in Dcan profile (register.Flags flag place) is = flags_in profile flag place is

-- ---- what is found

-- the register that is found is at the offset; if none is found, none is there
abbrev pub IsFound : Map → Profile → ℕ → Option Register → Type 0
IsFound map profile offset None = HasNone map profile offset
IsFound map profile offset (Some r) = IsAt map profile offset r

module _ (map : Map) (profile : Profile) (offset : ℕ) where
  pub at_it : (r : Register) → is_at map profile offset r ≡ true → IsAt map profile offset r
  at_it r is =
      let (has, stands) = and_parts (has_register map profile r) (offset_of map r == offset) is in
      record { stands = eqb-true (offset_of map r) offset stands; has = is_in map profile r has }

  pub is_there : (r : Register) → IsAt map profile offset r → is_at map profile offset r ≡ true
  is_there r is =
      ap (λ b. b && offset_of map r == offset) (known map profile r is.has).1 ∙ eq-eqb (offset_of map r) offset is.stands

  not_at : (r : Register) → is_at map profile offset r ≡ false → has_register map profile r ≡ true
      → offset_of map r ≡ offset → ⊥
  not_at r is has stands =
      let there : is_at map profile offset r ≡ true =
      ap (λ b. b && offset_of map r == offset) has ∙ eq-eqb (offset_of map r) offset stands in
      false≢true (sym is ∙ there)

  found_so : (found : Option Register) → Found (is_at map profile offset) all_registers found → IsFound map profile offset found
  found_so None none = λ r has stands.
      let (listed, is) = known map profile r has in not_at r (none r listed) is stands
  found_so (Some r) is = at_it r is

  pub found : IsFound map profile offset (register_at map profile offset)
  found = found_so (register_at map profile offset) (first_found (is_at map profile offset) all_registers)

  -- no two registers are at one offset
  pub one_at : (r other : Register) → IsAt map profile offset r → IsAt map profile offset other → r ≡ other
  one_at r other is is' = apart map profile r other is.has is'.has (is.stands ∙ sym is'.stands)
