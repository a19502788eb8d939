-- The halves of a word are registers of one kind.
use Rattle.std.proofs.Common.{ℕ, ◌≡◌, ◌+◌, ◌&&◌, Bool, true, Option, Some, None, map, flat_map, sym, ap, ◌∙◌, arith}
use Rattle.std.proofs.lemmas.Bool.{and_parts, false≢true}
use Rattle.ccan_object.specs.declared.profile.Profile.{Profile}
use Rattle.ccan_ram.specs.declared.flag.Flag.{Flag}
use Rattle.ccan_chip.specs.declared.flag_part.FlagPart.{FlagPart}
use Rattle.ccan_chip.specs.declared.map.Map.{Map}
use Rattle.ccan_chip.specs.declared.register.Register.{Register}
use Rattle.ccan_chip.specs.declared.register.Register.TheVariants as register
use Rattle.ccan_chip.specs.Register.{HasRegisters, IsIn}
use Rattle.ccan_chip.specs.declared.map.Map.TheVariants.{Dcan, Narrow, Wide}
use Rattle.ccan_registers.specs.Register.{AreControl, AreFlags, AreTiming, IsAt}
use Rattle.ccan_calls.specs.Offsets.{FlagWord, all_flag_words, all_flags, all_parts, are_halves, flag_word_at, is_at}
use Rattle.ccan_calls.proofs.Finding.{Found, Has, first_found, has_flat, has_map}
use Rattle.ccan_calls.proofs.RegistersFound.{at_it, each_flag, each_part, is_there, one_at}

-- ---- registers of different kinds

-- a number for each kind of a word
abbrev kind : Register → ℕ
kind register.BitTiming = 1
kind register.Control = 2
kind (register.Flags flag place) = 3
kind r = 0

abbrev flag_in : Flag → Register → Flag
flag_in other (register.Flags flag place) = flag
flag_in other r = other

abbrev place_in : FlagPart → Register → FlagPart
place_in other (register.Flags flag place) = place
place_in other r = other

module _ (layout : Map) (profile : Profile) (offset : ℕ) where
  abbrev Are : Register → Register → Type 0
  Are low high = IsAt layout profile offset low × IsAt layout profile (offset + 2) high

  halves_are : (low high : Register) → are_halves layout profile offset low high ≡ true → Are low high
  halves_are low high is =
      let (one, other) = and_parts (is_at layout profile offset low) (is_at layout profile (offset + 2) high) is in
      (at_it layout profile offset low one, at_it layout profile (offset + 2) high other)

  are_so : (low high : Register) → Are low high → are_halves layout profile offset low high ≡ true
  are_so low high (one, other) =
      ap (λ b. b && is_at layout profile (offset + 2) high) (is_there layout profile offset low one)
      ∙ is_there layout profile (offset + 2) high other

  -- a word has one kind
  one_kind : (low other : Register) → IsAt layout profile offset low → IsAt layout profile offset other → kind low ≡ kind other
  one_kind low other is there = ap kind (one_at layout profile offset low other is there)

  pub timing_is : are_halves layout profile offset register.BitTiming register.Extension ≡ true → AreTiming layout profile offset
  timing_is is =
      let (low, high) = halves_are register.BitTiming register.Extension is in record { lower = low; upper = high }

  pub timing_so : AreTiming layout profile offset → are_halves layout profile offset register.BitTiming register.Extension ≡ true
  timing_so are = are_so register.BitTiming register.Extension (are.lower, are.upper)

  pub control_is : are_halves layout profile offset register.Control register.ControlUpper ≡ true → AreControl layout profile offset
  control_is is =
      let (low, high) = halves_are register.Control register.ControlUpper is in record { lower = low; upper = high }

  pub control_so : AreControl layout profile offset → are_halves layout profile offset register.Control register.ControlUpper ≡ true
  control_so are = are_so register.Control register.ControlUpper (are.lower, are.upper)

  -- ---- flags

  -- the flag that is found is that of both halves; if none is found, they are of none
  abbrev pub IsFlagFound : Option FlagWord → Type 0
  IsFlagFound None = (flag : Flag) (low high : FlagPart) → AreFlags layout profile offset flag low high → ⊥
  IsFlagFound (Some (flag, low, high)) = AreFlags layout profile offset flag low high

  abbrev test : FlagWord → Bool
  test word = are_halves layout profile offset (register.Flags word.0 word.1) (register.Flags word.0 word.2)

  listed : (flag : Flag) (low high : FlagPart) → HasRegisters flag → Has {A = FlagWord} (flag, low, high) all_flag_words
  listed flag low high has =
      has_flat (λ f. flat_map (λ l. map (λ h. (f, l, h)) all_parts) all_parts) flag (flag, low, high) all_flags
      (each_flag flag has)
      (has_flat (λ l. map (λ h. (flag, l, h)) all_parts) low (flag, low, high) all_parts (each_part low)
      (has_map (λ h. (flag, low, h)) high all_parts (each_part high)))

  has_flag : (m : Map) (flag : Flag) (place : FlagPart) → IsIn m profile (register.Flags flag place) → HasRegisters flag
  has_flag Narrow flag place has = has.0
  has_flag Wide flag place has = has.0
  has_flag Dcan flag place has = has.0

  found_so : (found : Option FlagWord) → Found test all_flag_words found → IsFlagFound found
  found_so None none = λ flag low high are.
      let hides = none (flag, low, high) (listed flag low high (has_flag layout flag low are.lower.has)) in
      false≢true (sym hides ∙ are_so (register.Flags flag low) (register.Flags flag high) (are.lower, are.upper))
  found_so (Some (flag, low, high)) is =
      let (one, other) = halves_are (register.Flags flag low) (register.Flags flag high) is in
      record { lower = one; upper = other }

  pub flag_found : IsFlagFound (flag_word_at layout profile offset)
  flag_found = found_so (flag_word_at layout profile offset) (first_found test all_flag_words)

  -- the halves are of one flag
  pub one_flag : (flag other : Flag) (low high first last : FlagPart) → AreFlags layout profile offset flag low high
      → AreFlags layout profile offset other first last → (other ≡ flag) × (first ≡ low) × (last ≡ high)
  one_flag flag other low high first last are there =
      let lower = one_at layout profile offset (register.Flags other first) (register.Flags flag low) there.lower are.lower in
      let upper = one_at layout profile (offset + 2) (register.Flags other last) (register.Flags flag high) there.upper are.upper in
      (ap (flag_in other) lower, ap (place_in first) lower, ap (place_in last) upper)

  -- ---- only one kind

  pub no_timing : (flag : Flag) (low high : FlagPart) → AreFlags layout profile offset flag low high
      → AreTiming layout profile offset → ⊥
  no_timing flag low high are timing =
      let is = one_kind (register.Flags flag low) register.BitTiming are.lower timing.lower in omega (arith, is)

  pub no_control : (flag : Flag) (low high : FlagPart) → AreFlags layout profile offset flag low high
      → AreControl layout profile offset → ⊥
  no_control flag low high are control =
      let is = one_kind (register.Flags flag low) register.Control are.lower control.lower in omega (arith, is)

  pub not_both : AreTiming layout profile offset → AreControl layout profile offset → ⊥
  not_both timing control =
      let is = one_kind register.BitTiming register.Control timing.lower control.lower in omega (arith, is)
