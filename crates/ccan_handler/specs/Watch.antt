-- Looks at message objects, one after another: the answers for a flag that is waited for, for the interrupt value, and
-- for a flag of all objects. Source: C_CAN User's Manual 1.2, section 3.4 (Message Handler Registers: the Interrupt
-- Register, and the registers of one flag of all objects); that each object has its own look, that an object which is
-- not valid asks for an interrupt all the same, and the waiting are this project's own.
use Rattle.std.specs.Prelude.{ℕ, ◌≡◌, ◌≤◌, ◌<◌, ◌+◌, Bool, true, false, ◌⊎◌, List, [], ◌∷◌, ◌++◌, length}
use Rattle.std.specs.List.{list_any}
use Rattle.ccan_object.specs.declared.record.Record.{Record}
use Rattle.ccan_object.specs.declared.profile.Profile.{Profile}
use Rattle.ccan_object.specs.Profile.{objects_in}
use Rattle.ccan_ram.specs.declared.event.Event.{Event}
use Rattle.ccan_ram.specs.declared.flag.Flag.{Flag}
use Rattle.ccan_ram.specs.declared.flag.Flag.TheVariants.{IntPnd}
use Rattle.ccan_ram.specs.Flags.{flag_of}
use Rattle.ccan_ram.specs.HandlerRegisters.{flag_word}
use Rattle.ccan_ram.specs.Terms.{Terms}
use Rattle.ccan_ram.specs.Attempt.{IsLook}
use Rattle.ccan_ram.specs.Access.{Passes, Goes}

-- looks, one after another, and the records that they show, the last first; `place` names the object of a look by the
-- number of looks before it
abbrev pub Looks : Terms → (ℕ → ℕ) → List Record → List Event → Type 0
Looks terms place [] added = added ≡ []
Looks terms place (last ∷ before) added =
    (newest : List Event) × (earlier : List Event) × (added ≡ newest ++ earlier)
    × IsLook terms (place (length before)) last newest × Looks terms place before earlier

-- the objects 1, 2, 3, and so on
abbrev pub in_turn : ℕ → ℕ
in_turn before = before + 1

-- this many looks, none of which shows the flag
pub record NoneShows (terms : Terms) (place : ℕ → ℕ) (flag : Flag) (count : ℕ) (added : List Event) : Type 0 where
  pub shown : List Record
  pub looks : Looks terms place shown added
  pub counted : length shown ≡ count
  pub none : list_any (flag_of flag) shown ≡ false

-- a look that shows the flag, after this many that do not
pub record FirstShows (terms : Terms) (place : ℕ → ℕ) (flag : Flag) (count : ℕ) (added : List Event) : Type 0 where
  pub last : Record
  pub before : List Record
  pub looks : Looks terms place (last ∷ before) added
  pub counted : length before ≡ count
  pub none : list_any (flag_of flag) before ≡ false
  pub shows : flag_of flag last ≡ true

-- waiting for a flag of an object, in at most this many turns: yes at the first look that shows it, no if as many looks as
-- there are turns show none
abbrev pub Watches : Terms → ℕ → Flag → ℕ → List Event → Bool → Type 0
Watches terms object flag turns added true = (count : ℕ) × (count < turns) × FirstShows terms (λ before. object) flag count added
Watches terms object flag turns added false = NoneShows terms (λ before. object) flag turns added

-- the number of the first object whose look shows the flag, 0 if none does
abbrev pub NumbersFirst : Terms → Flag → List Event → ℕ → Type 0
NumbersFirst terms flag added number =
    ((number ≡ 0) × NoneShows terms in_turn flag (objects_in terms.profile) added)
    ⊎ ((count : ℕ) × (count < objects_in terms.profile) × (number ≡ count + 1) × FirstShows terms in_turn flag count added)

-- the interrupt value: 0x8000 for the status interrupt, which comes first; else the number of the first object whose look
-- shows IntPnd, 0 if none does
abbrev pub Interrupts : Terms → Bool → List Event → ℕ → Type 0
Interrupts terms true added value = (value ≡ 0x8000) × (added ≡ [])
Interrupts terms false added value = NumbersFirst terms IntPnd added value

-- what the value says by itself
abbrev pub InterruptTells : Profile → Bool → ℕ → Type 0
InterruptTells profile true value = value ≡ 0x8000
InterruptTells profile false value = value ≤ objects_in profile

-- looks at this many objects from object 1 on, and the word of the flag that they show
pub record ReadsSome (terms : Terms) (flag : Flag) (count : ℕ) (added : List Event) (word : ℕ) : Type 0 where
  pub shown : List Record
  pub looks : Looks terms in_turn shown added
  pub counted : length shown ≡ count
  pub is : word ≡ flag_word flag shown

-- the flag word: each object's flag as its own look shows it, that of object k in bit k - 1
abbrev pub ReadsFlags : Terms → Flag → List Event → ℕ → Type 0
ReadsFlags terms flag added word = ReadsSome terms flag (objects_in terms.profile) added word

-- a call adds such looks, and answers by them
abbrev pub AddsWatch : Passes → Passes → ℕ → Flag → ℕ → Bool → Type 0
AddsWatch old new object flag turns answer = Goes old new (λ terms seen added. Watches terms object flag turns added answer)

abbrev pub AddsInterrupt : Passes → Passes → Bool → ℕ → Type 0
AddsInterrupt old new pending value = Goes old new (λ terms seen added. Interrupts terms pending added value)

abbrev pub AddsFlags : Passes → Passes → Flag → ℕ → Type 0
AddsFlags old new flag word = Goes old new (λ terms seen added. ReadsFlags terms flag added word)
