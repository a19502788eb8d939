-- Answers for one moment, from one picture of all objects. Source: C_CAN User's Manual 1.2, section 3.4 (Message
-- Handler Registers) and section 4.2.
use Rattle.std.specs.Prelude.{ℕ, zero, suc, ◌≡◌, ◌<◌, ◌+◌, ◌-◌, Bool, true, false, ◌&&◌, ◌⊎◌, List, [], ◌++◌, Option, Some, None, Result, Ok, Err}
use Rattle.ccan_object.specs.declared.profile.Profile.{Profile}
use Rattle.ccan_object.specs.declared.record.Record.{Record}
use Rattle.ccan_object.specs.Bits.{bit}
use Rattle.ccan_object.specs.Profile.{Holds, objects_in}
use Rattle.ccan_accept.specs.Send.{is_ready}
use Rattle.ccan_ram.specs.declared.change.Changed.TheVariants.{Done, NotNow}
use Rattle.ccan_ram.specs.declared.change.Refused.{Refused}
use Rattle.ccan_ram.specs.declared.event.Event.{Event}
use Rattle.ccan_ram.specs.declared.flag.Flag.{Flag}
use Rattle.ccan_ram.specs.declared.flag.Flag.TheVariants.{IntPnd}
use Rattle.ccan_ram.specs.declared.handler_registers.HandlerRegisters.{HandlerRegisters}
use Rattle.ccan_ram.specs.declared.sending.Sending.{Sending}
use Rattle.ccan_ram.specs.Access.{Passes, Goes}
use Rattle.ccan_ram.specs.Attempt.{Attempt}
use Rattle.ccan_ram.specs.Flags.{flag_of}
use Rattle.ccan_ram.specs.HandlerRegisters.{register_of}
use Rattle.ccan_ram.specs.History.{record_at}
use Rattle.ccan_ram.specs.Picture.{IsPicture}
use Rattle.ccan_ram.specs.Sending.{start_by}
use Rattle.ccan_ram.specs.Terms.{Terms}
use Rattle.ccan_handler.specs.declared.scan.ScanRefused.{ScanRefused}

-- ---- flags and interrupts

-- the register of a flag in one picture
pub record FlagsAtOnce (terms : Terms) (flag : Flag) (seen added : List Event) (word : ℕ) : Type 0 where
  pub shown : HandlerRegisters
  pub picture : IsPicture terms shown seen added
  pub is : word ≡ register_of flag shown

-- the number of the lowest bit that is set, from 1 on; 0 if none is
abbrev pub IsFirstSet : ℕ → ℕ → Type 0
IsFirstSet word value =
    ((value ≡ 0) × (word ≡ 0))
    ⊎ ((place : ℕ) × (value ≡ place + 1) × (bit word place ≡ true) × ((k : ℕ) → k < place → bit word k ≡ false))

-- the interrupt value of one picture: 0x8000 for the status interrupt, which comes first; else the number of the first object
-- whose bit is set
abbrev pub InterruptAtOnce : Terms → Bool → List Event → List Event → ℕ → Type 0
InterruptAtOnce terms true seen added value = (value ≡ 0x8000) × (added ≡ [])
InterruptAtOnce terms false seen added value =
    (shown : HandlerRegisters) × IsPicture terms shown seen added × IsFirstSet shown.intpnd value

abbrev pub AddsFlagsAtOnce : Passes → Passes → Flag → ℕ → Type 0
AddsFlagsAtOnce old new flag word = Goes old new (λ terms seen added. FlagsAtOnce terms flag seen added word)

abbrev pub AddsInterruptAtOnce : Passes → Passes → Bool → ℕ → Type 0
AddsInterruptAtOnce old new pending value = Goes old new (λ terms seen added. InterruptAtOnce terms pending seen added value)

-- ---- the choice of what to send

-- the object was valid in a picture, and its transmission requested
abbrev pub was_ready : HandlerRegisters → ℕ → Bool
was_ready shown object = bit shown.msgval (object - 1) && bit shown.txrqst (object - 1)

-- an object after a picture: it was not ready there, or it is started, or no longer ready, or refused
abbrev pub Starts : Terms → Sending → HandlerRegisters → ℕ → ℕ → List Event → List Event → Result (Option Record) Refused → Type 0
Starts terms sending shown object tries seen added (Ok None) =
    ((was_ready shown object ≡ false) × (added ≡ []))
    ⊎ ((was_ready shown object ≡ true) × (now : Record)
    × Attempt terms object (start_by sending) tries seen added (Ok (NotNow now)))
Starts terms sending shown object tries seen added (Ok (Some after)) =
    (was_ready shown object ≡ true) × (before : Record) × (number : ℕ)
    × Attempt terms object (start_by sending) tries seen added (Ok (Done before after number))
Starts terms sending shown object tries seen added (Err why) =
    (was_ready shown object ≡ true) × Attempt terms object (start_by sending) tries seen added (Err why)

-- the first n objects after a picture: each was not ready there, or is no longer ready
abbrev pub Skips : Terms → Sending → HandlerRegisters → ℕ → ℕ → List Event → List Event → Type 0
Skips terms sending shown tries zero seen added = added ≡ []
Skips terms sending shown tries (suc n) seen added =
    (last : List Event) × (earlier : List Event) × (added ≡ last ++ earlier)
    × Starts terms sending shown (suc n) tries (earlier ++ seen) last (Ok None) × Skips terms sending shown tries n seen earlier

-- the objects below this one are passed over, and this one, which was ready, is started, or refused
pub record StopsAtOne (terms : Terms) (sending : Sending) (shown : HandlerRegisters) (tries object : ℕ) (seen added : List Event)
    (outcome : Result (Option Record) Refused) : Type 0 where
  pub below : ℕ
  pub is : object ≡ below + 1
  pub held : below < objects_in terms.profile
  pub skipped : List Event
  pub last : List Event
  pub whole : added ≡ last ++ skipped
  pub skips : Skips terms sending shown tries below seen skipped
  pub start : Starts terms sending shown object tries (skipped ++ seen) last outcome

-- what a choice answers: the object that was started and the record that this left, none, or why a start was refused
abbrev pub Chosen : Type 0
Chosen = Result (Option (ℕ × Record)) ScanRefused

-- the choice among the objects of a picture
abbrev pub ChoosesAmong : Terms → Sending → HandlerRegisters → ℕ → List Event → List Event → Chosen → Type 0
ChoosesAmong terms sending shown tries seen added (Ok None) =
    Skips terms sending shown tries (objects_in terms.profile) seen added
ChoosesAmong terms sending shown tries seen added (Ok (Some (object, after))) =
    StopsAtOne terms sending shown tries object seen added (Ok (Some after))
ChoosesAmong terms sending shown tries seen added (Err refused) =
    StopsAtOne terms sending shown tries refused.at seen added (Err refused.why)

-- a picture, and the choice among its objects
pub record ChoosesAtOnce (terms : Terms) (sending : Sending) (tries : ℕ) (seen added : List Event)
    (answer : Chosen) : Type 0 where
  pub shown : HandlerRegisters
  pub looked : List Event
  pub tried : List Event
  pub whole : added ≡ tried ++ looked
  pub picture : IsPicture terms shown seen looked
  pub choice : ChoosesAmong terms sending shown tries (looked ++ seen) tried answer

abbrev pub AddsStart : Passes → Passes → Sending → HandlerRegisters → ℕ → ℕ → Result (Option Record) Refused → Type 0
AddsStart old new sending shown object tries answer =
    Goes old new (λ terms seen added. Starts terms sending shown object tries seen added answer)

abbrev pub AddsChoiceAmong : Passes → Passes → Sending → HandlerRegisters → ℕ → Chosen → Type 0
AddsChoiceAmong old new sending shown tries answer =
    Goes old new (λ terms seen added. ChoosesAmong terms sending shown tries seen added answer)

abbrev pub AddsChoiceAtOnce : Passes → Passes → Sending → ℕ → Chosen → Type 0
AddsChoiceAtOnce old new sending tries answer =
    Goes old new (λ terms seen added. ChoosesAtOnce terms sending tries seen added answer)

-- ---- laws

-- this holds of the history up to one point among what is added
pub record AtOneMoment (seen added : List Event) (what : List Event → Type 0) : Type 0 where
  pub later : List Event
  pub earlier : List Event
  pub whole : added ≡ later ++ earlier
  pub so : what (earlier ++ seen)

-- all bits of a flag word are the objects' flags in one moment
abbrev pub FlagsAreOfOneMoment : Type 0
FlagsAreOfOneMoment =
    (terms : Terms) (flag : Flag) (word : ℕ) (seen added : List Event) → FlagsAtOnce terms flag seen added word
    → AtOneMoment seen added (λ h. (k : ℕ) → k < objects_in terms.profile → bit word k ≡ flag_of flag (record_at (k + 1) h))

-- the number of the first object that asks for an interrupt, 0 if none does
abbrev pub IsFirstPending : Profile → List Event → ℕ → Type 0
IsFirstPending profile h value =
    ((value ≡ 0) × ((k : ℕ) → k < objects_in profile → flag_of IntPnd (record_at (k + 1) h) ≡ false))
    ⊎ (Holds profile value × (flag_of IntPnd (record_at value h) ≡ true)
    × ((k : ℕ) → k + 1 < value → flag_of IntPnd (record_at (k + 1) h) ≡ false))

-- if no status interrupt is pending, the value is that of the first object that asks for an interrupt in one moment
abbrev pub InterruptIsOfOneMoment : Type 0
InterruptIsOfOneMoment =
    (terms : Terms) (value : ℕ) (seen added : List Event) → InterruptAtOnce terms false seen added value
    → AtOneMoment seen added (λ h. IsFirstPending terms.profile h value)

-- an attempt to start the object found that it is not ready
pub record IsWithdrawn (terms : Terms) (sending : Sending) (tries object : ℕ) (seen added : List Event) : Type 0 where
  pub later : List Event
  pub tried : List Event
  pub earlier : List Event
  pub now : Record
  pub whole : added ≡ later ++ (tried ++ earlier)
  pub attempt : Attempt terms object (start_by sending) tries (earlier ++ seen) tried (Ok (NotNow now))

-- what is chosen was ready in one moment, in which no object before it was, except those that are no longer ready
abbrev pub ChoiceIsOfOneMoment : Type 0
ChoiceIsOfOneMoment =
    (terms : Terms) (sending : Sending) (tries object : ℕ) (after : Record) (seen added : List Event)
    → ChoosesAtOnce terms sending tries seen added (Ok (Some (object, after)))
    → AtOneMoment seen added (λ h. (is_ready (record_at object h) ≡ true)
    × ((k : ℕ) → k + 1 < object → (is_ready (record_at (k + 1) h) ≡ false) ⊎ IsWithdrawn terms sending tries (k + 1) seen added))
