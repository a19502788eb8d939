-- Laws of the handler's calls, over their definitions alone: so they hold of every memory that meets `Access`. Source:
-- after the C_CAN User's Manual 1.2, section 4.2 (the message handler scans from object 1) and section 3.4 (Message
-- Handler Registers); this project's own.
use Rattle.std.specs.Prelude.{ℕ, zero, suc, ◌≡◌, ◌≤◌, ◌<◌, ◌+◌, ◌-◌, ◌*◌, Bool, true, false, List, [], ◌∷◌, ◌++◌, length, Ok, Some, if◌then◌else◌}
use Rattle.std.specs.List.{All}
use Rattle.ccan_object.specs.declared.record.Record.{Record}
use Rattle.ccan_object.specs.declared.profile.Profile.{Profile}
use Rattle.ccan_object.specs.Bits.{bit}
use Rattle.ccan_object.specs.Profile.{objects_in}
use Rattle.ccan_accept.specs.Send.{started}
use Rattle.ccan_ram.specs.declared.change.Change.{Change}
use Rattle.ccan_ram.specs.declared.change.Change.TheVariants.{Start}
use Rattle.ccan_ram.specs.declared.event.Event.{Event}
use Rattle.ccan_ram.specs.declared.flag.Flag.{Flag}
use Rattle.ccan_ram.specs.Change.{fits, changed}
use Rattle.ccan_ram.specs.Flags.{flag_of}
use Rattle.ccan_ram.specs.History.{IsLegal, record_at, is_change, events_of, changes_by}
use Rattle.ccan_ram.specs.Terms.{Terms}
use Rattle.ccan_ram.specs.Attempt.{look_at, change_at}
use Rattle.ccan_handler.specs.Scan.{Scan, ScanEnd, Nowhere, MadeAt, RefusedAt, ChoosesFrom}
use Rattle.ccan_handler.specs.Watch.{Watches, Interrupts, ReadsFlags}

-- ---- what a scan finds

-- the record of the object fits at each point of what is added
abbrev pub FitsThroughout : Change → ℕ → List Event → List Event → Type 0
FitsThroughout change object seen added =
    (later earlier : List Event) → added ≡ later ++ earlier → fits change (record_at object (earlier ++ seen)) ≡ true

-- the scan ended at this object, or before it came there
abbrev pub EndsBy : ℕ → ScanEnd → Type 0
EndsBy object Nowhere = ⊥
EndsBy object (MadeAt at before after number) = at ≤ object
EndsBy object (RefusedAt at why) = at ≤ object

-- no object is passed over whose record fits at each point of the scan
abbrev pub FittingIsNotPassedOver : Type 0
FittingIsNotPassedOver =
    (terms : Terms) (change : Change) (tries from object : ℕ) (seen added : List Event) (end : ScanEnd)
    → IsLegal terms.profile (added ++ seen) → Scan terms change from tries seen added end
    → from ≤ object → object ≤ objects_in terms.profile → FitsThroughout change object seen added → EndsBy object end

-- among these events is a look of the port at the object, which shows a record for which this holds
pub record ShowsAt (terms : Terms) (object : ℕ) (what : Record → Type 0) (added : List Event) : Type 0 where
  pub shown : Record
  pub later : List Event
  pub earlier : List Event
  pub own : events_of terms.port added ≡ later ++ look_at terms.port object shown ∷ earlier
  pub so : what shown

-- a scan that ends nowhere looked at every object from its first on, and saw there a record that does not fit
abbrev pub NothingFoundLooksEverywhere : Type 0
NothingFoundLooksEverywhere =
    (terms : Terms) (change : Change) (tries from object : ℕ) (seen added : List Event)
    → Scan terms change from tries seen added Nowhere → from ≤ object → object ≤ objects_in terms.profile
    → ShowsAt terms object (λ shown. fits change shown ≡ false) added

-- the change is the last event, made to the record at its point, which it fits
pub record IsMadeThere (terms : Terms) (object : ℕ) (change : Change) (before after : Record)
    (seen added : List Event) : Type 0 where
  pub earlier : List Event
  pub last : added ≡ change_at terms.port object change before ∷ earlier
  pub found : before ≡ record_at object (earlier ++ seen)
  pub fit : fits change before ≡ true
  pub left : after ≡ changed change before

-- what a scan changes fitted at the point of the change
abbrev pub ScansChangeWhatFits : Type 0
ScansChangeWhatFits =
    (terms : Terms) (change : Change) (tries from object number : ℕ) (before after : Record) (seen added : List Event)
    → IsLegal terms.profile (added ++ seen) → Scan terms change from tries seen added (MadeAt object before after number)
    → IsMadeThere terms object change before after seen added

-- the start is the last event, of a record that is valid and requested at its point
pub record IsStartedThere (terms : Terms) (object : ℕ) (after : Record) (seen added : List Event) : Type 0 where
  pub here : Record
  pub earlier : List Event
  pub last : added ≡ change_at terms.port object Start here ∷ earlier
  pub found : here ≡ record_at object (earlier ++ seen)
  pub valid : here.valid ≡ true
  pub requested : here.txrqst ≡ true
  pub left : after ≡ started here

-- what is chosen for transmission was valid and requested at the point of its start
abbrev pub ChosenIsReady : Type 0
ChosenIsReady =
    (terms : Terms) (tries from object : ℕ) (after : Record) (seen added : List Event)
    → IsLegal terms.profile (added ++ seen) → ChoosesFrom terms from tries seen added (Ok (Some (object, after)))
    → IsStartedThere terms object after seen added

-- ---- which events the calls add, and how many

-- a scan has no event at an object before its first
abbrev pub ScansLeaveOutWhatIsBefore : Type 0
ScansLeaveOutWhatIsBefore =
    (terms : Terms) (change : Change) (tries from : ℕ) (seen added : List Event) (end : ScanEnd)
    → Scan terms change from tries seen added end → All (λ (event : Event). from ≤ event.object) (events_of terms.port added)

-- how many of these events are looks
abbrev pub looks_in : List Event → ℕ
looks_in [] = 0
looks_in (event ∷ earlier) = if is_change event then looks_in earlier else looks_in earlier + 1

-- how many changes a scan makes
abbrev pub changes_of : ScanEnd → ℕ
changes_of Nowhere = 0
changes_of (MadeAt object before after number) = 1
changes_of (RefusedAt object why) = 0

-- a scan looks at each object once and then once for each try, and makes its one change or none
abbrev pub ScansAreBounded : Type 0
ScansAreBounded =
    (terms : Terms) (change : Change) (tries from : ℕ) (seen added : List Event) (end : ScanEnd)
    → Scan terms change from tries seen added end
    → (looks_in (events_of terms.port added) ≤ (objects_in terms.profile + 1 - from) * (tries + 1))
    × (changes_by terms.port added ≡ changes_of end)

-- a look at the object that does not show the flag
pub record IsLookWithout (terms : Terms) (object : ℕ) (flag : Flag) (event : Event) : Type 0 where
  pub look : event ≡ look_at terms.port object event.before
  pub unset : flag_of flag event.before ≡ false

-- the last event of the port is a look that shows the flag, and those before it, fewer than the turns, are looks without it
pub record ShowsAtLast (terms : Terms) (object : ℕ) (flag : Flag) (turns : ℕ) (added : List Event) : Type 0 where
  pub shown : Record
  pub before : List Event
  pub own : events_of terms.port added ≡ look_at terms.port object shown ∷ before
  pub shows : flag_of flag shown ≡ true
  pub none : All (IsLookWithout terms object flag) before
  pub within : length before < turns

-- waiting answers yes only if its last look shows the flag, and no earlier one does
abbrev pub WaitingAnswersYesAtItsLastLook : Type 0
WaitingAnswersYesAtItsLastLook =
    (terms : Terms) (object turns : ℕ) (flag : Flag) (added : List Event)
    → Watches terms object flag turns added true → ShowsAtLast terms object flag turns added

-- and no only after as many looks as there are turns, none of which shows it
abbrev pub WaitingAnswersNoAfterAllTurns : Type 0
WaitingAnswersNoAfterAllTurns =
    (terms : Terms) (object turns : ℕ) (flag : Flag) (added : List Event)
    → Watches terms object flag turns added false
    → (length (events_of terms.port added) ≡ turns) × All (IsLookWithout terms object flag) (events_of terms.port added)

-- one look of the port at each of the objects 1 to n, in this order, and nothing else; the newest first
abbrev pub LooksInTurn : Terms → ℕ → List Event → Type 0
LooksInTurn terms zero own = own ≡ []
LooksInTurn terms (suc n) own =
    (shown : Record) × (earlier : List Event) × (own ≡ look_at terms.port (suc n) shown ∷ earlier)
    × LooksInTurn terms n earlier

-- the object up to which an interrupt value was looked for: none for the status interrupt, else the one found, or the last
abbrev pub looked_up_to : Profile → Bool → ℕ → ℕ
looked_up_to profile true value = 0
looked_up_to profile false zero = objects_in profile
looked_up_to profile false (suc n) = suc n

-- the interrupt value takes one look at each object up to the one found, in turn: so at most one for each object of the
-- memory, and no change
abbrev pub InterruptsAreBounded : Type 0
InterruptsAreBounded =
    (terms : Terms) (pending : Bool) (value : ℕ) (added : List Event)
    → Interrupts terms pending added value
    → (length (events_of terms.port added) ≤ objects_in terms.profile) × (changes_by terms.port added ≡ 0)
    × LooksInTurn terms (looked_up_to terms.profile pending value) (events_of terms.port added)

-- the flag word takes one look at each object, in turn, and no change
abbrev pub FlagsTakeOneLookEach : Type 0
FlagsTakeOneLookEach =
    (terms : Terms) (flag : Flag) (word : ℕ) (added : List Event)
    → ReadsFlags terms flag added word
    → (length (events_of terms.port added) ≡ objects_in terms.profile) × (changes_by terms.port added ≡ 0)
    × LooksInTurn terms (objects_in terms.profile) (events_of terms.port added)

-- bit k - 1 of the flag word is the flag that the look at object k shows
abbrev pub EachFlagIsShown : Type 0
EachFlagIsShown =
    (terms : Terms) (flag : Flag) (word object : ℕ) (added : List Event)
    → ReadsFlags terms flag added word → 1 ≤ object → object ≤ objects_in terms.profile
    → ShowsAt terms object (λ shown. flag_of flag shown ≡ bit word (object - 1)) added
