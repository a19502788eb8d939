-- A scan of the message objects in rising order, with its end and with what the handler's calls say of it. Source:
-- C_CAN User's Manual 1.2, section 4.2 (the message handler scans from object 1); its events and the scans that begin
-- at a later object are this project's own.
use Rattle.std.specs.Prelude.{ℕ, zero, suc, ◌≡◌, ◌≤◌, ◌+◌, ◌-◌, true, false, ◌⊎◌, List, [], ◌++◌, Option, Some, None, Result, Ok, Err, IfSome, IfOk, IfErr}
use Rattle.ccan_object.specs.declared.record.Record.{Record}
use Rattle.ccan_object.specs.Profile.{objects_in, Holds}
use Rattle.ccan_accept.specs.declared.frame.Frame.{Frame}
use Rattle.ccan_ram.specs.declared.change.Change.{Change}
use Rattle.ccan_ram.specs.declared.change.Change.TheVariants.{Start, Store}
use Rattle.ccan_ram.specs.declared.change.Changed.{Changed}
use Rattle.ccan_ram.specs.declared.change.Changed.TheVariants.{Done, NotNow}
use Rattle.ccan_ram.specs.declared.change.Refused.{Refused}
use Rattle.ccan_ram.specs.declared.event.Event.{Event}
use Rattle.ccan_ram.specs.declared.sending.Sending.{Sending}
use Rattle.ccan_ram.specs.declared.sending.Sending.TheVariants.{UntilSent, Once}
use Rattle.ccan_ram.specs.Change.{fits, changed}
use Rattle.ccan_ram.specs.Terms.{Terms}
use Rattle.ccan_ram.specs.Attempt.{IsLook, Attempt}
use Rattle.ccan_ram.specs.Access.{Passes, Goes}
use Rattle.ccan_ram.specs.Answer.{Tells, FewTries}
use Rattle.ccan_handler.specs.declared.scan.Stored.{Stored}
use Rattle.ccan_handler.specs.declared.scan.ScanRefused.{ScanRefused}

-- an object is tried: a look at a record that fits, and then an attempt of the change with this outcome
pub record IsTried (terms : Terms) (object : ℕ) (change : Change) (tries : ℕ) (seen added : List Event)
    (outcome : Result Changed Refused) : Type 0 where
  pub shown : Record
  pub looked : List Event
  pub tried : List Event
  pub whole : added ≡ tried ++ looked
  pub look : IsLook terms object shown looked
  pub fit : fits change shown ≡ true
  pub attempt : Attempt terms object change tries (looked ++ seen) tried outcome

-- an object is passed over: a look shows a record that does not fit, or an attempt finds that it no longer fits
abbrev pub IsPassed : Terms → ℕ → Change → ℕ → List Event → List Event → Type 0
IsPassed terms object change tries seen added =
    ((shown : Record) × (fits change shown ≡ false) × IsLook terms object shown added)
    ⊎ ((shown : Record) × IsTried terms object change tries seen added (Ok (NotNow shown)))

-- this many objects from this one on are passed over, one after another
abbrev pub PassesOver : Terms → ℕ → ℕ → Change → ℕ → List Event → List Event → Type 0
PassesOver terms from zero change tries seen added = added ≡ []
PassesOver terms from (suc n) change tries seen added =
    (last : List Event) × (earlier : List Event) × (added ≡ last ++ earlier)
    × IsPassed terms (from + n) change tries (earlier ++ seen) last × PassesOver terms from n change tries seen earlier

-- how a scan ends: nowhere, at an object where the change was made, or at one where it was refused
pub data ScanEnd : Type 0 where
  Nowhere : ScanEnd
  MadeAt : (object : ℕ) → (before after : Record) → (number : ℕ) → ScanEnd
  RefusedAt : (object : ℕ) → (why : Refused) → ScanEnd

-- the objects below this one are passed over, and this one is tried
pub record StopsAt (terms : Terms) (from object : ℕ) (change : Change) (tries : ℕ) (seen added : List Event)
    (outcome : Result Changed Refused) : Type 0 where
  pub in_turn : from ≤ object
  pub held : Holds terms.profile object
  pub passed : List Event
  pub last : List Event
  pub whole : added ≡ last ++ passed
  pub passes : PassesOver terms from (object - from) change tries seen passed
  pub try : IsTried terms object change tries (passed ++ seen) last outcome

-- a scan from an object up to the last one, with its end
abbrev pub Scan : Terms → Change → ℕ → ℕ → List Event → List Event → ScanEnd → Type 0
Scan terms change from tries seen added Nowhere =
    PassesOver terms from (objects_in terms.profile + 1 - from) change tries seen added
Scan terms change from tries seen added (MadeAt object before after number) =
    StopsAt terms from object change tries seen added (Ok (Done before after number))
Scan terms change from tries seen added (RefusedAt object why) = StopsAt terms from object change tries seen added (Err why)

-- ---- what the calls answer

-- one object of a scan, with what it comes to: passed over, made, or refused
abbrev pub Visit : Terms → ℕ → Change → ℕ → List Event → List Event → Result (Option Stored) Refused → Type 0
Visit terms object change tries seen added (Ok None) = IsPassed terms object change tries seen added
Visit terms object change tries seen added (Ok (Some found)) =
    (found.object ≡ object) × (number : ℕ)
    × IsTried terms object change tries seen added (Ok (Done found.before found.after number))
Visit terms object change tries seen added (Err why) = IsTried terms object change tries seen added (Err why)

-- a scan with the answer of a call that reports the object, and its record before and after the change
abbrev pub Scans : Terms → Change → ℕ → ℕ → List Event → List Event → Result (Option Stored) ScanRefused → Type 0
Scans terms change from tries seen added (Ok None) = Scan terms change from tries seen added Nowhere
Scans terms change from tries seen added (Ok (Some found)) =
    (number : ℕ) × Scan terms change from tries seen added (MadeAt found.object found.before found.after number)
Scans terms change from tries seen added (Err refused) =
    Scan terms change from tries seen added (RefusedAt refused.at refused.why)

-- a scan for a start, with the answer of a call that reports the object and its record after the start
abbrev pub ChoosesFrom : Terms → ℕ → ℕ → List Event → List Event → Result (Option (ℕ × Record)) ScanRefused → Type 0
ChoosesFrom terms from tries seen added (Ok None) = Scan terms Start from tries seen added Nowhere
ChoosesFrom terms from tries seen added (Ok (Some chosen)) =
    (before : Record) × (number : ℕ) × Scan terms Start from tries seen added (MadeAt chosen.0 before chosen.1 number)
ChoosesFrom terms from tries seen added (Err refused) =
    Scan terms Start from tries seen added (RefusedAt refused.at refused.why)

-- the same from object 1
abbrev pub Chooses : Terms → ℕ → List Event → List Event → Result (Option (ℕ × Record)) ScanRefused → Type 0
Chooses terms tries seen added answer = ChoosesFrom terms 1 tries seen added answer

-- a call adds one object of a scan, a scan, a scan for a start, a scan for the store of a frame
abbrev pub AddsVisit : Passes → Passes → ℕ → Change → ℕ → Result (Option Stored) Refused → Type 0
AddsVisit old new object change tries answer =
    Goes old new (λ terms seen added. Visit terms object change tries seen added answer)

abbrev pub AddsScan : Passes → Passes → Change → ℕ → ℕ → Result (Option Stored) ScanRefused → Type 0
AddsScan old new change from tries answer = Goes old new (λ terms seen added. Scans terms change from tries seen added answer)

abbrev pub AddsChoice : Passes → Passes → ℕ → ℕ → Result (Option (ℕ × Record)) ScanRefused → Type 0
AddsChoice old new from tries answer = Goes old new (λ terms seen added. ChoosesFrom terms from tries seen added answer)

abbrev pub AddsStore : Passes → Passes → Frame → ℕ → ℕ → Result (Option Stored) ScanRefused → Type 0
AddsStore old new frame from tries answer = AddsScan old new (Store frame) from tries answer

-- ---- what the answers say by themselves, whatever was seen

-- a change was made at an object that the scan may come to, to a record that it fits
pub record IsMade (terms : Terms) (change : Change) (from : ℕ) (found : Stored) : Type 0 where
  pub in_turn : from ≤ found.object
  pub held : Holds terms.profile found.object
  pub fit : fits change found.before ≡ true
  pub left : found.after ≡ changed change found.before

-- what a start leaves of the flags: until the frame is sent it is requested, and its data count as taken; what is tried once is
-- no longer requested
abbrev pub BearsStart : Sending → Record → Type 0
BearsStart UntilSent r = (r.txrqst ≡ true) × (r.newdat ≡ false)
BearsStart Once r = r.txrqst ≡ false

-- a start was made there, of a record that was valid and requested
pub record IsStarted (terms : Terms) (sending : Sending) (from : ℕ) (chosen : ℕ × Record) : Type 0 where
  pub in_turn : from ≤ chosen.0
  pub held : Holds terms.profile chosen.0
  pub valid : chosen.1.valid ≡ true
  pub marks : BearsStart sending chosen.1

-- a change was refused there: Busy after all the tries, which are no more than twice the quota, or Spent
pub record IsRefusal (terms : Terms) (change : Change) (from tries : ℕ) (refused : ScanRefused) : Type 0 where
  pub in_turn : from ≤ refused.at
  pub held : Holds terms.profile refused.at
  pub told : Tells change tries (Err refused.why)
  pub few : FewTries terms.quota tries (Err refused.why)

-- the same of whole answers
abbrev pub MakesWhatFits : Terms → Change → ℕ → Result (Option Stored) ScanRefused → Type 0
MakesWhatFits terms change from answer = IfOk answer (λ found. IfSome found (IsMade terms change from))

abbrev pub StartsWhatIsReady : Terms → Sending → ℕ → Result (Option (ℕ × Record)) ScanRefused → Type 0
StartsWhatIsReady terms sending from answer = IfOk answer (λ found. IfSome found (IsStarted terms sending from))

abbrev pub StoresWhatIsAccepted : Terms → Frame → ℕ → Result (Option Stored) ScanRefused → Type 0
StoresWhatIsAccepted terms frame from answer = MakesWhatFits terms (Store frame) from answer

abbrev pub TellsRefusal : Terms → Change → ℕ → ℕ → Result (Option Stored) ScanRefused → Type 0
TellsRefusal terms change from tries answer = IfErr answer (IsRefusal terms change from tries)

abbrev pub TellsStartRefusal : Terms → ℕ → ℕ → Result (Option (ℕ × Record)) ScanRefused → Type 0
TellsStartRefusal terms from tries answer = IfErr answer (IsRefusal terms Start from tries)

abbrev pub TellsStoreRefusal : Terms → Frame → ℕ → ℕ → Result (Option Stored) ScanRefused → Type 0
TellsStoreRefusal terms frame from tries answer = TellsRefusal terms (Store frame) from tries answer

-- one object of a scan
abbrev pub VisitTells : Terms → ℕ → Change → ℕ → Result (Option Stored) Refused → Type 0
VisitTells terms object change tries (Ok None) = Unit {0}
VisitTells terms object change tries (Ok (Some found)) = IsMade terms change object found × (found.object ≡ object)
VisitTells terms object change tries (Err why) = IsRefusal terms change object tries (record { at = object; why = why })
