-- Which histories the bus port of a memory may have seen, in which the host at IF1 acts during the port's calls, and what
-- IF1 does in a call, and when. Source: this project's own.
use Rattle.std.specs.Prelude.{ℕ, zero, suc, ◌≡◌, ◌≢◌, ◌≤◌, ◌<◌, ◌+◌, ◌==◌, Bool, true, false, List, [], ◌∷◌, ◌++◌, Option, Some, None, Result, Ok, Err, slice_get}
use Rattle.std.proofs.Common.{ap, subst, sym}
use Rattle.ccan_object.specs.declared.profile.Profile.{Profile}
use Rattle.ccan_object.specs.declared.record.Record.{Record}
use Rattle.ccan_object.specs.Profile.{Holds, objects_in}
use Rattle.ccan_ram.specs.declared.port.PortName.TheVariants.{If1, Bus}
use Rattle.ccan_ram.specs.declared.change.Change.{Change}
use Rattle.ccan_ram.specs.declared.change.Changed.{Changed}
use Rattle.ccan_ram.specs.declared.change.Changed.TheVariants.{Done, NotNow}
use Rattle.ccan_ram.specs.declared.change.Refused.{Refused}
use Rattle.ccan_ram.specs.declared.change.Refused.TheVariants.{Busy, Spent}
use Rattle.ccan_ram.specs.declared.event.Event.{Event}
use Rattle.ccan_ram.specs.Change.{fits, changed}
use Rattle.ccan_ram.specs.History.{IsLegal, changes_by, next_number, last_number}
use Rattle.ccan_ram.specs.Terms.{Terms, one_thread_terms}
use Rattle.ccan_ram.specs.Attempt.{look_at, change_at, AreOthers, SomeContends, Attempt}
use Rattle.ccan_ram.specs.Access.{Passes, Goes}
use Rattle.ccan_ram.specs.Picture.{pictured}
use Rattle.test_contended.specs.declared.transfer.Transfer.{Transfer}
use Rattle.test_contended.specs.Transfer.{transferred}

-- others act, and a change at an object contends with those at the same object
abbrev pub contended_terms : Profile → ℕ → Terms
contended_terms profile quota =
    record { memory = []; profile = profile; port = Bus; quota = quota; contends = λ theirs own. theirs == own; alone = false }

-- a history that the plain memory below may have seen, with so many changes of IF1 and of the bus
pub record Counted (plain : Passes) (made used : ℕ) (seen : List Event) : Type 0 where
  pub seen_below : plain.has_seen seen
  pub theirs : changes_by If1 seen ≡ made
  pub own : changes_by Bus seen ≡ used

abbrev pub contended : Profile → ℕ → Passes → ℕ → ℕ → Passes
contended profile quota plain made used = record { terms = contended_terms profile quota; has_seen = Counted plain made used }

-- ---- the other host and its list

-- the host at IF1: how many objects its memory has, how many changes it may make, its list of transfers, and how many of
-- them it has made
pub record Host : Type 0 where
  pub profile : Profile
  pub quota : ℕ
  pub list : List Transfer
  pub made : ℕ

abbrev pub host : Profile → ℕ → List Transfer → ℕ → Host
host profile quota list made = record { profile = profile; quota = quota; list = list; made = made }

-- the host after so many more transfers
abbrev pub gone_on : Host → ℕ → Host
gone_on theirs more = record theirs { made = theirs.made + more }

-- its next transfer is the one that is next in its list, if it has quota left and the memory has the object
pub record IsNext (theirs : Host) (next : Transfer) : Type 0 where
  pub stands : slice_get theirs.list theirs.made ≡ Some next
  pub left : theirs.made < theirs.quota
  pub held : Holds theirs.profile next.object

-- it goes on: there is a next transfer
abbrev pub HasNext : Host → Type 0
HasNext theirs = (next : Transfer) × IsNext theirs next

-- the other host makes this transfer; its change is the last one at that object, and has this number
pub record TheyAct (transfer : Transfer) (number : ℕ) (terms : Terms) (seen added : List Event) : Type 0 where
  pub found : Record
  pub made : added ≡ transferred transfer found
  pub foreign : AreOthers terms added
  pub contended : SomeContends terms transfer.object added
  pub last : number ≡ last_number terms.contends transfer.object (added ++ seen)

-- a transfer of the other host, whatever both have made before, in a plain memory whose caller is the bus
abbrev pub AddsTheirs : Passes → Passes → Transfer → ℕ → Type 0
AddsTheirs old new transfer number =
    let profile = old.terms.profile in
    let quota = old.terms.quota in
    (made used : ℕ) → made < quota
    → Goes (contended profile quota old made used) (contended profile quota new (made + 1) used)
    (λ terms seen added. TheyAct transfer number terms seen added)

-- the plain memory's caller is the bus
abbrev pub IsForBus : Passes → Type 0
IsForBus plain = plain.terms ≡ one_thread_terms plain.terms.profile Bus plain.terms.quota

-- the other host makes its next transfer, if it has one; else nothing is added
abbrev pub GoesOn : Host → Bool → List Event → Type 0
GoesOn theirs true added = (next : Transfer) × IsNext theirs next × (found : Record) × (added ≡ transferred next found)
GoesOn theirs false added = added ≡ []

-- what a call adds if the other host may make its next transfer during it, and nobody does anything else
abbrev pub AddsNext : Passes → Passes → Host → Bool → Type 0
AddsNext old new theirs goes_on = Goes old new (λ terms seen added. GoesOn theirs goes_on added)

-- the other host acts, or nobody does
abbrev pub AddsOthers : Passes → Passes → Type 0
AddsOthers old new = Goes old new (λ terms seen added. AreOthers terms added)

-- ---- the calls of the bus

-- the number of a change, 0 if none was made
abbrev pub number_of : Result Changed Refused → ℕ
number_of (Ok (Done before after number)) = number
number_of (Ok (NotNow shown)) = 0
number_of (Err why) = 0

-- how many changes were made
abbrev pub changes_of : Result Changed Refused → ℕ
changes_of (Ok (Done before after number)) = 1
changes_of (Ok (NotNow shown)) = 0
changes_of (Err why) = 0

-- a change in one try that nobody disturbs
abbrev pub Exchanges : Terms → ℕ → Change → Result Changed Refused → List Event → List Event → Type 0
Exchanges terms object change (Ok (Done before after number)) seen added =
    (added ≡ change_at terms.port object change before ∷ look_at terms.port object before ∷ [])
    × (fits change before ≡ true) × (after ≡ changed change before) × (number ≡ next_number terms.port seen)
Exchanges terms object change (Ok (NotNow shown)) seen added =
    (added ≡ look_at terms.port object shown ∷ []) × (fits change shown ≡ false)
Exchanges terms object change (Err why) seen added = ⊥

-- such a change added to what the port has seen
abbrev pub AddsExchange : Passes → Passes → ℕ → Change → Result Changed Refused → Type 0
AddsExchange old new object change outcome = Goes old new (λ terms seen added. Exchanges terms object change outcome seen added)

-- each history that may have been seen has so many changes of the bus
abbrev pub HasMade : Passes → ℕ → Type 0
HasMade passes used = (seen : List Event) → passes.has_seen seen → changes_by Bus seen ≡ used

-- a look of the caller, and nothing else
abbrev pub AddsLookAlone : Passes → Passes → ℕ → Record → Type 0
AddsLookAlone old new object shown = Goes old new (λ terms seen added. added ≡ look_at terms.port object shown ∷ [])

-- looks of the caller at all objects, and nothing else
abbrev pub AddsPictureAlone : Passes → Passes → Type 0
AddsPictureAlone old new = Goes old new (λ terms seen added. added ≡ pictured terms.port (objects_in terms.profile) seen)

-- ---- when the other host acts in a change

-- a try that is lost: the bus looks at a record that fits, and then the other host makes its next transfer, which is at the
-- same object
pub record IsLostTo (theirs : Host) (object : ℕ) (change : Change) (terms : Terms) (added : List Event) : Type 0 where
  pub shown : Record
  pub fit : fits change shown ≡ true
  pub next : Transfer
  pub stands : IsNext theirs next
  pub there : next.object ≡ object
  pub found : Record
  pub whole : added ≡ transferred next found ++ (look_at terms.port object shown ∷ [])

-- so many lost tries, one after another, each lost to one transfer
abbrev pub AreLostTo : Host → ℕ → Change → ℕ → Terms → List Event → Type 0
AreLostTo theirs object change zero terms added = added ≡ []
AreLostTo theirs object change (suc n) terms added =
    (last : List Event) × (earlier : List Event) × (added ≡ last ++ earlier)
    × IsLostTo (gone_on theirs n) object change terms last × AreLostTo theirs object change n terms earlier

-- why the other host does nothing in a try that is not lost: it has no next transfer; or the next transfer is at the same object,
-- but the record does not fit, so that no exchange is to come
abbrev pub MayRest : Host → ℕ → Result Changed Refused → Type 0
MayRest theirs object (Ok (Done before after number)) = ¬ HasNext theirs
MayRest theirs object (Ok (NotNow shown)) = (next : Transfer) → IsNext theirs next → next.object ≡ object
MayRest theirs object (Err why) = Unit {0}

-- what the other host does in a try that is not lost, before the bus looks: its next transfer, at another object, or nothing
abbrev pub ActsBefore : Host → ℕ → Result Changed Refused → Option Transfer → List Event → Type 0
ActsBefore theirs object outcome (Some next) added =
    IsNext theirs next × (next.object ≢ object) × (found : Record) × (added ≡ transferred next found)
ActsBefore theirs object outcome None added = MayRest theirs object outcome × (added ≡ [])

abbrev pub transfers_in : Option Transfer → ℕ
transfers_in None = 0
transfers_in (Some next) = 1

-- a change that the bus makes, or finds unfit: tries that were lost, fewer than allowed, and one that is not; and how many
-- transfers the other host has made then
pub record IsExchanged (theirs : Host) (object : ℕ) (change : Change) (tries : ℕ) (outcome : Result Changed Refused)
    (made : ℕ) (terms : Terms) (seen added : List Event) : Type 0 where
  pub times : ℕ
  pub within : times < tries
  pub lost : List Event
  pub others : List Event
  pub own : List Event
  pub whole : added ≡ own ++ (others ++ lost)
  pub lose : AreLostTo theirs object change times terms lost
  pub elsewhere : Option Transfer
  pub acts : ActsBefore (gone_on theirs times) object outcome elsewhere others
  pub exchange : Exchanges terms object change outcome ((others ++ lost) ++ seen) own
  pub count : made ≡ theirs.made + times + transfers_in elsewhere

-- all that a change adds, by its answer, and how many transfers the other host has made then
abbrev pub Course : Host → ℕ → Change → ℕ → Result Changed Refused → ℕ → Terms → List Event → List Event → Type 0
Course theirs object change tries (Ok changed) made terms seen added =
    IsExchanged theirs object change tries (Ok changed) made terms seen added
Course theirs object change tries (Err (Busy told now)) made terms seen added =
    AreLostTo theirs object change tries terms added × (made ≡ theirs.made + tries)
Course theirs object change tries (Err Spent) made terms seen added = (added ≡ []) × (made ≡ theirs.made)

-- an attempt of a change, during which the other host acts in this way
abbrev pub AddsCourse : Passes → Passes → Host → ℕ → Change → ℕ → Result Changed Refused → ℕ → Type 0
AddsCourse old new theirs object change tries outcome made =
    Goes old new (λ terms seen added. Attempt terms object change tries seen added outcome
    × Course theirs object change tries outcome made terms seen added)

-- ---- what is legal and within the quota below is so for the bus port

pub in_profile : (terms : Terms) (profile : Profile) (quota : ℕ) → terms ≡ one_thread_terms profile Bus quota
    → (seen : List Event) → IsLegal terms.profile seen → IsLegal profile seen
in_profile terms profile quota for_bus seen legal =
    subst (λ (p : Profile). IsLegal p seen) (ap (λ (t : Terms). t.profile) for_bus) legal

pub in_quota : (terms : Terms) (profile : Profile) (quota n m : ℕ) → terms ≡ one_thread_terms profile Bus quota
    → n ≡ m → m ≤ terms.quota → n ≤ quota
in_quota terms profile quota n m for_bus counted within =
    subst (λ k. k ≤ quota) (sym counted) (subst (λ q. m ≤ q) (ap (λ (t : Terms). t.quota) for_bus) within)
