-- What a port of a chip has seen, before and after its steps.
use Rattle.std.proofs.Common.{ℕ, ◌≡◌, Bool, true, false, List, [], refl, sym, ap, subst, ◌∙◌}
use Rattle.std.specs.Prelude.{MatchBool, Result, Ok, Err, IfOk, IfErr, Option, Some}
use Rattle.ccan_ram.specs.declared.event.Event.{Event}
use Rattle.ccan_ram.specs.SharedRam.{CanSee, IsSamePort, IsWithin, Pass, passes_of}
use Rattle.ccan_ram.specs.Tries.{most_tries}
use Rattle.ccan_confine.specs.declared.bus_event.BusEvent.{BusEvent}
use Rattle.ccan_confine.specs.declared.controller.Controller.{Controller}
use Rattle.ccan_confine.specs.declared.controller_change.ControllerChange.{ControllerChange}
use Rattle.ccan_confine.specs.declared.controller_change.ControllerChange.TheVariants.{Frame, Join}
use Rattle.ccan_confine.specs.declared.status_event.StatusEvent.{StatusEvent}
use Rattle.ccan_confine.specs.Controller.{IsController, controller_after}
use Rattle.ccan_confine.specs.Counters.{AreAfter}
use Rattle.ccan_endless.specs.declared.chip.ControllerStep.TheVariants.{Look, Make}
use Rattle.ccan_endless.specs.declared.controller_changed.ControllerBusy.{ControllerBusy}
use Rattle.ccan_endless.specs.declared.controller_changed.ControllerChanged.{ControllerChanged}
use Rattle.ccan_endless.specs.Chip.{controller_at}
use Rattle.ccan_endless.specs.ChipPort.{AddsController, AddsNoEvent, AddsNone, ChipPass, HasChanges, SeesOne}
use Rattle.ccan_endless.specs.Layout.{same_object}
use Rattle.ccan_endless.proofs.ChipLaws.{chip_counters}
use Rattle.ccan_chip.specs.Arrival.{Arrives, IsMade, Joins, comes_back}
use Rattle.ccan_chip.specs.Round.{Notes, events_in}

-- a port as it stands goes on from itself
pub none_yet : (port : ChipPass) → SeesOne port → AddsNone port port
none_yet port sees =
    record {
      same = record { memory = refl; port = refl };
      from = sees;
      to = sees;
      part = ([], refl);
      own = refl;
    }

-- and makes no event
pub no_event_yet : (port : ChipPass) → CanSee port.pass → AddsNoEvent port port
no_event_yet port sees = record { part = ([], refl); own = refl; sees = sees }

-- the counters of a controller that a look found are those of what it went through
pub counters_found : (old new : ChipPass) (found : Controller) → AddsController old new Look found
    → AreAfter true (events_in new.whole) found.counters
counters_found old new found looks =
    subst (λ (c : Controller). AreAfter true (events_in new.whole) c.counters) (ap controller_at looks.whole)
    (chip_counters new.whole looks.to.legal)

-- what a port has seen after steps at the objects is such as it can see
pub sees_on : (pass : Pass) (seen : List Event) → (passes_of same_object pass).has_seen seen → CanSee pass
sees_on pass seen h = subst (IsWithin pass.memory) h.0 h.1

-- how a change of the controller ends
pub is_made : (change : ControllerChange) (tries : ℕ) (old new : ChipPass) (outcome : Result ControllerChanged ControllerBusy)
    → IfOk outcome (λ made. AddsController old new (Make change) made.before)
    → IfOk outcome (λ made. made.after ≡ controller_after change made.before)
    → IfErr outcome (λ busy. (busy.controller ≡ controller_at new.whole) × IsController busy.controller × AddsNone old new)
    → IfErr outcome (λ busy. (busy.tries ≡ tries) × HasChanges tries old.whole new.whole) → AddsNoEvent old new
    → IsMade change tries old new outcome
is_made change tries old new (Ok made) adds after busy lost quiet = (adds, after, quiet)
is_made change tries old new (Err busy) adds after none lost quiet = (none.2, lost.1, lost.0, none.0, quiet)

-- and the port goes on in one history then
pub one_after : (own : BusEvent × StatusEvent) (old new : ChipPass) (outcome : Result ControllerChanged ControllerBusy)
    → IfOk outcome (λ made. AddsController old new (Make (Frame own.0 own.1)) made.before)
    → IfErr outcome (λ busy. (busy.controller ≡ controller_at new.whole) × IsController busy.controller × AddsNone old new)
    → SeesOne new
one_after own old new (Ok made) adds none = adds.to
one_after own old new (Err busy) adds none = none.2.to

-- so the round's event ends
pub notes_some : (own : BusEvent × StatusEvent) (tries most : ℕ) (old new new' : ChipPass)
    (outcome : Result ControllerChanged ControllerBusy) (any : Option (BusEvent × StatusEvent))
    (told : Option (Result ControllerChanged ControllerBusy)) → tries ≡ most → any ≡ Some own → new' ≡ new → told ≡ Some outcome
    → IsMade (Frame own.0 own.1) tries old new outcome → Notes any most old new' told
notes_some own tries most old new new' outcome any told same is port is_told noted =
    subst (λ (u : Option (BusEvent × StatusEvent) × ℕ × ChipPass × Option (Result ControllerChanged ControllerBusy)).
    Notes u.0 u.1 old u.2 u.3) (λ i. (sym is i, same i, sym port i, sym is_told i)) noted

-- ---- a port that comes to the bus

same_through : (a b c : Pass) → IsSamePort a b → IsSamePort b c → IsSamePort a c
same_through a b c first second =
    record { memory = second.memory ∙ first.memory; port = second.port ∙ first.port }

made_same : (change : ControllerChange) (tries : ℕ) (old new : ChipPass) (outcome : Result ControllerChanged ControllerBusy)
    → IsMade change tries old new outcome → IsSamePort old.pass new.pass
made_same change tries old new (Ok made) h = h.0.same
made_same change tries old new (Err busy) h = h.0.same

ready_same : (old before : ChipPass) (first found : Controller) (back : Bool)
    → MatchBool back (Joins old before first) ((before ≡ old) × (first ≡ found)) → IsSamePort old.pass before.pass
ready_same old before first found true h =
    same_through old.pass h.looked.pass before.pass h.looks.adds.same (made_same Join most_tries h.looked before h.outcome h.joins)
ready_same old before first found false h =
    record { memory = ap (λ (p : ChipPass). p.pass.memory) h.0; port = ap (λ (p : ChipPass). p.pass.port) h.0 }

-- it is the same port before its last look, and after it
pub before_same : (old new : ChipPass) (first found : Controller) (came : Arrives old new first found)
    → IsSamePort old.pass came.before.pass
before_same old new first found came = ready_same old came.before first found (comes_back first) came.ready

pub came_same : (old new : ChipPass) (first found : Controller) → Arrives old new first found → IsSamePort old.pass new.pass
came_same old new first found came =
    same_through old.pass came.before.pass new.pass (before_same old new first found came) came.looks.adds.same
