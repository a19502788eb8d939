-- What the calls of a chip's bus say, as events that they add to the history of the chip.
use Rattle.std.proofs.Common.{◌≡◌, ℕ, List, ◌++◌, refl, sym, ap, subst, ◌∙◌, append_assoc}
use Rattle.std.specs.Prelude.{MatchBool, Bool, true, false, Option, Some, None, Result, Ok, Err, IfOk, IfErr}
use Rattle.ccan_ram.specs.declared.event.Event.{Event}
use Rattle.ccan_ram.specs.declared.port.PortName.{PortName}
use Rattle.ccan_ram.specs.declared.port.PortName.TheVariants.{Bus}
use Rattle.ccan_ram.specs.History.{events_of}
use Rattle.ccan_ram.specs.SharedRam.{CanSee, terms_of}
use Rattle.ccan_ram.specs.Terms.{Terms}
use Rattle.ccan_ram.specs.Tries.{most_tries}
use Rattle.ccan_confine.specs.declared.bus_event.BusEvent.{BusEvent}
use Rattle.ccan_confine.specs.declared.controller.Controller.{Controller}
use Rattle.ccan_confine.specs.declared.controller_change.ControllerChange.{ControllerChange}
use Rattle.ccan_confine.specs.declared.controller_change.ControllerChange.TheVariants.{Frame, Join, Recessive}
use Rattle.ccan_confine.specs.declared.status_event.StatusEvent.{StatusEvent}
use Rattle.ccan_bus.specs.declared.answer.LoadAnswer.{LoadAnswer}
use Rattle.ccan_bus.specs.declared.round_line.RoundLine.{RoundLine}
use Rattle.ccan_bus.specs.Bus.{LedTo}
use Rattle.ccan_bus.specs.Controller.{WasTo}
use Rattle.ccan_bus.specs.Load.{Loads}
use Rattle.ccan_bus.specs.Past.{BusPast}
use Rattle.ccan_bus.specs.RoundReport.{RunsSteps}
use Rattle.ccan_endless.specs.declared.chip.ControllerStep.TheVariants.{Look, Make}
use Rattle.ccan_endless.specs.declared.controller_changed.ControllerBusy.{ControllerBusy}
use Rattle.ccan_endless.specs.declared.controller_changed.ControllerChanged.{ControllerChanged}
use Rattle.ccan_endless.specs.Chip.{ChipHistory, ram_of, steps_of}
use Rattle.ccan_endless.specs.ChipPort.{AddsNoEvent, AddsNone, ChipPass}
use Rattle.ccan_endless.specs.Layout.{same_object}
use Rattle.ccan_chip.specs.declared.chip_bus.ChipBus.{ChipBus}
use Rattle.ccan_chip.specs.declared.chip_report.ChipReport.{ChipReport}
use Rattle.ccan_chip.specs.Arrival.{Arrives, IsMade, Joins, LooksAt, comes_back, left_behind}
use Rattle.ccan_chip.specs.Load.{ChipLoad}
use Rattle.ccan_chip.specs.Round.{ChipRound, IsRecessive, IsRecessiveLost, Notes, as_found, events_in}
use Rattle.ccan_registers.specs.ChipSteps.{AtController, Changes, ChipGoes, OnObjects, Then, terms_at}
use Rattle.ccan_registers.specs.Rounds.{ArrivesOnChip, IsStill, JoinsOnChip, LoadsOnChip, NotesEvent, RecoversOnChip, RoundOnChip}
use Rattle.ccan_registers.proofs.Going.{at_controller, goes_then, lost, objects_after, weaker}
use Rattle.ccan_registers.proofs.Histories.{no_events, no_steps}

-- a call that makes no step
pub still : (old new : ChipPass) → AddsNone old new → AddsNoEvent old new
    → ChipGoes old new (λ terms seen added. IsStill terms.port added)
still old new none quiet = record {
  same = none.same;
  each = λ s.
      let port = old.pass.port in
      let more = none.part.0 in
      let is : new.whole ≡ more ++ old.whole = none.part.1 in
      let ram : new.pass.seen ≡ ram_of (more ++ old.whole) = none.to.ram ∙ ap ram_of is in (
        more,
        record { one = none.to; sees = quiet.sees },
        is,
        record {
          none =
              no_steps port more old.whole
              (subst (λ (h : ChipHistory). steps_of port h ≡ steps_of port old.whole) is none.own);
          quiet =
              no_events port more old.whole
              (ap (events_of port) (sym ram) ∙ (quiet.own ∙ ap (events_of port) none.from.ram));
        },
      );
}

-- a change of the controller, as it ends
changes_made : (old new : ChipPass) (change : ControllerChange) (tries : ℕ) (outcome : Result ControllerChanged ControllerBusy)
    → IsMade change tries old new outcome
    → ChipGoes old new (λ terms seen added. Changes terms.port change tries seen added outcome)
changes_made old new change tries (Ok made) (adds, after, quiet) =
    weaker old new _ _ (at_controller old new (Make change) made.before adds quiet) (λ seen added h. (h, after))
changes_made old new change tries (Err busy) (none, changes, all, found, quiet) =
    lost old new tries busy none quiet (all, changes) found

-- a look at the controller
pub looks_at : (old new : ChipPass) (found : Controller) → LooksAt old new found
    → ChipGoes old new (λ terms seen added. AtController terms.port Look found seen added)
looks_at old new found h = at_controller old new Look found h.adds h.quiet

-- a port that comes to the bus
arrives_by : (old before new : ChipPass) (first found : Controller) (back : Bool)
    → MatchBool back (Joins old before first) ((before ≡ old) × (first ≡ found)) → LooksAt before new found
    → ChipGoes old new (λ terms seen added. MatchBool back
    (Then (λ s a. AtController terms.port Look first s a) (λ s a. JoinsOnChip terms.port found s a) seen added)
    (AtController terms.port Look found seen added × (first ≡ found)))
arrives_by old before new first found true h looks =
    goes_then old h.looked new (λ terms. AtController terms.port Look first) (λ terms. JoinsOnChip terms.port found)
    (looks_at old h.looked first h.looks)
    (weaker h.looked new _ _
    (goes_then h.looked before new (λ terms s a. Changes terms.port Join most_tries s a h.outcome)
    (λ terms. AtController terms.port Look found) (changes_made h.looked before Join most_tries h.outcome h.joins)
    (looks_at before new found looks))
    (λ seen added then. (h.outcome, then)))
arrives_by old before new first found false h looks =
    weaker old new _ _ (looks_at old new found (subst (λ (p : ChipPass). LooksAt p new found) h.0 looks))
    (λ seen added at. (at, h.1))

pub arrives_on_chip : (old new : ChipPass) (first found : Controller) → Arrives old new first found
    → ChipGoes old new (λ terms seen added. ArrivesOnChip terms.port first found seen added)
arrives_on_chip old new first found came =
    arrives_by old came.before new first found (comes_back first) came.ready came.looks

-- the event of a round at the controller
pub notes_event : (old new : ChipPass) (tries : ℕ) (own : Option (BusEvent × StatusEvent))
    (noted : Option (Result ControllerChanged ControllerBusy)) → Notes own tries old new noted
    → ChipGoes old new (λ terms seen added. NotesEvent terms.port tries own noted seen added)
notes_event old new tries None noted (none, is, quiet) = weaker old new _ _ (still old new none quiet) (λ seen added h. (is, h))
notes_event old new tries (Some own) None h = absurd h
notes_event old new tries (Some own) (Some outcome) h = changes_made old new (Frame own.0 own.1) tries outcome h

-- what the bus's port works under, by the name of the port
pub by_name : (port : ChipPass) → port.pass.port ≡ Bus → terms_of same_object port.pass.memory Bus ≡ terms_at port
by_name port is = ap (λ (p : PortName). terms_of same_object port.pass.memory p) (sym is)

pub loads_on_chip : (old new : ChipPass) (tries : ℕ) (past after : BusPast) (found : Controller) (loading : LoadAnswer)
    → old.pass.port ≡ Bus → (CanSee old.pass → CanSee new.pass)
    → ChipLoad (terms_of same_object old.pass.memory Bus) tries old new past after found loading
    → ChipGoes old new (λ terms seen added. LoadsOnChip terms tries past seen added after found loading)
loads_on_chip old new tries past after found loading bus sees h =
    let looked = h.looked in
    let look = arrives_on_chip old looked h.first found h.arrives in
    let what : Terms → ChipHistory → List Event → List Event → Type 0 = λ t w s a.
    Loads t tries s a (as_found found (events_in w) (left_behind h.first past)) after loading in
    let b = objects_after looked new (what (terms_of same_object old.pass.memory Bus) looked.whole)
    h.rests h.added h.adds h.loads in
    record {
      same =
          record {
            memory = h.rests.same.memory ∙ look.same.memory;
            port = h.rests.same.port ∙ look.same.port;
          };
      each = λ s.
          let x = look.each s in (
            b.0 ++ x.0,
            record { one = h.rests.to; sees = sees s.sees },
            b.1 ∙ (ap (λ (l : ChipHistory). b.0 ++ l) x.2 ∙ sym (append_assoc b.0 x.0 old.whole)),
            record {
              looked = x.0;
              later = b.0;
              whole = refl;
              first = h.first;
              arrives = x.3;
              loads =
                  subst (λ (u : PortName × Terms × ChipHistory). OnObjects u.0 (what u.1 u.2) u.2 b.0)
                  (λ i. (look.same.port i, by_name old bus i, x.2 i)) b.2;
            },
          );
    }

pub round_on_chip : (old new : ChipPass) (line : RoundLine) (tries : ℕ) (past after : BusPast) (told : ChipReport)
    → old.pass.port ≡ Bus
    → ChipRound (terms_of same_object old.pass.memory Bus) line tries old new past after told
    → ChipGoes old new (λ terms seen added. RoundOnChip terms line tries past seen added after told)
round_on_chip old new line tries past after told bus h =
    let looked = h.looked in
    let between = h.between in
    let look = arrives_on_chip old looked h.first told.found h.arrives in
    let notes = notes_event between new most_tries told.own told.noted h.notes in
    let what : Terms → ChipHistory → List Event → List Event → Type 0 = λ t w s a.
    RunsSteps t line tries s a (as_found told.found (events_in w) (left_behind h.first past)) after told.report in
    let b = objects_after looked between (what (terms_of same_object old.pass.memory Bus) looked.whole) h.rests h.added h.adds
    h.runs in
    let port : between.pass.port ≡ old.pass.port = h.rests.same.port ∙ look.same.port in
    record {
      same =
          record {
            memory = notes.same.memory ∙ (h.rests.same.memory ∙ look.same.memory);
            port = notes.same.port ∙ port;
          };
      each = λ s.
          let x = look.each s in
          let z = notes.each (record { one = h.rests.to; sees = h.sees }) in
          let found : between.whole ≡ b.0 ++ (x.0 ++ old.whole) = b.1 ∙ ap (λ (l : ChipHistory). b.0 ++ l) x.2 in (
            z.0 ++ (b.0 ++ x.0),
            z.1,
            z.2 ∙ (ap (λ (l : ChipHistory). z.0 ++ l) (found ∙ sym (append_assoc b.0 x.0 old.whole))
                ∙ sym (append_assoc z.0 (b.0 ++ x.0) old.whole)),
            record {
              looked = x.0;
              steps = b.0;
              last = z.0;
              whole = refl;
              first = h.first;
              arrives = x.3;
              runs =
                  subst (λ (u : PortName × Terms × ChipHistory). OnObjects u.0 (what u.1 u.2) u.2 b.0)
                  (λ i. (look.same.port i, by_name old bus i, x.2 i)) b.2;
              own =
                  subst (λ (w : ChipHistory). WasTo told.own (as_found told.found (events_in w) (left_behind h.first past)) after) x.2
                  h.own;
              notes =
                  subst (λ (u : PortName × ChipHistory). NotesEvent u.0 most_tries told.own told.noted u.1 z.0)
                  (λ i. (port i, found i)) z.3;
            },
          );
    }

-- how groups of recessive bits end
pub recovers_on_chip : (old new : ChipPass) (groups tries : ℕ) (before after : ChipBus)
    (outcome : Result ControllerChanged ControllerBusy)
    → IfOk outcome (λ made. IsRecessive groups old new before.bus after.bus made)
    → IfErr outcome (λ busy. IsRecessiveLost tries old new busy × (after ≡ before))
    → (past : BusPast) → LedTo past before.bus
    → (next : BusPast) × LedTo next after.bus
    × ChipGoes old new (λ terms seen added. RecoversOnChip terms groups tries past seen added next outcome)
recovers_on_chip old new groups tries before after (Ok made) h lost_by past led =
    let next = h.others.each past led in (
      next.0,
      next.1,
      weaker old new _ _ (at_controller old new (Make (Recessive groups)) made.before h.adds h.quiet)
          (λ seen added g. ((g, h.left), next.2)),
    )
recovers_on_chip old new groups tries before after (Err busy) made (h, same) past led = (
  past,
  subst (λ (b : ChipBus). LedTo past b.bus) (sym same) led,
  weaker old new _ _ (lost old new tries busy h.none h.quiet (h.all, h.lost) h.found) (λ seen added g. (g, refl)),
)
