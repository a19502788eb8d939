-- The look tells what the controller is; the bus takes it; its steps go on from there, with no step at the controller; and what
-- they were to the controller is made there.
use Rattle.std.proofs.Common.{ℕ, refl, sym, subst, ◌∙◌}
use Rattle.ccan_ram.specs.declared.port.PortName.{PortName}
use Rattle.ccan_ram.specs.SharedRam.{Memory, terms_of}
use Rattle.ccan_ram.specs.Tries.{most_tries}
use Rattle.ccan_confine.specs.declared.bus_event.BusEvent.{BusEvent}
use Rattle.ccan_confine.specs.declared.controller_change.ControllerChange.TheVariants.{Frame}
use Rattle.ccan_confine.specs.declared.status_event.StatusEvent.{StatusEvent}
use Rattle.ccan_bus.specs.Controller.{WasTo}
use Rattle.ccan_bus.specs.RoundReport.{RunsSteps}
use Rattle.ccan_endless.specs.Layout.{same_object}
use Rattle.ccan_chip.specs.Arrival.{left_behind}
use Rattle.ccan_chip.specs.Round.{as_found, events_in}
use Rattle.ccan_chip.proofs.Ports.{came_same, counters_found, is_made, no_event_yet, none_yet, notes_some, one_after, sees_on}
use Rattle.ccan_chip.proofs.Rounds.{found_on, runs_to}
use Rattle.ccan_chip.proofs.chip_bus.ChipBus.round.Goals.{in-None, in-Some}
use Rattle.ccan_chip.proofs.chip_bus.ChipBus.round.Goals as goal

pub own_in-own-requires : goal.own_in-own-requires
own_in-own-requires c = c.last_error.ensures.in_range

pub returns-clause-sees : goal.returns-clause-sees
returns-clause-sees c can =
    let goes = c.steps_at_objects-report.ensures.goes_on.each c.arrive-first.new.chip.port.pass.seen
    (refl, c.arrive-first.ensures.arrives.looks.quiet.sees) in
    let between = sees_on c.steps_at_objects-report.new.chip.port.pass _ goes.1 in
    elim c.match-own.branch [
      | in-None w ↦ rw w.chip-is between
      | in-Some w ↦ rw w.chip-is w.change_controller.ensures.objects.sees
    ]

pub returns-clause-one : goal.returns-clause-one
returns-clause-one c =
    elim c.match-own.branch [
      | in-None w ↦ rw w.chip-is c.steps_at_objects-report.ensures.none.to
      | in-Some w ↦
          let e = w.change_controller.ensures in
          rw w.chip-is (one_after (w.in-Some.event, w.in-Some.status) c.steps_at_objects-report.new.chip.port w.change_controller.new.self.port
          w.change_controller.result e.made e.busy)
    ]

pub returns-clause-round : goal.returns-clause-round
returns-clause-round c past led =
    let came = c.arrive-first.ensures.arrives in
    let looks = came.looks.adds in
    let first = c.arrive-first.result.0 in
    let same = came_same c.args.chip.now.port c.arrive-first.new.chip.port first c.arrive-first.result.1 came in
    let looked = c.arrive-first.new.chip.port in
    let found = c.arrive-first.result.1 in
    let between = c.steps_at_objects-report.new.chip.port in
    let report = c.steps_at_objects-report.result in
    let events = events_in looked.whole in
    let counts = counters_found came.before looked found looks in
    let there = c.take.ensures.takes (left_behind first past) events (c.leave_behind.ensures.drops past led) counts in
    let goes = c.steps_at_objects-report.ensures.goes_on.each looked.pass.seen (refl, c.arrive-first.ensures.arrives.looks.quiet.sees) in
    let ran = goes.2.each (as_found found events (left_behind first past)) there in
    let runs = subst (λ (u : Memory × PortName × ℕ). RunsSteps (terms_of same_object u.0 u.1) c.args.line.now u.2
    looked.pass.seen goes.0 (as_found found events (left_behind first past)) ran.0 report)
    (λ i. (same.memory i, (same.port ∙ c.requires.bus) i, (c.arrive-first.ensures.settings i).tries)) ran.2 in
    let was = runs_to _ c.args.line.now c.args.chip.now.settings.tries looked.pass.seen goes.0 (as_found found events (left_behind first past))
    ran.0 report c.last_error.result (c.last_error.ensures.listed ran.0 ran.1) runs c.takes_part.result
    (found_on found events (left_behind first past) counts ∙ sym c.takes_part.ensures) in (
      ran.0,
      ran.1,
      record {
        looked = looked;
        first = first;
        arrives = came;
        between = between;
        rests = c.steps_at_objects-report.ensures.none;
        sees = sees_on between.pass _ goes.1;
        added = goes.0;
        adds = sym goes.1.0;
        runs = runs;
        own = subst (λ o. WasTo o (as_found found events (left_behind first past)) ran.0) (sym c.own_in-own.ensures.is) was;
        notes = elim c.match-own.branch [
          | in-None w ↦
              rw (w.in-None.is, w.chip-is, w.noted-is)
              (none_yet between c.steps_at_objects-report.ensures.none.to, refl, no_event_yet between (sees_on between.pass _ goes.1))
          | in-Some w ↦
              let e = w.change_controller.ensures in
              let own : BusEvent × StatusEvent = (w.in-Some.event, w.in-Some.status) in
              let new = w.change_controller.new.self.port in
              notes_some own w.own_tries.result most_tries between new _ w.change_controller.result _ _
              w.own_tries.ensures w.in-Some.is (λ i. (w.chip-is i).port) w.noted-is
              (is_made (Frame own.0 own.1) w.own_tries.result between new w.change_controller.result e.made e.after e.busy e.lost
              e.objects)
        ];
      },
    )
