-- The look tells what the controller is; the bus takes it; its load goes on from there, with no step at the controller.
use Rattle.std.proofs.Common.{ℕ, refl, sym, subst, ◌∙◌}
use Rattle.ccan_ram.specs.declared.port.PortName.{PortName}
use Rattle.ccan_ram.specs.SharedRam.{Memory, terms_of}
use Rattle.ccan_bus.specs.Load.{Loads}
use Rattle.ccan_endless.specs.Layout.{same_object}
use Rattle.ccan_chip.specs.Arrival.{left_behind}
use Rattle.ccan_chip.specs.Round.{as_found, events_in}
use Rattle.ccan_chip.proofs.Ports.{came_same, counters_found, sees_on}
use Rattle.ccan_chip.proofs.chip_bus.ChipBus.load.Goals as goal

pub returns-clause-sees : goal.returns-clause-sees
returns-clause-sees c can =
    let goes = c.load_at_objects-answer.ensures.goes_on.each c.arrive-first.new.chip.port.pass.seen
    (refl, c.arrive-first.ensures.arrives.looks.quiet.sees) in
    sees_on c.load_at_objects-answer.new.chip.port.pass _ goes.1

pub returns-clause-one : goal.returns-clause-one
returns-clause-one c = c.load_at_objects-answer.ensures.none.to

pub returns-clause-load : goal.returns-clause-load
returns-clause-load c past led =
    let came = c.arrive-first.ensures.arrives in
    let looks = came.looks.adds in
    let first = c.arrive-first.result.0 in
    let same = came_same c.args.chip.now.port c.arrive-first.new.chip.port first c.arrive-first.result.1 came in
    let looked = c.arrive-first.new.chip.port in
    let found = c.arrive-first.result.1 in
    let answer = c.load_at_objects-answer.result in
    let events = events_in looked.whole in
    let counts = counters_found came.before looked found looks in
    let there = c.take.ensures.takes (left_behind first past) events (c.leave_behind.ensures.drops past led) counts in
    let goes = c.load_at_objects-answer.ensures.goes_on.each looked.pass.seen
    (refl, c.arrive-first.ensures.arrives.looks.quiet.sees) in
    let ran = goes.2.each (as_found found events (left_behind first past)) there in
    let loads = subst (λ (u : Memory × PortName × ℕ). Loads (terms_of same_object u.0 u.1) u.2 looked.pass.seen goes.0
    (as_found found events (left_behind first past)) ran.0 answer)
    (λ i. (same.memory i, (same.port ∙ c.requires.bus) i, (c.arrive-first.ensures.settings i).tries)) ran.2 in (
      ran.0,
      ran.1,
      record {
        looked = looked;
        first = first;
        arrives = came;
        rests = c.load_at_objects-answer.ensures.none;
        added = goes.0;
        adds = sym goes.1.0;
        loads = loads;
      },
    )
