use Rattle.std.proofs.Common.{refl}
use Rattle.ccan_c.specs.Held.{WorksAsBefore}
use Rattle.ccan_c.specs.Steps.{BusSteps}
use Rattle.ccan_c.proofs.held.Held.play.Goals as goal

pub returns-clause-some : goal.returns-clause-some
returns-clause-some c =
    let made = c.in_ok-line.ensures in
    let run = c.run_round.ensures.steps in
    let works : WorksAsBefore c.args.self.now c.run_round.new.self
    = record { tries = run.works.tries; nodes = run.works.nodes; map = run.works.map } in
    let steps : BusSteps _ c.args.self.now c.run_round.new.self
    = record { same = run.same; works = works; own = run.own; goes = run.goes } in (
      made.known.0 refl,
      (
        c.in_ok-line.line,
        made.value.0,
        made.value.1,
        steps,
      ),
    )
