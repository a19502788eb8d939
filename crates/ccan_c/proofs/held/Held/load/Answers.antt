use Rattle.ccan_registers.proofs.Going.{weaker}
use Rattle.ccan_c.specs.Held.{port_of}
use Rattle.ccan_c.proofs.held.Held.load.Goals as goal

pub returns-clause-steps : goal.returns-clause-steps
returns-clause-steps c =
    let run = c.load_next-found.ensures.steps in
    let new = c.load_next-found.new.self in
    record {
      same = run.same;
      works = record { tries = run.works.tries; nodes = run.works.nodes; map = run.works.map };
      own = run.own;
      goes = λ past led.
          let there = run.goes past led in (
            there.0,
            there.1,
            weaker (port_of c.args.self.now) (port_of new) _ _ there.2
                (λ seen added h. (h, c.loaded.ensures there.0 there.1)),
          );
    }
