-- One return for each kind of line: what the bus promises of its call is what the line means.
use Rattle.std.proofs.Common.{refl, sym, ap}
use Rattle.ccan_ram.proofs.Calls.{Goes-none, Goes-weaker}
use Rattle.ccan_bus.specs.Past.{BusPast}
use Rattle.ccan_line.specs.declared.line_answer.LineAnswer.{LineAnswer}
use Rattle.ccan_line.proofs.bus_port.run_by_calls.Goals as goal

pub returns-in-Load-clause-runs : goal.returns-in-Load-clause-runs
returns-in-Load-clause-runs g c =
    rw c.in-Load.is (Goes-weaker c.load.ensures.goes_on
    (λ seen added _ _ f. record { each = λ past led. let a = f.each past led in (a.0, a.1, (_, refl, a.2)) }))

pub returns-in-Round-clause-runs : goal.returns-in-Round-clause-runs
returns-in-Round-clause-runs g c =
    rw c.in-Round.is (Goes-weaker c.round.ensures.goes_on
    (λ seen added _ _ f. record { each = λ past led. let a = f.each past led in (a.0, a.1, (_, refl, a.2)) }))

pub returns-in-Controller-clause-runs : goal.returns-in-Controller-clause-runs
returns-in-Controller-clause-runs g c =
    rw c.in-Controller.is (Goes-none (λ seen _. record {
      each = λ past led.
          let a = c.run.ensures.ends.each past led in (
            a.0,
            a.1,
            record {
              quiet = refl;
              answer_is = ap (λ (end : LineAnswer × BusPast). end.0) (sym a.2);
              past_is = ap (λ (end : LineAnswer × BusPast). end.1) (sym a.2);
            },
          );
    }))
