use Rattle.std.proofs.Common.{refl, sym, subst, ◌∙◌}
use Rattle.ccan_ram.proofs.Calls.{Goes-weaker}
use Rattle.ccan_bus.proofs.Steps.{round_of}
use Rattle.ccan_line.specs.declared.bus_line.BusLine.TheVariants as line
use Rattle.ccan_line.specs.BusLine.{BusFits}
use Rattle.ccan_line.proofs.BusLinesRun.{bus_adds}
use Rattle.ccan_explain.proofs.reported.run_reported.Goals as goal

pub returns-in-Some-clause-runs : goal.returns-in-Some-clause-runs
returns-in-Some-clause-runs g c =
    let round = c.in-Some.round.now in
    let is = rw c.in-Some.is at c.round.ensures.some in
    rw (is, c.of_round.ensures)
    (Goes-weaker c.report_round.ensures.goes_on
    (λ seen added _ _ f. record {
      each = λ past led.
          let a = f.each past led in (
            a.0,
            a.1,
            record {
              means = (bus_adds _ _ (line.Round round) past a.0 seen added _).1 (_, refl, round_of _ round _ _ _ _ _ _ a.2);
              reports = record { of_round = λ _ _. refl; its_own = record { round = round; is = refl; told = refl; steps = a.2 } };
            },
          );
    }))

pub returns-in-Some-clause-takes : goal.returns-in-Some-clause-takes
returns-in-Some-clause-takes g c =
    let same = c.report_round.ensures.same in
    λ profile other takes. record {
      same_profile = same.profile ∙ takes.same_profile;
      known = subst (λ n. BusFits n other) (sym same.others) takes.known;
    }

pub returns-in-None-clause-runs : goal.returns-in-None-clause-runs
returns-in-None-clause-runs g c =
    let other = rw c.in-None.is at c.round.ensures.none in
    rw c.of_other.ensures
    (Goes-weaker c.run_line.ensures.runs
    (λ seen added _ _ f. record {
      each = λ past led.
          let a = f.each past led in (
            a.0,
            a.1,
            record { means = a.2; reports = record { of_round = λ round is. absurd (other round is); its_own = tt } },
          );
    }))
