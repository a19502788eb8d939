-- The engine runs the process of a load or a round of a bus that chooses in turn; what any other line adds is what it means.
use Rattle.std.proofs.Common.{refl, sym, ◌∙◌}
use Rattle.ccan_ram.proofs.Calls.{Goes-weaker}
use Rattle.ccan_bus.specs.declared.choice.Choice.TheVariants.{InTurn}
use Rattle.ccan_line.proofs.BusLinesRun.{bus_adds, means_by}
use Rattle.ccan_line.proofs.SameBus.{same_fixed}
use Rattle.ccan_line.proofs.bus_port.run_bus_line.Goals as goal

pub returns-then-moves_messages-clause-same : goal.returns-then-moves_messages-clause-same
returns-then-moves_messages-clause-same g c = same_fixed c.drive.ensures.fixed

pub returns-then-moves_messages-clause-runs : goal.returns-then-moves_messages-clause-runs
returns-then-moves_messages-clause-runs g c =
    let terms = (g.A.Access.passes c.args.access.now).terms in
    Goes-weaker c.drive.ensures.runs (λ seen added _ _ f. record {
      each = λ past led. let a = f.each past led in (
        a.0,
        a.1,
        (means_by terms c.args.tries c.args.line.now past a.0 seen added c.drive.result.answer InTurn
            (sym led.choice ∙ (sym c.choice.ensures ∙ c.in-InTurn.is))).1 (c.drive.result, refl, a.2),
      );
    })

pub returns-else-moves_messages-clause-runs : goal.returns-else-moves_messages-clause-runs
returns-else-moves_messages-clause-runs g c =
    let terms = (g.A.Access.passes c.args.access.now).terms in
    Goes-weaker c.run_by_calls.ensures.runs (λ seen added _ _ f. record {
      each = λ past led. let a = f.each past led in (
        a.0,
        a.1,
        (bus_adds terms c.args.tries c.args.line.now past a.0 seen added c.run_by_calls.result).1 a.2,
      );
    })

pub returns-in-AtOnce-clause-runs : goal.returns-in-AtOnce-clause-runs
returns-in-AtOnce-clause-runs g c =
    let terms = (g.A.Access.passes c.args.access.now).terms in
    Goes-weaker c.run_by_calls-in-AtOnce.ensures.runs (λ seen added _ _ f. record {
      each = λ past led. let a = f.each past led in (
        a.0,
        a.1,
        (bus_adds terms c.args.tries c.args.line.now past a.0 seen added c.run_by_calls-in-AtOnce.result).1 a.2,
      );
    })
