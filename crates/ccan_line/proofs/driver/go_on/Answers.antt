-- One return for each kind of act: what it adds leads to what is left.
use Rattle.std.proofs.Common.{sym, ap, ◌∙◌}
use Rattle.ccan_ram.proofs.Calls.{Goes-none, Goes-weaker}
use Rattle.ccan_line.specs.Engine.{course_rest, after_attempt}
use Rattle.ccan_line.proofs.Leading.{leads_attempt, leads_decision}
use Rattle.ccan_line.proofs.driver.go_on.Goals as goal

pub returns-in-Look-clause-leads : goal.returns-in-Look-clause-leads
returns-in-Look-clause-leads g c =
    Goes-weaker c.look_on.ensures.leads (λ seen added _ _ f. record {
      each = λ state led. let a = f.each state led in (a.0, a.1, a.2 c.args.tries);
    })

pub returns-in-Attempt-clause-leads : goal.returns-in-Attempt-clause-leads
returns-in-Attempt-clause-leads g c =
    let rest = g.E.Engine.rest c.args.profile c.args.line.now in
    Goes-weaker c.change-outcome.ensures.attempts (λ seen added _ _ attempt. record {
      each = λ state led. let a = c.after_attempt.ensures.comes.each state led in (
        a.0,
        a.1,
        leads_attempt _ c.args.tries (rest state c.args.point.now) (course_rest rest a.0 c.after_attempt.result)
            c.in-Attempt.object c.in-Attempt.change c.change-outcome.result seen added (c.in-Attempt.ensures.asks state led)
            (ap (λ e. after_attempt e (rest state c.args.point.now)) (sym c.attempted-end.ensures) ∙ a.2) attempt,
      );
    })

pub returns-in-Decide-clause-leads : goal.returns-in-Decide-clause-leads
returns-in-Decide-clause-leads g c =
    let rest = g.E.Engine.rest c.args.profile c.args.line.now in
    let decides = c.decide.ensures.comes (sym c.in-Decide.ensures.is) in
    Goes-none (λ seen _. record {
      each = λ state led. let a = decides.each state led in (
        a.0,
        a.1,
        leads_decision _ c.args.tries (rest state c.args.point.now) (course_rest rest a.0 c.decide.result) seen a.2,
      );
    })
