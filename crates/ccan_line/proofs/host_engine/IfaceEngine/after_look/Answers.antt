-- What is left of a line that asks is what follows its look.
use Rattle.std.proofs.Common.{ap, subst, ◌∙◌}
use Rattle.ccan_line.proofs.Rows.{of_equal}
use Rattle.ccan_line.proofs.AskedOn.{asked_comes, asked_left}
use Rattle.ccan_line.specs.declared.host_engine.HostPoint.{HostPoint}
use Rattle.ccan_line.specs.Engine.{after_look}
use Rattle.ccan_line.specs.HostEngine.{IsHostPoint, host_rest}
use Rattle.ccan_line.proofs.host_engine.IfaceEngine.after_look.Goals as goal

pub returns-in-At-clause-comes : goal.returns-in-At-clause-comes
returns-in-At-clause-comes c =
    let profile = c.args.profile in
    let line = c.args.line.now in
    let looks = c.in-Asking.looks in
    let word = c.in-Asking.word in
    let shown = c.args.shown.now in
    let registers = c.args.self.now in
    let has = subst (λ (point : HostPoint). IsHostPoint profile line point) c.in-Asking.is c.requires.within in
    of_equal (ap (λ (point : HostPoint). after_look shown (host_rest profile line registers point)) c.in-Asking.is
    ∙ (asked_comes profile line looks word shown has registers c.asked.result c.asked.ensures.is
    ∙ ap (asked_left profile line looks word shown has registers) c.in-At.is))

pub returns-in-Ended-clause-comes : goal.returns-in-Ended-clause-comes
returns-in-Ended-clause-comes c =
    let profile = c.args.profile in
    let line = c.args.line.now in
    let looks = c.in-Asking.looks in
    let word = c.in-Asking.word in
    let shown = c.args.shown.now in
    let registers = c.args.self.now in
    let has = subst (λ (point : HostPoint). IsHostPoint profile line point) c.in-Asking.is c.requires.within in
    of_equal (ap (λ (point : HostPoint). after_look shown (host_rest profile line registers point)) c.in-Asking.is
    ∙ (asked_comes profile line looks word shown has registers c.asked.result c.asked.ensures.is
    ∙ ap (asked_left profile line looks word shown has registers) c.in-Ended.is))
