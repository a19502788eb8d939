-- A transfer is a run of its process, by the engine; what a line that asks adds is a run of its process.
use Rattle.std.proofs.Common.{◌≡◌, refl, ap, subst, ◌∙◌}
use Rattle.ccan_object.specs.Interface.{Registers}
use Rattle.ccan_ram.specs.Terms.{Terms}
use Rattle.ccan_ram.proofs.Calls.{Goes-weaker}
use Rattle.ccan_line.specs.Host.{HostLineMeans}
use Rattle.ccan_line.specs.declared.host_line.HostLine.TheVariants as line
use Rattle.ccan_line.specs.declared.line_answer.LineAnswer.TheVariants as answer
use Rattle.ccan_line.proofs.HostLinesRun.{host_lines}
use Rattle.ccan_line.proofs.host.run_host_line.Goals as goal

pub returns-in-Transfer : goal.returns-in-Transfer
returns-in-Transfer g c =
    let terms = (g.A.Access.passes c.args.access.now).terms in
    let registers = c.args.registers.now in
    Goes-weaker c.drive.ensures.runs (λ seen added _ _ f.
    let a = f.each registers refl in
    subst (λ (left : Registers). HostLineMeans terms c.args.tries c.args.line.now registers seen added c.drive.result left)
    a.1 a.2)

pub returns-in-Until : goal.returns-in-Until
returns-in-Until g c =
    let terms = (g.A.Access.passes c.args.access.now).terms in
    let registers = c.args.registers.now in
    let asks = line.Until c.in-Until.object c.in-Until.flag c.in-Until.turns in
    rw c.in-Until.is (Goes-weaker c.until-shown.ensures (λ seen added _ _ watches.
    (host_lines terms c.args.tries asks registers registers seen added _).0 (_, refl, watches, refl)))

pub returns-in-Interrupt : goal.returns-in-Interrupt
returns-in-Interrupt g c =
    let terms = (g.A.Access.passes c.args.access.now).terms in
    let registers = c.args.registers.now in
    rw c.in-Interrupt.is (Goes-weaker c.interrupt.ensures.adds (λ seen added _ _ reads.
    (host_lines terms c.args.tries line.Interrupt registers registers seen added _).0 (_, refl, reads, refl)))

pub returns-in-Flags : goal.returns-in-Flags
returns-in-Flags g c =
    let terms = (g.A.Access.passes c.args.access.now).terms in
    let registers = c.args.registers.now in
    let flag = c.in-Flags.flag in
    let word = c.flags-word.result in
    let same : c.profile.result ≡ terms.profile =
    c.profile.ensures ∙ ap (λ (t : Terms). t.profile) c.flags-word.ensures.adds.same in
    rw c.in-Flags.is (Goes-weaker c.flags-word.ensures.adds (λ seen added _ _ reads.
    (host_lines terms c.args.tries (line.Flags flag) registers registers seen added _).0
    (word, ap (answer.Flags flag word) same, reads, refl)))
