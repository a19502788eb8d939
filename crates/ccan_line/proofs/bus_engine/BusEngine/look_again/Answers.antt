-- A scan goes on from an object that does not fit to the next one.
use Rattle.std.proofs.Common.{suc, Bool, sym, ap, subst, ◌∙◌, if◌then◌else◌}
use Rattle.ccan_process.specs.Process.{Does}
use Rattle.ccan_process.specs.Act.{Attempts}
use Rattle.ccan_line.specs.declared.bus_point.BusPoint.{BusPoint}
use Rattle.ccan_line.specs.declared.bus_point.Job.TheVariants.{Scan}
use Rattle.ccan_line.specs.BusEngine.{bus_rest, change_of_aim, IsBusPoint, job_next, scans_from}
use Rattle.ccan_line.specs.Engine.{after_look}
use Rattle.ccan_line.proofs.Courses.{some_left}
use Rattle.ccan_line.proofs.bus_engine.BusEngine.look_again.Goals as goal

pub returns-in_ok-next-in-Seeking-clause-comes : goal.returns-in_ok-next-in-Seeking-clause-comes
returns-in_ok-next-in-Seeking-clause-comes c past led =
    let profile = c.args.profile in
    let line = c.args._line.now in
    let shown = c.args.shown.now in
    let aim = c.in-Seeking.aim in
    let object = c.in-Seeking.object in
    let next = c.in_ok-next-in-Seeking.ensures in
    let held = subst (λ (s : BusPoint). IsBusPoint profile line s) c.in-Seeking.is c.requires.within.0 in
    ap (λ (s : BusPoint). after_look shown (bus_rest profile line past s)) c.in-Seeking.is
    ∙ ap (after_look shown) (some_left profile line past aim object held.greatest)
    ∙ ap (λ (b : Bool). if b then Does (Attempts object (change_of_aim aim)) (job_next profile line past (Scan aim) object)
    else scans_from profile line past aim (suc object)) next.unfit
    ∙ ap (scans_from profile line past aim) (sym next.next)
