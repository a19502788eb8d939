use Rattle.std.proofs.Common.{ℕ, ◌<◌, add-one, refl, sym, subst, ◌∙◌}
use Rattle.std.specs.Prelude.{Result}
use Rattle.ccan_object.specs.declared.profile.Profile.{Profile}
use Rattle.ccan_object.specs.Profile.{objects_in}
use Rattle.ccan_registers.specs.declared.access_error.AccessError.{AccessError}
use Rattle.ccan_registers.specs.ChipSteps.{ChipGoes}
use Rattle.ccan_registers.specs.AllObjects.{HaveChanged, ChangesObject}
use Rattle.ccan_registers.proofs.Going.{rests, weaker}
use Rattle.ccan_registers.proofs.Changing.{one_more}
use Rattle.ccan_registers.proofs.all_objects.change_objects.Goals as goal

pub loop-n-init : goal.loop-n-init
loop-n-init c = record { settings = refl; goes = rests c.args.chip.now.port (λ terms seen added. HaveChanged terms c.args.change.now c.args.tries 0 seen added) refl }

pub loop-n-preserved : goal.loop-n-preserved
loop-n-preserved c =
    let old = c.args.chip.now.port in
    let new = c.change_object.new.chip.port in
    let tries = c.args.tries in
    let object = c.object_behind-object.result in
    let goes = subst (λ (k : ℕ). ChipGoes old new (λ terms seen added. HaveChanged terms c.args.change.now tries k seen added))
    (sym (add-one c.loop-n.n))
    (one_more old c.loop-n.chip.port new c.args.change.now tries c.loop-n.n object _ c.object_behind-object.ensures.number c.loop-n.invariant.goes
    (subst (λ (told : Result (Unit {0}) AccessError). ChipGoes c.loop-n.chip.port new
    (λ terms seen added. ChangesObject terms c.args.change.now tries object seen added told)) c.in_default.is c.change_object.ensures.goes)) in
    record { settings = c.change_object.ensures.settings ∙ c.loop-n.invariant.settings; goes = goes }

pub returns-in-Err-clause-goes : goal.returns-in-Err-clause-goes
returns-in-Err-clause-goes c =
    let old = c.args.chip.now.port in
    let new = c.change_object.new.chip.port in
    let tries = c.args.tries in
    let object = c.object_behind-object.result in
    let below : c.loop-n.n < objects_in old.pass.memory.profile =
    (subst (λ (p : Profile). c.loop-n.n < objects_in p) c.profile-profile.ensures
    (subst (λ (k : ℕ). c.loop-n.n < k) c.objects-n-end.ensures.number c.loop-n-test.true)) in
    weaker old new _ _
    (one_more old c.loop-n.chip.port new c.args.change.now tries c.loop-n.n object _ c.object_behind-object.ensures.number c.loop-n.invariant.goes
    (subst (λ (told : Result (Unit {0}) AccessError). ChipGoes c.loop-n.chip.port new
    (λ terms seen added. ChangesObject terms c.args.change.now tries object seen added told)) c.in-Err.is c.change_object.ensures.goes))
    (λ seen added h. (c.loop-n.n, below, h))
