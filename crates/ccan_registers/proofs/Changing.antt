-- What one change of each object says, put together from its calls.
use Rattle.std.proofs.Common.{◌≡◌, ℕ, ◌+◌, suc, subst, arith}
use Rattle.std.specs.Prelude.{Result}
use Rattle.ccan_ram.specs.declared.change.Change.{Change}
use Rattle.ccan_ram.specs.declared.change.Changed.{Changed}
use Rattle.ccan_ram.specs.declared.change.Refused.{Refused}
use Rattle.ccan_ram.specs.Access.{Goes}
use Rattle.ccan_ram.specs.Attempt.{Attempt}
use Rattle.ccan_ram.specs.SharedRam.{passes_of}
use Rattle.ccan_endless.specs.ChipPort.{AddsNone, ChipPass}
use Rattle.ccan_endless.specs.Layout.{same_object}
use Rattle.ccan_registers.specs.declared.access_error.AccessError.{AccessError}
use Rattle.ccan_registers.specs.ChipSteps.{ChipGoes, Then}
use Rattle.ccan_registers.specs.Dcan.{change_told}
use Rattle.ccan_registers.specs.AllObjects.{HaveChanged, ChangesObject}
use Rattle.ccan_registers.proofs.Going.{goes_then, on_objects, weaker}

-- the objects so far, and one more
pub one_more : (a b d : ChipPass) (change : Change) (tries n object : ℕ) (told : Result (Unit {0}) AccessError) → object ≡ n + 1
    → ChipGoes a b (λ terms seen added. HaveChanged terms change tries n seen added)
    → ChipGoes b d (λ terms seen added. ChangesObject terms change tries object seen added told)
    → ChipGoes a d (λ terms seen added. Then (λ s a. HaveChanged terms change tries n s a)
    (λ s a. ChangesObject terms change tries (suc n) s a told) seen added)
one_more a b d change tries n object told is f s =
    let next : object ≡ suc n = omega (arith, is) in
    goes_then a b d (λ terms. HaveChanged terms change tries n) (λ terms seen added. ChangesObject terms change tries (suc n) seen added told) f
    (subst (λ (k : ℕ). ChipGoes b d (λ terms seen added. ChangesObject terms change tries k seen added told)) next s)

-- a change of an object, as it ends
pub object_changed : (old new : ChipPass) (change : Change) (tries object : ℕ) (outcome : Result Changed Refused)
    (told : Result (Unit {0}) AccessError) → told ≡ change_told outcome → AddsNone old new
    → Goes (passes_of same_object old.pass) (passes_of same_object new.pass)
    (λ terms seen added. Attempt terms object change tries seen added outcome)
    → ChipGoes old new (λ terms seen added. ChangesObject terms change tries object seen added told)
object_changed old new change tries object outcome told is none goes =
    weaker old new _ _
    (on_objects old new (λ terms s a. Attempt terms object change tries s a outcome) none goes)
    (λ seen added h. (outcome, h, is))
