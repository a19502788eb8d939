-- The laws of the history of a chip.
use Rattle.std.proofs.Common.{◌≡◌, Bool, true, false, cond, List, [], ◌∷◌, sym, refl, ap, ◌∙◌, subst, true≢false}
use Rattle.std.specs.List.{list_any}
use Rattle.std.proofs.lemmas.Bool.{or_parts}
use Rattle.ccan_confine.specs.declared.controller.Controller.{Controller}
use Rattle.ccan_confine.specs.declared.controller_change.ControllerChange.{ControllerChange}
use Rattle.ccan_confine.specs.Controller.{controller_after, is_handlers}
use Rattle.ccan_confine.specs.Counters.{AreAfter}
use Rattle.ccan_confine.specs.ControllerLaws.{controller_of, is_dcan_reset, node_events}
use Rattle.ccan_confine.proofs.ControllerLaws.{counters_defined, hosts_leave}
use Rattle.ccan_ram.specs.declared.port.PortName.{PortName}
use Rattle.ccan_ram.specs.declared.port.PortName.TheVariants.{Bus}
use Rattle.ccan_ram.specs.Port.{same_port}
use Rattle.ccan_ram.proofs.Ports.{same_own}
use Rattle.ccan_endless.specs.declared.chip.ChipEvent.TheVariants.{OfRam, OfController}
use Rattle.ccan_endless.specs.declared.chip.ControllerEvent.{ControllerEvent}
use Rattle.ccan_endless.specs.declared.chip.ControllerStep.{ControllerStep}
use Rattle.ccan_endless.specs.declared.chip.ControllerStep.TheVariants.{Look, Make}
use Rattle.ccan_endless.specs.Chip.{steps_of, MayMake, MayStand, left_by}
use Rattle.ccan_endless.specs.ChipLaws.{add_change, changes_in, ControllerIsItsChanges, CountersAreAsDefined, LevelsAreTheHandlers}

left_of : (st : ControllerStep) (changes : List ControllerChange) (before : Controller) → before ≡ controller_of changes
    → left_by st before ≡ controller_of (add_change st changes)
unfolding controller_of
left_of Look changes before is = is
left_of (Make z) changes before is = ap (controller_after z) is

pub its_changes : ControllerIsItsChanges
unfolding controller_of
its_changes [] legal = refl
its_changes (OfRam e ∷ h) legal = its_changes h legal
its_changes (OfController e ∷ h) legal =
    legal.0.after ∙ left_of e.step (changes_in h) e.before (legal.0.before ∙ its_changes h legal.1)

pub chip_counters : CountersAreAsDefined
chip_counters h legal =
    subst (λ (c : Controller). AreAfter true (node_events (changes_in h)) c.counters) (sym (its_changes h legal))
    (counters_defined (changes_in h))

-- where nothing is the port's, neither is the newest
none_own : (b : Bool) (e : ControllerEvent) (xs : List ControllerEvent) → cond b (e ∷ xs) xs ≡ [] → (b ≡ false) × (xs ≡ [])
none_own true e xs h = absurd cc
none_own false e xs h = (refl, h)

-- a change of another port is a host's
hosts : (b : Bool) (p : PortName) (z : ControllerChange) → is_handlers z ≡ b → MayMake p z → same_port p Bus ≡ false
    → is_handlers z ≡ false
hosts true p z is may other =
    absurd (true≢false (sym (same_own Bus) ∙ (ap (λ (q : PortName). same_port q Bus) (sym (may.own is)) ∙ other)))
hosts false p z is may other = is

-- a reset of a D_CAN
abbrev pub is_reset : ControllerStep → Bool
is_reset Look = false
is_reset (Make z) = is_dcan_reset z

-- where none is among the changes, neither is the newest step one
pub none_reset : (st : ControllerStep) (changes : List ControllerChange) → list_any is_dcan_reset (add_change st changes) ≡ false
    → (is_reset st ≡ false) × (list_any is_dcan_reset changes ≡ false)
none_reset Look changes none = (refl, none)
none_reset (Make z) changes none = or_parts (is_dcan_reset z) (list_any is_dcan_reset changes) none

step_kept : (st : ControllerStep) (p : PortName) (c : Controller) → MayStand p st → same_port p Bus ≡ false
    → is_reset st ≡ false
    → (left_by st c).counters.levels ≡ c.counters.levels
step_kept Look p c may other none = refl
step_kept (Make z) p c may other none = hosts_leave z c (hosts (is_handlers z) p z refl may other) none

pub levels_stay : LevelsAreTheHandlers
levels_stay [] h legal none stays = refl
levels_stay (OfRam e ∷ more) h legal none stays = levels_stay more h legal none stays
levels_stay (OfController e ∷ more) h legal none stays =
    let o = none_own (same_port e.port Bus) e (steps_of Bus more) none in
    let r = none_reset e.step (changes_in more) stays in
    let s = legal.0 in
    ap (λ (c : Controller). c.counters.levels) s.after
    ∙ (step_kept e.step e.port e.before s.stands o.0 r.0
    ∙ (ap (λ (c : Controller). c.counters.levels) s.before ∙ levels_stay more h legal.1 o.1 r.1))
