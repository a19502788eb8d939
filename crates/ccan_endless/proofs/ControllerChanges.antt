-- Changes of the controller that are tried more than once: each try that was lost has a change of another port of its own.
use Rattle.std.proofs.Common.{◌≡◌, ◌≢◌, ◌+◌, ◌≤◌, ◌⊎◌, ◌++◌, List, [], ◌∷◌, length, sym, ap, ◌∙◌, subst, inl, inr, ⊎_elim, arith}
use Rattle.ccan_confine.specs.declared.controller.Controller.{Controller}
use Rattle.ccan_confine.specs.declared.controller_change.ControllerChange.{ControllerChange}
use Rattle.ccan_ram.specs.declared.port.PortName.{PortName}
use Rattle.ccan_ram.specs.History.{events_of}
use Rattle.ccan_ram.specs.SharedRam.{IsSamePort}
use Rattle.ccan_ram.proofs.Histories.{begins_through}
use Rattle.ccan_endless.specs.declared.chip.ChipEvent.TheVariants.{OfRam, OfController}
use Rattle.ccan_endless.specs.declared.chip.ControllerStep.{ControllerStep}
use Rattle.ccan_endless.specs.declared.chip.ControllerStep.TheVariants.{Look, Make}
use Rattle.ccan_endless.specs.Chip.{ChipHistory, GoesFrom, IsControllerLegal, IsControllerStep, controller_at, left_by, step_at, steps_of}
use Rattle.ccan_endless.specs.ChipLaws.{add_change, changes_in}
use Rattle.ccan_endless.specs.ChipPort.{ChipPass, AddsController, AddsNone, AddsNoEvent, HasChanges}
use Rattle.ccan_endless.proofs.Onward.{goes_through}

-- ---- one call after another

pub step_through : (a b c : ChipPass) (step : ControllerStep) (before : Controller) → AddsNone a b
    → AddsController b c step before
    → AddsController a c step before
step_through a b c step before x y = record {
  same = record { memory = y.same.memory ∙ x.same.memory; port = y.same.port ∙ x.same.port };
  from = x.from;
  to = y.to;
  log = y.log;
  part = goes_through y.log b.whole a.whole y.part x.part;
  own = subst (λ (p : PortName). steps_of p y.log ≡ steps_of p b.whole) x.same.port y.own ∙ x.own;
  whole = y.whole ∙ ap (λ (p : PortName). OfController (step_at p step before) ∷ y.log) x.same.port;
  stands = subst (λ (p : PortName). IsControllerStep (step_at p step before) y.log) x.same.port y.stands;
}

pub no_event_through : (a b c : ChipPass) → IsSamePort a.pass b.pass → AddsNoEvent a b → AddsNoEvent b c → AddsNoEvent a c
no_event_through a b c same x y = record {
  part = begins_through c.pass.seen b.pass.seen a.pass.seen y.part x.part;
  own = subst (λ (p : PortName). events_of p c.pass.seen ≡ events_of p b.pass.seen) same.port y.own ∙ x.own;
  sees = y.sees;
}

-- ---- changes are counted

one_more : (step : ControllerStep) (l : List ControllerChange) → length l ≤ length (add_change step l)
one_more Look l = omega arith
one_more (Make change) l = omega arith

-- a step is a change, or leaves the controller
changes_or_stays : (step : ControllerStep) (l : List ControllerChange) (before after : Controller) → after ≡ left_by step before
    → (length (add_change step l) ≡ length l + 1) ⊎ (after ≡ before)
changes_or_stays Look l before after e = inr e
changes_or_stays (Make change) l before after e = inl (omega arith)

changes_grow : (more h : ChipHistory) → length (changes_in h) ≤ length (changes_in (more ++ h))
changes_grow [] h = omega arith
changes_grow (OfRam e ∷ more) h = changes_grow more h
changes_grow (OfController e ∷ more) h =
    let g = changes_grow more h in
    let o = one_more e.step (changes_in (more ++ h)) in omega arith

another_change : (more h : ChipHistory) → IsControllerLegal (more ++ h) → controller_at (more ++ h) ≢ controller_at h
    → length (changes_in h) + 1 ≤ length (changes_in (more ++ h))
another_change [] h legal n = absurd (n (λ i. controller_at h))
another_change (OfRam e ∷ more) h legal n = another_change more h legal n
another_change (OfController e ∷ more) h legal n = ⊎_elim
    (λ (t : length (add_change e.step (changes_in (more ++ h))) ≡ length (changes_in (more ++ h)) + 1).
    let g = changes_grow more h in omega arith)
    (λ (same : e.after ≡ e.before).
    let g = another_change more h legal.1 (λ k. n (same ∙ (legal.0.before ∙ k))) in
    let o = one_more e.step (changes_in (more ++ h)) in omega arith)
    (changes_or_stays e.step (changes_in (more ++ h)) e.before e.after legal.0.after)

pub none_changed : (newer older : ChipHistory) → GoesFrom newer older → HasChanges 0 older newer
none_changed newer older g =
    subst (HasChanges 0 older) (sym g.1) (let t = changes_grow g.0 older in omega arith)

pub one_changed : (newer older : ChipHistory) → GoesFrom newer older → IsControllerLegal newer
    → controller_at newer ≢ controller_at older → HasChanges 1 older newer
one_changed newer older g legal other =
    subst (HasChanges 1 older) (sym g.1)
    (another_change g.0 older (subst IsControllerLegal g.1 legal) (λ e. other (ap controller_at g.1 ∙ e)))
