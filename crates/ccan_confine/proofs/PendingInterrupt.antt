-- When the status interrupt is pending: the test on what is held, and the cause in the list of what happened.
use Rattle.std.proofs.Common.{◌≡◌, ◌≢◌, Bool, true, false, ◌&&◌, ◌||◌, List, [], ◌∷◌, ◌++◌, ◌⊎◌, refl, sym, ap, ◌∙◌, inl, inr}
use Rattle.std.proofs.lemmas.Bool.{or_parts, or_cases, or_left, or_right, and_parts, and_from}
use Rattle.std.specs.List.{list_any}
use Rattle.ccan_confine.specs.declared.status_event.StatusEvent.{StatusEvent}
use Rattle.ccan_confine.specs.StatusEvent.{is_transfer_or_error}
use Rattle.ccan_confine.specs.Counters.{Levels, is_off, reaches}
use Rattle.ccan_confine.specs.Status.{StatusStep, Happened, Enabled, WasRead, is_read, warning_limit, ChangesLevel, IsCause}
use Rattle.ccan_confine.specs.Status.{IsPending, Held, IsHeldAfter, differ, raises}

-- the two spellings of what makes the interrupt pending agree: the test on what is held, and the cause in the list
differ-true : (a b : Bool) → differ a b ≡ true → b ≢ a
differ-true true true d = cc
differ-true true false d = λ e. cc
differ-true false true d = λ e. cc
differ-true false false d = cc

differ-from : (a b : Bool) → b ≢ a → differ a b ≡ true
differ-from true true d = absurd (d refl)
differ-from true false d = refl
differ-from false true d = refl
differ-from false false d = absurd (d refl)

-- BOff or EWarn differs from what is held
abbrev pub level_differs : Held → Levels → Bool
level_differs held levels = differ held.boff (is_off levels) || differ held.ewarn (reaches warning_limit levels)

changes_level : (steps : List StatusStep) (held : Held) (levels : Levels) → IsHeldAfter steps held
    → level_differs held levels ≡ true → ChangesLevel levels steps
changes_level steps held levels after differs =
    elim (or_cases (differ held.boff (is_off levels)) _ differs) [
      | inl off ↦ inl (λ same. differ-true held.boff (is_off levels) off (same ∙ sym after.boff))
      | inr warning ↦ inr (λ same. differ-true held.ewarn (reaches warning_limit levels) warning (same ∙ sym after.ewarn))
    ]

changed_level : (steps : List StatusStep) (held : Held) (levels : Levels) → IsHeldAfter steps held
    → ChangesLevel levels steps → level_differs held levels ≡ true
changed_level steps held levels after changes =
    elim changes [
      | inl off ↦ or_left _ _ (differ-from held.boff (is_off levels) (λ same. off (same ∙ after.boff)))
      | inr warning ↦ or_right _ _ (differ-from held.ewarn (reaches warning_limit levels) (λ same. warning (same ∙ after.ewarn)))
    ]

pub raises-cause : (steps : List StatusStep) (held : Held) (event : StatusEvent) (levels : Levels) → IsHeldAfter steps held
    → raises held event levels ≡ true → IsCause event levels steps
raises-cause steps held event levels after raised =
    elim (or_cases (held.sie && is_transfer_or_error event) _ raised) [
      | inl transfer ↦
          let parts = and_parts held.sie (is_transfer_or_error event) transfer in
          inl (sym after.sie ∙ parts.0, parts.1)
      | inr change ↦
          let parts = and_parts held.eie (level_differs held levels) change in
          inr (sym after.eie ∙ parts.0, changes_level steps held levels after parts.1)
    ]

pub cause-raises : (steps : List StatusStep) (held : Held) (event : StatusEvent) (levels : Levels) → IsHeldAfter steps held
    → IsCause event levels steps → raises held event levels ≡ true
cause-raises steps held event levels after cause =
    elim cause [
      | inl transfer ↦
          or_left _ _ (and_from held.sie (is_transfer_or_error event) (after.sie ∙ transfer.0) transfer.1)
      | inr change ↦
          let differs = changed_level steps held levels after change.1 in
          let enabled : (held.eie && level_differs held levels) ≡ true = and_from held.eie _ (after.eie ∙ change.0) differs in
          or_right (held.sie && is_transfer_or_error event) _ enabled
    ]

-- the newest step is the cause
pub record IsCausedBy (step : StatusStep) (steps : List StatusStep) : Type 0 where
  pub event : StatusEvent
  pub levels : Levels
  pub is : step ≡ Happened event levels
  pub cause : IsCause event levels steps

cause_in : (step : StatusStep) (steps later earlier : List StatusStep) (event : StatusEvent) (levels : Levels)
    → step ∷ steps ≡ later ++ Happened event levels ∷ earlier → list_any is_read later ≡ false → IsCause event levels earlier
    → IsCausedBy step steps ⊎ ((is_read step ≡ false) × IsPending steps)
cause_in step steps [] earlier event levels stands unread cause =
    let same : steps ≡ earlier = cc in
    inl record { event = event; levels = levels; is = cc; cause = rw same cause }
cause_in step steps (first ∷ later) earlier event levels stands unread cause =
    let same : step ≡ first = cc in
    let parts = or_parts (is_read first) (list_any is_read later) unread in
    let before : IsPending steps =
    record { later = later; event = event; levels = levels; earlier = earlier; stands = cc; unread = parts.1; cause = cause } in
    inr (ap is_read same ∙ parts.0, before)

-- of a pending interrupt the newest step is the cause, or no read and the interrupt was pending before
pub pending_cause : (step : StatusStep) (steps : List StatusStep) → IsPending (step ∷ steps)
    → IsCausedBy step steps ⊎ ((is_read step ≡ false) × IsPending steps)
pending_cause step steps pending =
    cause_in step steps pending.later pending.earlier pending.event pending.levels pending.stands pending.unread pending.cause

-- a step that is no read leaves it pending
pub pending_stays : (step : StatusStep) (steps : List StatusStep)
    → is_read step ≡ false → IsPending steps → IsPending (step ∷ steps)
pending_stays step steps other pending =
    record {
      later = step ∷ pending.later;
      event = pending.event;
      levels = pending.levels;
      earlier = pending.earlier;
      stands = ap (λ rest. step ∷ rest) pending.stands;
      unread = rw other pending.unread;
      cause = pending.cause;
    }

-- an event that makes it pending
pub pending_now : (event : StatusEvent) (levels : Levels) (steps : List StatusStep)
    → IsCause event levels steps → IsPending (Happened event levels ∷ steps)
pending_now event levels steps cause =
    record { later = []; event = event; levels = levels; earlier = steps; stands = refl; unread = refl; cause = cause }

none_stands : (later earlier : List StatusStep) (event : StatusEvent) (levels : Levels)
    → [] ≡ later ++ Happened event levels ∷ earlier → ⊥
none_stands [] earlier event levels e = cc
none_stands (step ∷ later) earlier event levels e = cc

pub pending_none : IsPending [] → ⊥
pending_none pending = none_stands pending.later pending.earlier pending.event pending.levels pending.stands

pub pending_read : (steps : List StatusStep) → IsPending (WasRead ∷ steps) → ⊥
pending_read steps pending =
    elim (pending_cause WasRead steps pending) [
      | inl now ↦ let wrong : WasRead ≡ Happened now.event now.levels = now.is in cc
      | inr before ↦ let wrong : true ≡ false = before.0 in cc
    ]

pub pending_enabled : (sie eie : Bool) (steps : List StatusStep) → IsPending (Enabled sie eie ∷ steps) → IsPending steps
pending_enabled sie eie steps pending =
    elim (pending_cause (Enabled sie eie) steps pending) [
      | inl now ↦ absurd (let wrong : Enabled sie eie ≡ Happened now.event now.levels = now.is in cc)
      | inr before ↦ before.1
    ]

pub pending_happened : (event : StatusEvent) (levels : Levels) (steps : List StatusStep)
    → IsPending (Happened event levels ∷ steps) → IsCause event levels steps ⊎ IsPending steps
pending_happened event levels steps pending =
    elim (pending_cause (Happened event levels) steps pending) [
      | inl now ↦
          let same : Happened event levels ≡ Happened now.event now.levels = now.is in
          let same_event : event ≡ now.event = cc in
          let same_levels : levels ≡ now.levels = cc in
          inl (rw (same_event, same_levels) now.cause)
      | inr before ↦ inr before.1
    ]
