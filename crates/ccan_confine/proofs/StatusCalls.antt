-- Each call of the Status register against the list of what happened to it.
use Rattle.std.proofs.Common.{◌≡◌, Bool, true, false, ◌||◌, IsTrue, ◌↔◌, Option, Some, None, unwrap_or, List, [], ◌∷◌}
use Rattle.std.proofs.Common.{slice_get, refl, sym, ap, ◌∙◌, inl, inr}
use Rattle.std.proofs.lemmas.Bool.{or_cases, or_left, or_right}
use Rattle.std.specs.List.{filter_map, cons_option}
use Rattle.ccan_confine.specs.declared.status_event.StatusEvent.{StatusEvent}
use Rattle.ccan_confine.specs.StatusEvent.{code_of, is_sent, is_received}
use Rattle.ccan_confine.specs.Counters.{Levels}
use Rattle.ccan_confine.specs.Status.{StatusStep, Happened, Enabled, WasRead, newest, code_given, IsPending, Held}
use Rattle.ccan_confine.specs.Status.{IsHeldAfter, AddsStep, nothing_held, raises, held_after}
use Rattle.ccan_confine.proofs.PendingInterrupt.{raises-cause, cause-raises, pending_stays, pending_now}
use Rattle.ccan_confine.proofs.PendingInterrupt.{pending_none, pending_read, pending_enabled, pending_happened}

-- the newest step gives it, or one before
pub newest-more : {A : Type 0} (given : StatusStep → Option A) (opening : A) (step : StatusStep) (steps : List StatusStep)
    → newest given opening (step ∷ steps) ≡ unwrap_or (given step) (newest given opening steps)
newest-more given opening step steps =
    let rest = filter_map given steps in
    elim (given step) as (λ o. unwrap_or (slice_get (cons_option o rest) 0) opening ≡ unwrap_or o (newest given opening steps)) [
      | None ↦ refl
      | Some x ↦ refl
    ]

or_swap : (a b : Bool) → (a || b) ≡ (b || a)
or_swap true true = refl
or_swap true false = refl
or_swap false true = refl
or_swap false false = refl

never : (steps : List StatusStep) → (IsPending steps → ⊥) → IsTrue false ↔ IsPending steps
never steps not_pending =
    ((λ raised. absurd (let wrong : false ≡ true = raised in cc)), (λ pending. absurd (not_pending pending)))

pub listed_new : IsHeldAfter [] nothing_held
listed_new =
    record {
      tx_ok = refl;
      rx_ok = refl;
      lec = refl;
      sie = refl;
      eie = refl;
      boff = refl;
      ewarn = refl;
      pending = never [] pending_none;
    }

pending_after : (steps : List StatusStep) (event : StatusEvent) (levels : Levels) (old : Held) → IsHeldAfter steps old
    → IsTrue (held_after event levels old).pending ↔ IsPending (Happened event levels ∷ steps)
pending_after steps event levels old held =
    let first : IsTrue (old.pending || raises old event levels) → IsPending (Happened event levels ∷ steps) =
    λ raised. elim (or_cases old.pending (raises old event levels) raised) [
      | inl before ↦ pending_stays (Happened event levels) steps refl (held.pending.0 before)
      | inr now ↦ pending_now event levels steps (raises-cause steps old event levels held now)
    ] in
    let second : IsPending (Happened event levels ∷ steps) → IsTrue (old.pending || raises old event levels) =
    λ pending. elim (pending_happened event levels steps pending) [
      | inl now ↦ or_right old.pending _ (cause-raises steps old event levels held now)
      | inr before ↦ or_left _ (raises old event levels) (held.pending.1 before)
    ] in
    (first, second)

pub adds_event : (event : StatusEvent) (levels : Levels) (old new : Held)
    → new ≡ held_after event levels old → AddsStep (Happened event levels) old new
adds_event event levels old new changed steps held =
    rw changed record {
      tx_ok = or_swap old.tx_ok (is_sent event) ∙ ap (λ b. is_sent event || b) held.tx_ok;
      rx_ok = or_swap old.rx_ok (is_received event) ∙ ap (λ b. is_received event || b) held.rx_ok;
      lec = ap (unwrap_or (code_of event)) held.lec ∙ sym (newest-more code_given 0 (Happened event levels) steps);
      sie = held.sie;
      eie = held.eie;
      boff = refl;
      ewarn = refl;
      pending = pending_after steps event levels old held;
    }

pub adds_enabling : (sie eie : Bool) (old new : Held)
    → new ≡ record old { sie = sie; eie = eie } → AddsStep (Enabled sie eie) old new
adds_enabling sie eie old new changed steps held =
    rw changed record {
      tx_ok = held.tx_ok;
      rx_ok = held.rx_ok;
      lec = held.lec;
      sie = refl;
      eie = refl;
      boff = held.boff;
      ewarn = held.ewarn;
      pending = (
        (λ raised. pending_stays (Enabled sie eie) steps refl (held.pending.0 raised)),
        (λ pending. held.pending.1 (pending_enabled sie eie steps pending)),
      );
    }

pub adds_read : (old new : Held) → new ≡ record old { pending = false } → AddsStep WasRead old new
adds_read old new changed steps held =
    rw changed record {
      tx_ok = held.tx_ok;
      rx_ok = held.rx_ok;
      lec = held.lec;
      sie = held.sie;
      eie = held.eie;
      boff = held.boff;
      ewarn = held.ewarn;
      pending = never (WasRead ∷ steps) (pending_read steps);
    }
