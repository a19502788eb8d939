-- Steps of a port as events that they add to the history of the chip, of which no more is said, and looks at one object after
-- another.
use Rattle.std.proofs.Common.{◌≡◌, ℕ, List, [], ◌∷◌, ◌++◌, length, refl, sym, ap, subst, ◌∙◌, append_assoc, ◌+◌, arith}
use Rattle.std.specs.Prelude.{Result, Ok, Err, IfOk, IfErr}
use Rattle.std.proofs.lemmas.List.{append-nil}
use Rattle.ccan_confine.specs.declared.controller_change.ControllerChange.{ControllerChange}
use Rattle.ccan_confine.specs.Controller.{IsController}
use Rattle.ccan_object.specs.declared.record.Record.{Record}
use Rattle.ccan_ram.specs.Terms.{Terms}
use Rattle.ccan_endless.specs.declared.chip.ControllerStep.TheVariants.{Make}
use Rattle.ccan_endless.specs.declared.controller_changed.ControllerBusy.{ControllerBusy}
use Rattle.ccan_endless.specs.declared.controller_changed.ControllerChanged.{ControllerChanged}
use Rattle.ccan_endless.specs.Chip.{ChipHistory, controller_at}
use Rattle.ccan_endless.specs.ChipPort.{AddsController, AddsNoEvent, AddsNone, ChipPass}
use Rattle.ccan_registers.specs.ChipSteps.{ChipGoes, terms_at}
use Rattle.ccan_registers.specs.Objects.{ShowsObject}
use Rattle.ccan_registers.proofs.Going.{at_controller, goes_then, weaker}
use Rattle.ccan_registers.specs.Looks.{GoesOn, LooksThrough}

-- ---- steps of which no more is said

pub some_steps : (old new : ChipPass) (what : Terms → ChipHistory → ChipHistory → Type 0) → ChipGoes old new what
    → GoesOn old new
some_steps old new what goes = weaker old new what _ goes (λ seen added h. tt)

pub on_and_on : (a b d : ChipPass) → GoesOn a b → GoesOn b d → GoesOn a d
on_and_on a b d f s = some_steps a d _ (goes_then a b d (λ terms seen added. Unit {0}) (λ terms seen added. Unit {0}) f s)

given_up : (old new : ChipPass) → AddsNone old new → AddsNoEvent old new → GoesOn old new
given_up old new none quiet = record {
  same = none.same;
  each = λ s. (none.part.0, record { one = none.to; sees = quiet.sees }, none.part.1, tt);
}

-- a change of the controller, as it ends
pub after_change : (old new : ChipPass) (change : ControllerChange) (outcome : Result ControllerChanged ControllerBusy)
    → IfOk outcome (λ made. AddsController old new (Make change) made.before)
    → IfErr outcome (λ busy. (busy.controller ≡ controller_at new.whole) × IsController busy.controller × AddsNone old new)
    → AddsNoEvent old new
    → GoesOn old new
after_change old new change (Ok made) adds none quiet =
    some_steps old new _ (at_controller old new (Make change) made.before adds quiet)
after_change old new change (Err busy) adds none quiet = given_up old new none.2 quiet

-- ---- looks at one object after another

-- they go on by one more
pub looks_more : (terms : Terms) (object : ℕ) (rs : List Record) (r : Record) (next : ℕ) (seen a b : ChipHistory)
    → object + length rs ≡ next → LooksThrough terms object rs seen a → ShowsObject terms next (a ++ seen) b r
    → LooksThrough terms object (rs ++ r ∷ []) seen (b ++ a)
looks_more terms object [] r next seen a b place looks shows =
    let same : next ≡ object = omega arith in
    record {
      earlier = b;
      later = [];
      whole = ap (λ (l : ChipHistory). b ++ l) looks ∙ append-nil b;
      begins =
          subst (λ n. ShowsObject terms n seen b r) same
          (record { none = shows.none; means = shows.means });
      ends = refl;
    }
looks_more terms object (q ∷ rs) r next seen a b place looks shows =
    let e = looks.earlier in
    let l = looks.later in
    record {
      earlier = e;
      later = b ++ l;
      whole = ap (λ (l : ChipHistory). b ++ l) looks.whole ∙ sym (append_assoc b l e);
      begins = looks.begins;
      ends =
          looks_more terms (object + 1) rs r next (e ++ seen) l b (omega arith) looks.ends
          (record { none = shows.none; means = shows.means });
    }

-- a port's looks go on by a look
pub looks_on : (a b d : ChipPass) (rs : List Record) (r : Record) (next : ℕ) → 1 + length rs ≡ next
    → ChipGoes a b (λ terms seen added. LooksThrough terms 1 rs seen added)
    → ChipGoes b d (λ terms seen added. ShowsObject terms next seen added r)
    → ChipGoes a d (λ terms seen added. LooksThrough terms 1 (rs ++ r ∷ []) seen added)
looks_on a b d rs r next place f s =
    weaker a d _ _
    (goes_then a b d (λ terms seen added. LooksThrough terms 1 rs seen added)
    (λ terms seen added. ShowsObject terms next seen added r) f s)
    (λ seen added h.
    let p : (later : ChipHistory) → added ≡ later → LooksThrough (terms_at a) 1 (rs ++ r ∷ []) seen later
    → LooksThrough (terms_at a) 1 (rs ++ r ∷ []) seen added =
    λ later e l. subst (λ (x : ChipHistory). LooksThrough (terms_at a) 1 (rs ++ r ∷ []) seen x) (sym e) l in
    p (h.later ++ h.earlier) h.whole
    (looks_more (terms_at a) 1 rs r next seen h.earlier h.later place h.begins h.ends))
