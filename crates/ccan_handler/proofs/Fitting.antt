-- What a scan finds, by the places of its events in a legal history.
use Rattle.std.proofs.Common.{ℕ, zero, suc, ◌≡◌, ◌≢◌, ◌≤◌, ◌<◌, ◌+◌, ◌-◌, ◌==◌, Bool, true, false, refl, inl, inr, ◌⊎◌, List, [], ◌∷◌, ◌++◌, sym, ap, subst, ◌∙◌, arith, append_assoc, Result, Ok, Err}
use Rattle.std.proofs.lemmas.Bool.{cases_lt}
use Rattle.std.proofs.lemmas.Bool.Decides.{nat_tests}
use Rattle.ccan_object.specs.declared.record.Record.{Record}
use Rattle.ccan_object.specs.Profile.{objects_in}
use Rattle.ccan_ram.specs.declared.change.Change.{Change}
use Rattle.ccan_ram.specs.declared.change.Change.TheVariants.{Start}
use Rattle.ccan_ram.specs.declared.change.Changed.{Changed}
use Rattle.ccan_ram.specs.declared.change.Changed.TheVariants.{Done}
use Rattle.ccan_ram.specs.declared.change.Refused.{Refused}
use Rattle.ccan_ram.specs.declared.event.Event.{Event}
use Rattle.ccan_ram.specs.Change.{fits}
use Rattle.ccan_ram.specs.History.{IsLegal}
use Rattle.ccan_ram.specs.Terms.{Terms}
use Rattle.ccan_ram.specs.Attempt.{IsLook, look_at, change_at}
use Rattle.ccan_ram.proofs.Histories.{IsLegal-older}
use Rattle.ccan_handler.specs.Scan.{PassesOver, IsPassed, StopsAt, Nowhere, MadeAt, RefusedAt}
use Rattle.ccan_handler.specs.Laws.{FitsThroughout, FittingIsNotPassedOver, ScansChangeWhatFits, ChosenIsReady}
use Rattle.ccan_handler.proofs.Scans.{both}

module _ (terms : Terms) (change : Change) (object : ℕ) where
  -- a look in a legal history shows the record of its place
  unfit_look : (seen added after looked before : List Event) (shown : Record) → IsLegal terms.profile (added ++ seen)
      → added ≡ after ++ (looked ++ before)
      → IsLook terms object shown looked → fits change shown ≡ false → FitsThroughout change object seen added → ⊥
  unfit_look seen added after looked before shown legal whole (others, foreign, look) unfit fit =
      let event = look_at terms.port object shown in
      let place = others ++ before in
      let split : added ≡ after ++ event ∷ place = whole ∙ ap (λ zs. after ++ (zs ++ before)) look in
      let legal' = subst (λ (es : List Event). IsLegal terms.profile es)
      (ap (λ zs. zs ++ seen) split ∙ append_assoc after (event ∷ place) seen) legal in
      let step = (IsLegal-older terms.profile after (event ∷ (place ++ seen)) legal').0 in
      let fits_here = fit (after ++ event ∷ []) place (split ∙ sym (append_assoc after (event ∷ []) place)) in
      let fits_shown = subst (λ (r : Record). fits change r ≡ true) (sym step.before) fits_here in
      cc

  passed_unfit : (tries : ℕ) (seen added last before : List Event) → IsLegal terms.profile (added ++ seen)
      → added ≡ last ++ before
      → IsPassed terms object change tries (before ++ seen) last → FitsThroughout change object seen added → ⊥
  passed_unfit tries seen added last before legal whole (inl (shown, unfit, look)) fit =
      unfit_look seen added [] last before shown legal whole look unfit fit
  passed_unfit tries seen added last before legal whole (inr (shown, tried)) fit =
      let a = tried.attempt in
      unfit_look seen added [] a.looked (a.lost ++ (tried.looked ++ before)) shown legal
      (whole ∙ (ap (λ zs. zs ++ before) (tried.whole ∙ ap (λ zs. zs ++ tried.looked) a.whole)
      ∙ (append_assoc (a.looked ++ a.lost) tried.looked before ∙ append_assoc a.looked a.lost (tried.looked ++ before))))
      a.look a.unfit fit

-- an object that fits throughout is not among those that are passed over
not_passed : (terms : Terms) (change : Change) (tries from n object : ℕ) (seen added : List Event)
    → IsLegal terms.profile (added ++ seen) → PassesOver terms from n change tries seen added
    → from ≤ object → object < from + n → FitsThroughout change object seen added → ⊥
not_passed terms change tries from zero object seen added legal passes low high fit = omega arith
not_passed terms change tries from (suc n) object seen added legal (last, earlier, whole, pass, passes) low high fit =
    by_place (object == from + n) refl
    (λ less. not_passed terms change tries from n object seen earlier
    (IsLegal-older terms.profile last (earlier ++ seen)
    (subst (λ (es : List Event). IsLegal terms.profile es) (ap (λ zs. zs ++ seen) whole ∙ append_assoc last earlier seen) legal))
    passes low less (λ xs ys e. fit (last ++ xs) ys (whole ∙ (ap (λ zs. last ++ zs) e ∙ sym (append_assoc last xs ys))))) where
      by_place : (test : Bool) → (object == from + n) ≡ test → (object < from + n → ⊥) → ⊥
      by_place true is less =
          let here : from + n ≡ object = grind (arith, nat_tests) in
          passed_unfit terms change object tries seen added last earlier legal whole
          (subst (λ k. IsPassed terms k change tries (earlier ++ seen) last) here pass) fit
      by_place false is less =
          let other : object ≢ from + n = grind (arith, nat_tests) in
          less (omega arith)

-- it is not before the object at which a scan stops
stops_by : (terms : Terms) (change : Change) (tries from object at : ℕ) (seen added : List Event)
    (outcome : Result Changed Refused)
    → IsLegal terms.profile (added ++ seen) → StopsAt terms from at change tries seen added outcome
    → from ≤ object → FitsThroughout change object seen added → at ≤ object
stops_by terms change tries from object at seen added outcome legal s low fit = by_order (cases_lt object at) where
  by_order : (object < at) ⊎ (at ≤ object) → at ≤ object
  by_order (inr after) = after
  by_order (inl before) =
      absurd (not_passed terms change tries from (at - from) object seen s.passed
      (IsLegal-older terms.profile s.last (s.passed ++ seen)
      (subst (λ (es : List Event). IsLegal terms.profile es) (ap (λ zs. zs ++ seen) s.whole ∙ append_assoc s.last s.passed seen)
      legal))
      s.passes low (omega arith)
      (λ xs ys e. fit (s.last ++ xs) ys (s.whole ∙ (ap (λ zs. s.last ++ zs) e ∙ sym (append_assoc s.last xs ys)))))

pub fitting_law : FittingIsNotPassedOver
fitting_law terms change tries from object seen added Nowhere legal scan low high fit =
    not_passed terms change tries from (objects_in terms.profile + 1 - from) object seen added legal scan low (omega arith) fit
fitting_law terms change tries from object seen added (MadeAt at before after number) legal scan low high fit =
    stops_by terms change tries from object at seen added (Ok (Done before after number)) legal scan low fit
fitting_law terms change tries from object seen added (RefusedAt at why) legal scan low high fit =
    stops_by terms change tries from object at seen added (Err why) legal scan low fit

-- the change that a scan makes is its last event
pub made_law : ScansChangeWhatFits
made_law terms change tries from object number before after seen added legal s =
    let t = s.try in
    let a = t.attempt in
    let others = a.make.0 in
    let event = change_at terms.port object change before in
    let earlier = ((others ++ (a.looked ++ a.lost)) ++ t.looked) ++ s.passed in
    let last : added ≡ event ∷ earlier =
    s.whole ∙ ap (λ zs. zs ++ s.passed) (t.whole
    ∙ ap (λ zs. zs ++ t.looked) (a.whole ∙ ap (λ zs. zs ++ (a.looked ++ a.lost)) a.make.2)) in
    let step = (subst (λ (es : List Event). IsLegal terms.profile (es ++ seen)) last legal).0 in
    record { earlier = earlier; last = last; found = step.before; fit = a.fit; left = a.left }

pub chosen_law : ChosenIsReady
chosen_law terms tries from object after seen added legal (before, number, scan) =
    let made = made_law terms Start tries from object number before after seen added legal scan in
    let ready = both before.valid before.txrqst made.fit in
    record {
      here = before;
      earlier = made.earlier;
      last = made.last;
      found = made.found;
      valid = ready.0;
      requested = ready.1;
      left =
          made.left;
    }
