-- From the rule of a shared memory to what its calls promise: the steps of a port that knows its part of one history.
use Rattle.std.proofs.Common.{ℕ, ◌≡◌, ◌<◌, Bool, true, false, cond, ◌||◌, ◌&&◌, List, [], ◌∷◌, ◌++◌, length, length-append}
use Rattle.std.proofs.Common.{append_assoc, refl, sym, ap, subst, ◌∙◌, arith, Ok, Err}
use Rattle.ccan_object.specs.declared.record.Record.{Record}
use Rattle.ccan_ram.specs.declared.change.Change.{Change}
use Rattle.ccan_ram.specs.declared.change.Changed.TheVariants.{Done}
use Rattle.ccan_ram.specs.declared.draft.Draft.{Draft}
use Rattle.ccan_ram.specs.declared.draft.CommitError.TheVariants.{Lost}
use Rattle.ccan_ram.specs.declared.event.Event.{Event}
use Rattle.ccan_ram.specs.Change.{fits, changed}
use Rattle.ccan_ram.specs.History.{is_change, events_of, changes_by, next_number, last_number}
use Rattle.ccan_ram.specs.Terms.{Terms}
use Rattle.ccan_ram.specs.Attempt.{look_at, change_at, AreOthers, IsLook, SomeContends}
use Rattle.ccan_ram.specs.Access.{Goes}
use Rattle.ccan_ram.specs.SharedRam.{Memory, Pass, IsWithin, IsSamePort, passes_of, IsShared, Meets}
use Rattle.ccan_ram.specs.Ending.{IsPart}
use Rattle.ccan_ram.specs.Draft.{LooksFor, Commits, IsDrawn}
use Rattle.ccan_ram.proofs.Histories.{events_of-append}

-- nothing stands before a list that it leaves as it is
nothing : {A : Type 0} (xs : List A) → length xs ≡ 0 → xs ≡ []
nothing [] h = refl
nothing (x ∷ xs) h = absurd (omega arith)

no_more : {A : Type 0} (xs ys : List A) → xs ++ ys ≡ ys → xs ≡ []
no_more xs ys h = nothing xs (let n = ap length h in let m = length-append xs ys in omega arith)

-- what a port has not seen yet are events of others
not_own : (pass : Pass) (history : List Event) (part : IsPart pass history) → events_of pass.port part.begins.0 ≡ []
not_own pass history part =
    no_more (events_of pass.port part.begins.0) (events_of pass.port pass.seen)
    (sym (events_of-append pass.port part.begins.0 pass.seen) ∙ (ap (events_of pass.port) (sym part.begins.1) ∙ part.own))

pub unseen : (contends : ℕ → ℕ → Bool) (pass : Pass) (history : List Event) (part : IsPart pass history)
    → AreOthers (passes_of contends pass).terms part.begins.0
unseen contends pass history part = record { not_own = not_own pass history part; none_alone = λ alone. absurd cc }

-- where the last number changed, some change contends
one_of : (test : Bool) (rest : Bool) (n m k : ℕ) → (cond test n m ≡ k → ⊥) → ((m ≡ k → ⊥) → rest ≡ true) → (test || rest) ≡ true
one_of true rest n m k h more = refl
one_of false rest n m k h more = more h

pub some_contends : (terms : Terms) (object : ℕ) (later earlier : List Event)
    → (last_number terms.contends object (later ++ earlier) ≡ last_number terms.contends object earlier → ⊥)
    → SomeContends terms object later
some_contends terms object [] earlier h = absurd (h refl)
some_contends terms object (event ∷ later) earlier h =
    one_of (is_change event && terms.contends event.object object) _ _ _ _ h (some_contends terms object later earlier)

module _ (contends : ℕ → ℕ → Bool) (old new : Pass) (history : List Event) (part : IsPart old history)
    (same : IsSamePort old new) where
  same_terms : (passes_of contends new).terms ≡ (passes_of contends old).terms
  same_terms = rw (same.memory, same.port) refl

  -- the port sees events in front of the whole history
  pub sees : (mine : List Event) (what : Terms → List Event → List Event → Type 0) → new.seen ≡ mine ++ history
      → IsWithin old.memory (mine ++ history)
      → what (passes_of contends old).terms old.seen (mine ++ part.begins.0)
      → Goes (passes_of contends old) (passes_of contends new) what
  sees mine what all within is =
      record {
        same = same_terms;
        each = λ seen here.
            let whole : (mine ++ part.begins.0) ++ seen ≡ new.seen =
            append_assoc mine part.begins.0 seen
            ∙ (ap (λ zs. mine ++ (part.begins.0 ++ zs)) here.0 ∙ (ap (λ zs. mine ++ zs) (sym part.begins.1) ∙ sym all)) in (
              mine ++ part.begins.0,
              (
                whole,
                subst (λ (m : Memory). IsWithin m ((mine ++ part.begins.0) ++ seen)) (sym same.memory)
                    (subst (λ (zs : List Event). IsWithin old.memory zs) (sym (whole ∙ all)) within),
              ),
              subst (λ (zs : List Event). what (passes_of contends old).terms zs (mine ++ part.begins.0)) (sym here.0) is,
            );
      }

  -- a look at the whole history
  pub look_goes : (object : ℕ) (shown : Record) → new.seen ≡ look_at old.port object shown ∷ history
      → IsWithin old.memory (look_at old.port object shown ∷ history)
      → Goes (passes_of contends old) (passes_of contends new) (λ terms seen added. IsLook terms object shown added)
  look_goes object shown all within =
      sees (look_at old.port object shown ∷ []) (λ terms seen added. IsLook terms object shown added) all within
      (part.begins.0, unseen contends old history part, refl)

  -- a look as the beginning of a change
  pub prepare_goes : (draft : Draft) → new.seen ≡ look_at old.port draft.object draft.held ∷ history
      → IsWithin old.memory (look_at old.port draft.object draft.held ∷ history)
      → draft.number ≡ last_number contends draft.object history
      → Goes (passes_of contends old) (passes_of contends new) (λ terms seen added. LooksFor terms draft seen added)
  prepare_goes draft all within number =
      sees (look_at old.port draft.object draft.held ∷ []) (λ terms seen added. LooksFor terms draft seen added) all within
      (record {
        others = part.begins.0;
        alone = unseen contends old history part;
        whole = refl;
        numbered = number
            ∙ ap (last_number contends draft.object) part.begins.1;
      })

  pub prepare_draws : (draft : Draft) → new.seen ≡ look_at old.port draft.object draft.held ∷ history
      → draft.number ≡ last_number contends draft.object history → IsDrawn contends draft new
  prepare_draws draft all number =
      ([], history, record { whole = rw same.port all; numbered = number })

  -- a change that is made after the whole history
  pub done_goes : (draft : Draft) (change : Change) → new.seen ≡ change_at old.port draft.object change draft.held ∷ history
      → IsWithin old.memory (change_at old.port draft.object change draft.held ∷ history)
      → changes_by old.port old.seen < old.memory.quota → fits change draft.held ≡ true
      → Goes (passes_of contends old) (passes_of contends new)
      (λ terms seen added. Commits terms draft change seen added
      (Ok (Done draft.held (changed change draft.held) (next_number old.port old.seen))))
  done_goes draft change all within room fit =
      sees (change_at old.port draft.object change draft.held ∷ [])
      (λ terms seen added. Commits terms draft change seen added
      (Ok (Done draft.held (changed change draft.held) (next_number old.port old.seen)))) all within
      (record {
        room = room;
        fit = fit;
        make = (part.begins.0, unseen contends old history part, refl);
        found = refl;
        left = refl;
        numbered = refl;
      })

  -- a change that is lost: the word holds another number than the draft
  pub lost_goes : (draft : Draft) (change : Change) (now : ℕ) → new.seen ≡ history → IsWithin old.memory history
      → changes_by old.port old.seen < old.memory.quota → fits change draft.held ≡ true
      → now ≡ last_number contends draft.object history → (now ≡ draft.number → ⊥)
      → Goes (passes_of contends old) (passes_of contends new)
      (λ terms seen added. Commits terms draft change seen added (Err (Lost now)))
  lost_goes draft change now all within room fit is other =
      sees [] (λ terms seen added. Commits terms draft change seen added (Err (Lost now))) all within
      (record {
        room = room;
        fit = fit;
        alone = unseen contends old history part;
        contended = λ later earlier drawn.
            let look = look_at old.port draft.object draft.held in
            let place : history ≡ (part.begins.0 ++ later) ++ look ∷ earlier =
            part.begins.1 ∙ (ap (λ zs. part.begins.0 ++ zs) drawn.whole
            ∙ sym (append_assoc part.begins.0 later (look ∷ earlier))) in
            some_contends (passes_of contends old).terms draft.object (part.begins.0 ++ later) (look ∷ earlier)
            (λ e. other (is ∙ (ap (last_number contends draft.object) place ∙ (e ∙ sym drawn.numbered))));
        last = is ∙ ap (last_number contends draft.object) part.begins.1;
      })

-- two ports that see the whole history have met
pub meets : (a b new_a new_b : Pass) (history : List Event) → IsPart a history → IsPart b history → IsSamePort a new_a
    → IsSamePort b new_b
    → new_a.seen ≡ history → new_b.seen ≡ history → IsWithin a.memory history → Meets a b new_a new_b
meets a b new_a new_b history part_a part_b same_a same_b is_a is_b within =
    let shared : IsShared a b history =
    record { begins_a = part_a.begins; begins_b = part_b.begins; own_a = part_a.own; own_b = part_b.own } in
    record {
      same_a = same_a;
      same_b = same_b;
      history = history;
      legal = within;
      part_a = ([], sym is_a);
      part_b = ([], sym is_b);
      shared_a =
          subst (λ (zs : List Event). IsShared a b zs) (sym is_a) shared;
      shared_b = subst (λ (zs : List Event). IsShared a b zs)
          (sym is_b) shared;
    }
