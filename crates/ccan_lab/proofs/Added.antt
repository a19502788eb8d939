-- Lines of one line more of a port, and of one object more.
use Rattle.std.proofs.Common.{◌≡◌, ◌+◌, ◌++◌, inl, inr, ℕ, zero, suc, List, [], ◌∷◌, Option, None, Some, length, length-append, map, slice_get, append_assoc, append-nil, refl, sym, ap, subst, ◌∙◌, arith}
use Rattle.ccan_object.specs.declared.record.Record.{Record}
use Rattle.ccan_ram.specs.declared.port.PortName.{PortName}
use Rattle.ccan_outcomes.specs.declared.ending.Ending.{Ending}
use Rattle.ccan_lab.specs.Choices.{AreLinesOf, HasObjects, HasPort, final_of}
use Rattle.ccan_lab.proofs.Chosen.{part_of}

-- what holds of each item and its place holds with one more, if it holds of that one at the end
pub each_more : {A : Type 0} (P : ℕ → A → Type 0) (xs : List A) (x : A) (count : ℕ) → length xs ≡ count
    → ((k : ℕ) (y : A) → slice_get xs k ≡ Some y → P k y) → P count x
    → (k : ℕ) (y : A) → slice_get (xs ++ x ∷ []) k ≡ Some y → P k y
each_more {A} P xs x count long each last k y at =
    elim (part_of xs (x ∷ []) k y at) as (λ _. P k y) [
      | inl here ↦ each k y here
      | inr (j, is, there) ↦ by j is there
    ]
  where
    unwrap : Option A → A
    unwrap (Some z) = z
    unwrap None = x

    by : (j : ℕ) → k ≡ length xs + j → slice_get (x ∷ []) j ≡ Some y → P k y
    by zero is there =
        let here : count ≡ k = omega (arith, is, long) in
        subst (λ (n : ℕ). P n y) here (subst (P count) (ap unwrap there) last)
    by (suc j) is there = absurd cc

pub port_more : (IsOutcome : Ending → Type 0) (port : PortName) (count : ℕ) (old new after : List (List (List ℕ)))
    (texts : List (List ℕ)) → HasPort IsOutcome port count old new → AreLinesOf IsOutcome port count texts
    → after ≡ new ++ texts ∷ [] → HasPort IsOutcome port (count + 1) old after
port_more IsOutcome port count old new after texts has are is = record {
  more = has.more ++ texts ∷ [];
  new_is = is ∙ (ap (λ (l : List (List (List ℕ))). l ++ texts ∷ []) has.new_is ∙ append_assoc old has.more (texts ∷ []));
  as_many =
      let sum = length-append has.more (texts ∷ []) in
      let one : length (texts ∷ []) ≡ 1 = refl in
      let many = has.as_many in
      omega (arith, sum, one, many);
  are = each_more (AreLinesOf IsOutcome port) has.more texts count has.as_many has.are are;
}

pub port_none : (IsOutcome : Ending → Type 0) (port : PortName) (all : List (List (List ℕ))) → HasPort IsOutcome port 0 all all
port_none IsOutcome port all = record { more = []; new_is = sym (append-nil all); as_many = refl; are = λ line texts at. absurd cc }

pub objects_more : (memories : List (List Record)) (count : ℕ) (old new after : List (List (List ℕ)))
    (texts : List (List ℕ)) → HasObjects memories count old new → texts ≡ map (final_of (count + 1)) memories
    → after ≡ new ++ texts ∷ [] → HasObjects memories (count + 1) old after
objects_more memories count old new after texts has are is = record {
  more = has.more ++ texts ∷ [];
  new_is = is ∙ (ap (λ (l : List (List (List ℕ))). l ++ texts ∷ []) has.new_is ∙ append_assoc old has.more (texts ∷ []));
  as_many =
      let sum = length-append has.more (texts ∷ []) in
      let one : length (texts ∷ []) ≡ 1 = refl in
      let many = has.as_many in
      omega (arith, sum, one, many);
  are = each_more (λ (k : ℕ) (l : List (List ℕ)). l ≡ map (final_of (k + 1)) memories) has.more texts count has.as_many has.are
      are;
}

pub objects_none : (memories : List (List Record)) (all : List (List (List ℕ))) → HasObjects memories 0 all all
objects_none memories all =
    record { more = []; new_is = sym (append-nil all); as_many = refl; are = λ index texts at. absurd cc }
