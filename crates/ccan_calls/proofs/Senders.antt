-- Whether each sender is one of the other nodes, and none sends twice, is decided.
use Rattle.std.proofs.Common.{ℕ, ◌≡◌, ◌↔◌, ◌≤◌, inl, inr, ◌⊎◌, ◌==◌, ◌&&◌, Bool, true, false, List, [], ◌∷◌, length, cond, nat_le, refl, sym, subst, arith}
use Rattle.std.specs.List.{AllByRecursion, AllPass}
use Rattle.std.proofs.lemmas.Bool.{and_from, and_parts, eqb-true, le-leb, leb-true}
use Rattle.std.proofs.lemmas.List.Elements.{recursion_from_All}
use Rattle.std.proofs.lemmas.List.Sums.{AllPass-from_list_all, list_all-from_AllPass}
use Rattle.ccan_accept.specs.declared.frame.Frame.{Frame}
use Rattle.ccan_bus.specs.RoundLine.{AreSenders, sends_of}
use Rattle.ccan_c.specs.Settings.{is_from_one_to}
use Rattle.ccan_calls.specs.RoundProcess.{are_senders}

module _ (nodes : ℕ) (sends : List (ℕ × Frame)) where
  abbrev is_sender : ℕ × Frame → Bool
  is_sender s = is_from_one_to nodes s.0 && nat_le (length (sends_of s.0 sends)) 1

  abbrev SendsOnce : ℕ → Type 0
  SendsOnce node = length (sends_of node sends) ≤ 1

  -- a node sends none of these, or once
  abbrev NoneOrOnce : ℕ → List (ℕ × Frame) → Type 0
  NoneOrOnce node some = (sends_of node some ≡ []) ⊎ SendsOnce node

  one_more : (node : ℕ) (s : ℕ × Frame) (others : List (ℕ × Frame)) (own : Bool) → (s.0 == node) ≡ own → SendsOnce s.0
      → NoneOrOnce node others → NoneOrOnce node (s ∷ others)
  one_more node s others true is once rest = inr (subst SendsOnce (eqb-true s.0 node is) once)
  one_more node s others false is once (inl none) =
      inl (subst (λ b. cond b (s ∷ sends_of node others) (sends_of node others) ≡ []) (sym is) none)
  one_more node s others false is once (inr other) = inr other

  once_among : (node : ℕ) (some : List (ℕ × Frame)) → AllByRecursion (λ s. SendsOnce s.0) some → NoneOrOnce node some
  once_among node [] all = inl refl
  once_among node (s ∷ others) all = one_more node s others (s.0 == node) refl all.0 (once_among node others all.1)

  once_of : (node : ℕ) → NoneOrOnce node sends → SendsOnce node
  once_of node (inl none) = subst (λ (some : List (ℕ × Frame)). length some ≤ 1) (sym none) (omega arith)
  once_of node (inr once) = once

  once_each : AllPass is_sender sends → (node : ℕ) → SendsOnce node
  once_each all node =
      once_of node (once_among node sends (recursion_from_All (λ s. SendsOnce s.0) sends
      (λ k d less. leb-true _ 1 (and_parts _ _ (all k d less)).1)))

  pub senders_so : (are_senders nodes sends ≡ true) ↔ AreSenders nodes sends
  senders_so = (
    λ h.
        let all = AllPass-from_list_all is_sender sends h in
        record {
          others = λ k d less.
              let range = and_parts _ _ (and_parts _ _ (all k d less)).0 in
              (leb-true 1 _ range.0, leb-true _ nodes range.1);
          once = once_each all;
        },
    λ h. list_all-from_AllPass is_sender sends (λ k d less.
        let range = h.others k d less in
        and_from _ _ (and_from _ _ (le-leb 1 _ range.0) (le-leb _ nodes range.1)) (le-leb _ 1 (h.once _))),
  )
