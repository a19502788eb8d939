-- No node sends twice where the nodes that send are distinct.
use Rattle.std.proofs.Common.{◌≡◌, ◌≤◌, ◌==◌, ◌&&◌, ◌||◌, ℕ, suc, Bool, true, false, not, List, [], ◌∷◌}
use Rattle.std.proofs.Common.{length, map, refl, ap, sym, ◌∙◌, arith, cond, eqb-true, eq-eqb}
use Rattle.std.specs.List.{list_any}
use Rattle.serde_json.specs.Data.{Data}
use Rattle.ccan_accept.specs.declared.frame.Frame.{Frame}
use Rattle.ccan_bus.specs.RoundLine.{sends_of}
use Rattle.ccan_script.specs.FrameLine.{sending_of, words_of}
use Rattle.ccan_script.specs.Round.{are_distinct, senders_of}
use Rattle.ccan_script.proofs.Words.{and_left, and_right}

abbrev nodes_of : List (ℕ × Frame) → List ℕ
nodes_of sends = map (λ s. s.0) sends

or_left : (a b : Bool) → (a || b) ≡ false → a ≡ false
or_left false b h = refl
or_left true b h = cc

or_right : (a b : Bool) → (a || b) ≡ false → b ≡ false
or_right false b h = h
or_right true b h = cc

not_true : (a : Bool) → not a ≡ true → a ≡ false
not_true false h = refl
not_true true h = cc

-- how many frames a node sends, with those after the first
passed : (node : ℕ) (s : ℕ × Frame) (ss : List (ℕ × Frame)) (b : Bool) → (s.0 == node) ≡ b
    → length (sends_of node (s ∷ ss)) ≡ cond b (suc (length (sends_of node ss))) (length (sends_of node ss))
passed node s ss true h = rw h refl
passed node s ss false h = rw h refl

absent : (n : ℕ) (ss : List (ℕ × Frame)) → list_any (λ m. m == n) (nodes_of ss) ≡ false → length (sends_of n ss) ≡ 0
absent n [] h = refl
absent n (s ∷ ss) h = passed n s ss false (or_left (s.0 == n) _ h) ∙ absent n ss (or_right (s.0 == n) _ h)

missing_with : (n : ℕ) (s : ℕ × Frame) (ss : List (ℕ × Frame)) (b : Bool) → (s.0 == n) ≡ b
    → (length (sends_of n ss) ≡ 0 → list_any (λ m. m == n) (nodes_of ss) ≡ false) → length (sends_of n (s ∷ ss)) ≡ 0
    → list_any (λ m. m == n) (nodes_of (s ∷ ss)) ≡ false
missing_with n s ss true is later h =
    let more : suc (length (sends_of n ss)) ≡ 0 = sym (passed n s ss true is) ∙ h in absurd (omega arith)
missing_with n s ss false is later h = rw is (later (sym (passed n s ss false is) ∙ h))

missing : (n : ℕ) (ss : List (ℕ × Frame)) → length (sends_of n ss) ≡ 0 → list_any (λ m. m == n) (nodes_of ss) ≡ false
missing n [] h = refl
missing n (s ∷ ss) h = missing_with n s ss (s.0 == n) refl (missing n ss) h

once_with : (node : ℕ) (s : ℕ × Frame) (ss : List (ℕ × Frame)) (b : Bool) → (s.0 == node) ≡ b → length (sends_of s.0 ss) ≡ 0
    → length (sends_of node ss) ≤ 1 → length (sends_of node (s ∷ ss)) ≤ 1
once_with node s ss true is none later =
    let alone : length (sends_of node ss) ≡ 0 = ap (λ n. length (sends_of n ss)) (sym (eqb-true s.0 node is)) ∙ none in
    let all : length (sends_of node (s ∷ ss)) ≡ suc (length (sends_of node ss)) = passed node s ss true is in
    omega arith
once_with node s ss false is none later =
    let all : length (sends_of node (s ∷ ss)) ≡ length (sends_of node ss) = passed node s ss false is in
    omega arith

pub distinct_once : (ss : List (ℕ × Frame)) → are_distinct (nodes_of ss) ≡ true → (node : ℕ) → length (sends_of node ss) ≤ 1
distinct_once [] h node = omega arith
distinct_once (s ∷ ss) h node =
    let first = not_true _ (and_left (not (list_any (λ m. m == s.0) (nodes_of ss))) _ h) in
    let others = and_right (not (list_any (λ m. m == s.0) (nodes_of ss))) _ h in
    once_with node s ss (s.0 == node) refl (absent s.0 ss first) (distinct_once ss others node)

both : (a b : Bool) → a ≡ true → b ≡ true → (a && b) ≡ true
both true b h k = k
both false b h k = cc

fewer : (node : ℕ) (s : ℕ × Frame) (ss : List (ℕ × Frame)) (b : Bool) → (s.0 == node) ≡ b → length (sends_of node (s ∷ ss)) ≤ 1
    → length (sends_of node ss) ≤ 1
fewer node s ss true is few = let all : length (sends_of node (s ∷ ss)) ≡ suc
    (length (sends_of node ss)) = passed node s ss true is in omega arith
fewer node s ss false is few = let all : length (sends_of node (s ∷ ss)) ≡ length
    (sends_of node ss) = passed node s ss false is in omega arith

pub once_distinct : (ss : List (ℕ × Frame)) → ((node : ℕ) → length (sends_of node ss) ≤ 1) → are_distinct (nodes_of ss) ≡ true
once_distinct [] once = refl
once_distinct (s ∷ ss) once =
    let own : length (sends_of s.0 (s ∷ ss)) ≡ suc (length (sends_of s.0 ss)) = passed s.0 s ss true (eq-eqb s.0 s.0 refl) in
    let few : length (sends_of s.0 (s ∷ ss)) ≤ 1 = once s.0 in
    let none : length (sends_of s.0 ss) ≡ 0 = omega arith in
    both (not (list_any (λ m. m == s.0) (nodes_of ss))) _ (ap not (missing s.0 ss none))
    (once_distinct ss (λ node. fewer node s ss (s.0 == node) refl (once node)))

-- the nodes that send are those of the values
pub nodes_are : (frames : List Data) → nodes_of (map sending_of frames) ≡ senders_of frames
unfolding sending_of
nodes_are [] = refl
nodes_are (d ∷ ds) = ap (λ (ns : List ℕ). (words_of d).node ∷ ns) (nodes_are ds)
