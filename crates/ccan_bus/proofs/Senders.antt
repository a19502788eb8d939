-- Who sends in a round line.
use Rattle.std.proofs.Common.{ℕ, ◌≡◌, ◌≤◌, ◌<◌, ◌+◌, ◌==◌, Bool, true, false, cond, List, [], ◌∷◌, ◌++◌, length, take, drop, set, get_or, refl, sym, ap, subst, ◌∙◌, arith}
use Rattle.std.proofs.Math.ListN.{length-append}
use Rattle.std.proofs.lemmas.Bool.{eqb-true}
use Rattle.std.proofs.lemmas.Bool.Decides.{nat_tests}
use Rattle.std.proofs.lemmas.List.{get_or-set_same, get_or-set_other, length-set, take_more, take-append-drop}
use Rattle.std.proofs.lemmas.List.Elements.{All-nil, All-append, All-cons, All-get_or, All-weaker, filter-append}
use Rattle.std.proofs.lemmas.List.Filters.{length-filter_more}
use Rattle.ccan_accept.specs.declared.frame.Frame.{Frame}
use Rattle.ccan_bus.specs.RoundLine.{sends_of, AreSenders}
use Rattle.ccan_bus.specs.Nodes.{sends_at}

abbrev pub IsOther : ℕ → ℕ × Frame → Type 0
IsOther nodes s = (1 ≤ s.0) × (s.0 ≤ nodes)

not_self : (a b : ℕ) → (a == b) ≡ false → a ≡ b → ⊥
not_self a b e same = grind (arith, nat_tests)

self : (a : ℕ) → (a == a) ≡ true
self a = grind (arith, nat_tests)

-- a first part has no more of a node than the whole
part : (node : ℕ) (xs ys : List (ℕ × Frame)) → length (sends_of node xs) ≤ length (sends_of node (xs ++ ys))
part node xs ys =
    let h : length (sends_of node (xs ++ ys)) ≡ length (sends_of node xs) + length (sends_of node ys) =
    ap length (filter-append (λ s. s.0 == node) xs ys) ∙ length-append (sends_of node xs) (sends_of node ys) in
    omega arith

first_of : (node i : ℕ) (sends : List (ℕ × Frame)) → length (sends_of node (take i sends)) ≤ length (sends_of node sends)
first_of node i sends =
    subst (λ xs. length (sends_of node (take i sends)) ≤ length (sends_of node xs)) (take-append-drop i sends)
    (part node (take i sends) (drop i sends))

-- fewer nodes are other nodes too
pub more_nodes : (nodes most : ℕ) (sends : List (ℕ × Frame)) → nodes ≤ most → AreSenders nodes sends → AreSenders most sends
more_nodes nodes most sends few h =
    record {
      others = All-weaker (IsOther nodes) (IsOther most) (λ s o. let high = o.1 in (o.0, omega arith)) sends h.others;
      once = h.once;
    }

-- the first senders are good ones, and those who have sent are marked
pub record AreMarked (nodes : ℕ) (sends : List (ℕ × Frame)) (i : ℕ) (sent : List Bool) : Type 0 where
  pub all : length sent ≡ 9
  pub senders : AreSenders nodes (take i sends)
  pub marks : (node : ℕ) → node < 9 → length (sends_of node (take i sends)) ≡ cond (sends_at sent node) 1 0

pub marked_first : (nodes : ℕ) (sends : List (ℕ × Frame)) (sent : List Bool) → length sent ≡ 9
    → ((node : ℕ) → node < 9 → sends_at sent node ≡ false)
    → AreMarked nodes sends 0 sent
marked_first nodes sends sent all none =
    record {
      all = all;
      senders = record { others = All-nil (IsOther nodes); once = λ node. omega arith };
      marks = λ node within. rw (none node within) refl;
    }

module _ (nodes : ℕ) (sends : List (ℕ × Frame)) (i : ℕ) (sent : List Bool) (few : nodes ≤ 8) (s : ℕ × Frame)
    (within : i < length sends) (is : s ≡ get_or sends i s)
    (so_far : AreMarked nodes sends i sent) where
  more_of : (node : ℕ) → length (sends_of node (take (i + 1) sends)) ≡ length (sends_of node (take i sends)) + cond
      (s.0 == node) 1 0
  more_of node =
      length-filter_more (λ t. t.0 == node) sends i s within ∙ ap (λ (t : ℕ × Frame). length (sends_of node (take i sends))
      + cond (t.0 == node) 1 0) (sym is)

  module _ (low : 1 ≤ s.0) (high : s.0 ≤ nodes) (fresh : sends_at sent s.0 ≡ false) where
    mark_by : (node : ℕ) → node < 9 → (own : Bool) → (s.0 == node) ≡ own
        → length (sends_of node (take i sends)) + cond own 1 0 ≡ cond (sends_at (set sent s.0 true) node) 1 0
    mark_by node small true e =
        let same : s.0 ≡ node = eqb-true s.0 node e in
        let none : length (sends_of node (take i sends)) ≡ 0 =
        so_far.marks node small ∙ ap (λ b. cond b 1 0) (subst (λ n. sends_at sent n ≡ false) same fresh) in
        let all = so_far.all in
        let here : sends_at (set sent s.0 true) node ≡ true =
        subst (λ n. sends_at (set sent s.0 true) n ≡ true) same (get_or-set_same sent s.0 true false (omega arith)) in
        rw (here, none) refl
    mark_by node small false e =
        let there : sends_at (set sent s.0 true) node ≡ sends_at sent node = get_or-set_other sent s.0 node true false
        (λ same. not_self s.0 node e (sym same)) in
        rw there (let m = so_far.marks node small in omega (arith, m))

    once_by : (node : ℕ) → (own : Bool) → (s.0 == node) ≡ own → length (sends_of node (take i sends)) + cond own 1 0 ≤ 1
    once_by node true e =
        let same : s.0 ≡ node = eqb-true s.0 node e in
        let none : length (sends_of node (take i sends)) ≡ 0 =
        so_far.marks node (omega arith) ∙ ap (λ b. cond b 1 0) (subst (λ n. sends_at sent n ≡ false) same fresh) in omega arith
    once_by node false e = let h = so_far.senders.once node in omega arith

    pub marked_more : AreMarked nodes sends (i + 1) (set sent s.0 true)
    marked_more =
        record {
          all = length-set sent s.0 true ∙ so_far.all;
          senders = record {
            others = rw (take_more sends i s within)
                (All-append (IsOther nodes) (take i sends) (get_or sends i s ∷ []) so_far.senders.others
                (All-cons (IsOther nodes) (get_or sends i s) [] (subst (IsOther nodes) is (low, high))
                (All-nil (IsOther nodes))));
            once = λ node. rw (more_of node) (once_by node (s.0 == node) refl);
          };
          marks = λ node small. more_of node ∙ mark_by node small (s.0 == node) refl;
        }

  -- one of these doesn't hold
  pub none_so : ((1 ≤ s.0) → (s.0 ≤ nodes) → sends_at sent s.0 ≡ true) → AreSenders nodes sends → ⊥
  none_so taken good =
      let other : IsOther nodes s = subst (IsOther nodes) (sym is) (All-get_or (IsOther nodes) sends i s within good.others) in
      let h = other.1 in
      let there : length (sends_of s.0 (take i sends)) ≡ 1 = so_far.marks s.0 (omega arith)
      ∙ ap (λ b. cond b 1 0) (taken other.0 other.1) in
      let more = more_of s.0 in
      let one : ◌≡◌ {A = ℕ} (cond (s.0 == s.0) 1 0) 1 = ap (λ b. cond b 1 0) (self s.0) in
      let whole = first_of s.0 (i + 1) sends in
      let once = good.once s.0 in
      omega (arith, more, one, there, whole, once)
