-- A seat that is split, two that are joined, and the table at the start. To split or join seats changes no word and no history,
-- and what the new seats hold the old ones held (`Seating`). At the start all words are 0, and there are no versions.
use Rattle.std.proofs.Common.{Bool, ◌≡◌, ℕ, zero, suc, ◌≤◌, ◌⊎◌, List, [], ◌∷◌, ◌++◌, set, get_or, length, replicate}
use Rattle.std.proofs.Common.{sym, refl, ap, ◌∙◌, subst, inl, inr, ⊎_elim, arith, Some, None, zero-le}
use Rattle.std.proofs.lemmas.List.{length-replicate}
use mathlib.Core.Option.{some, some-injective, some-ne-none}
use lib.ListN.{get_elem?}
use Rattle.atomic_table.specs.Table.{State, Splits, Joins, opening}
use Rattle.atomic_table.proofs.Lists.{at_set, set_else}
use Rattle.ccan_object.specs.declared.profile.Profile.{Profile}
use Rattle.ccan_ram.specs.declared.port.PortName.{PortName}
use Rattle.ccan_ram.specs.declared.port.PortName.TheVariants.{If1, If2, Bus}
use Rattle.ccan_words.specs.declared.view.PortView.{PortView}
use Rattle.ccan_ram.specs.ByPort.{holding, with_held, nothing, only, together}
use Rattle.ccan_words.specs.View.{start, all_ports, View}
use Rattle.ccan_words.specs.Layout.{Form}
use Rattle.ccan_words.specs.Rule.{Fits, Keeps}
use Rattle.ccan_ram.proofs.Histories.{begins_again}
use Rattle.ccan_ram.proofs.Seating.{AllWere, AreApart, split_were, split_apart, join_were, join_apart}

at_end : {A : Type 0} (l : List A) (a b : A) (j : ℕ) → get_elem? (l ++ a ∷ []) j ≡ some b
    → (get_elem? l j ≡ some b) ⊎ ((j ≡ length l) × (a ≡ b))
at_end [] a b zero e = inr (refl, some-injective a b e)
at_end [] a b (suc j) e = absurd (some-ne-none b (sym e))
at_end (x ∷ xs) a b zero e = inl e
at_end (x ∷ xs) a b (suc j) e = ⊎_elim (λ t. inl t) (λ t. inr (ap suc t.0, t.1)) (at_end xs a b j e)

holding-all : (c : ℕ) (p : PortName) (y : PortView) → holding p (all_ports c) ≡ Some y → start c ≡ y
holding-all c If1 y e = cc
holding-all c If2 y e = cc
holding-all c Bus y e = cc

module _ {profile : Profile} {most : ℕ} {contends : ℕ → ℕ → Bool} (F : Form profile most contends) where
  abbrev TableState : Type 0
  TableState = State (Unit {0}) View

  abbrev with_views : TableState → List View → TableState
  with_views s vs = record { words = s.words; homes = s.homes; views = vs }

  abbrev IsSeat : List View → ℕ → View → Type 0
  IsSeat views i v = get_elem? views i ≡ some v

  -- the same holdings at other seats
  reseated : (s : TableState) (r : Keeps F s) (vs : List View) → AllWere (IsSeat s.views) (IsSeat vs) → AreApart (IsSeat vs)
      → Keeps F (with_views s vs)
  reseated s r vs were apart = record {
    log = r.log;
    quota = r.quota;
    top = r.top;
    sound = r.sound;
    wide = r.wide;
    heads = r.heads;
    versions = r.versions;
    seats = λ i p u y e h. let w = were i p u y e h in r.seats w.0 p w.1.view y w.1.seat w.1.held;
    one_quota = λ i p u y e h. let w = were i p u y e h in r.one_quota w.0 p w.1.view y w.1.seat w.1.held;
    apart = apart;
  }

  pub splits : (id : ℕ) (p : PortName) (v : View)
      → Splits {S = Unit {0}} (Keeps F) id v (with_held p None v) (only p (holding p v))
  splits id p v s r at =
      let cut = set s.views id (with_held p None v) in
      let new = cut ++ only p (holding p v) ∷ [] in
      reseated s r new
      (split_were {Old = IsSeat s.views} {Cut = IsSeat cut} {New = IsSeat new} r.apart id (length cut) p v at
      (λ i u e. at_set s.views id i (with_held p None v) u e) (λ i u e. at_end cut (only p (holding p v)) u i e))
      (split_apart {Old = IsSeat s.views} {Cut = IsSeat cut} {New = IsSeat new} r.apart id (length cut) p v at
      (λ i u e. at_set s.views id i (with_held p None v) u e) (λ i u e. at_end cut (only p (holding p v)) u i e))

  pub joins : (id other : ℕ) (v w : View) → Joins {S = Unit {0}} (Keeps F) id v other w (together v w) nothing
  joins id other v w s r at ne there =
      let wide = set s.views id (together v w) in
      let new = set wide other nothing in
      let two : IsSeat s.views other w = sym (set_else s.views id other (together v w) (λ e. ne e)) ∙ there in
      reseated s r new
      (join_were {Old = IsSeat s.views} {Wide = IsSeat wide} {New = IsSeat new} r.apart id other v w at two
      (λ i u e. at_set s.views id i (together v w) u e) (λ i u e. at_set wide other i nothing u e))
      (join_apart {Old = IsSeat s.views} {Wide = IsSeat wide} {New = IsSeat new} r.apart id other v w at two
      (λ i u e. at_set s.views id i (together v w) u e) (λ i u e. at_set wide other i nothing u e))

  first_seat : (l : List View) (v u : View) (i : ℕ) → l ≡ [] → get_elem? (v ∷ l) i ≡ some u → (i ≡ 0) × (v ≡ u)
  first_seat l v u zero e h = (refl, some-injective v u h)
  first_seat l v u (suc i) e h = absurd (some-ne-none u (sym (subst (λ (z : List View). get_elem? z i ≡ some u) e h)))

  zeros : (n w : ℕ) → let z : ℕ = 0 in get_or (replicate n z) w z ≡ z
  zeros zero w = refl
  zeros (suc n) zero = refl
  zeros (suc n) (suc w) = zeros n w

  pub opens : (c : ℕ) → c ≤ most → Keeps F (opening {S = Unit {0}} (replicate F.size 0) [] (all_ports c))
  opens c top = record {
    quota = c;
    top = top;
    one_quota =
        λ i p u y e h. let a = first_seat [] (all_ports c) u i refl e in ap (λ (z : PortView). z.quota)
        (sym (holding-all c p y (subst (λ (z : View). holding p z ≡ Some y) (sym a.1) h)));
    log = [];
    sound = record { legal = tt; records = tt; few = λ p. zero-le };
    wide = length-replicate F.size 0;
    heads = λ k l. zeros F.size (F.cell k);
    versions = λ n j at t l. absurd t;
    seats = λ i p u y e h. let a = first_seat [] (all_ports c) u i refl e in
        let b = holding-all c p y (subst (λ (z : View). holding p z ≡ Some y) (sym a.1) h) in
        subst (Fits F (replicate F.size 0) [] p) b
        (record { part = begins_again []; own = refl; short = zero-le; note = λ few j l. absurd (omega arith) });
    apart = λ i j p u t x y e f h k. (first_seat [] (all_ports c) u i refl e).0 ∙ sym (first_seat [] (all_ports c) t j refl f).0;
  }
