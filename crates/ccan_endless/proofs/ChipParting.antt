-- A chip's seat that is split, two that are joined, and the chip at the start: what `Parting` shows of the message RAM, with what
-- the seats have seen of the chip.
use Rattle.std.proofs.Common.{◌≡◌, ◌≢◌, ℕ, zero, suc, ◌≤◌, List, [], ◌∷◌, ◌++◌, map, set, length, replicate}
use Rattle.std.proofs.Common.{sym, refl, ap, ◌∙◌, subst, ⊎_elim, Option, Some, None}
use mathlib.Core.Option.{some, some-injective, some-ne-none}
use lib.ListN.{get_elem?}
use Rattle.atomic_table.specs.Table.{Splits, Joins, opening}
use Rattle.atomic_table.proofs.Lists.{at_set, set_else}
use Rattle.ccan_object.specs.declared.profile.Profile.{Profile}
use Rattle.ccan_ram.specs.declared.port.PortName.{PortName}
use Rattle.ccan_ram.specs.declared.port.PortName.TheVariants.{If1, If2, Bus}
use Rattle.ccan_ram.specs.declared.by_port.ByPort.{ByPort}
use Rattle.ccan_ram.specs.ByPort.{holding, with_held, only, or_held, nothing}
use Rattle.ccan_ram.proofs.Holding.{one_of, holding-together}
use Rattle.ccan_endless.specs.declared.view.PortView.{PortView}
use Rattle.ccan_endless.specs.declared.view.ChipView.{ChipView}
use Rattle.ccan_endless.specs.View.{View}
use Rattle.ccan_endless.specs.Layout.{most, words_in_all, controller_cell}
use Rattle.ccan_endless.specs.Chip.{ChipHistory, GoesFrom, IsControllerLegal}
use Rattle.ccan_endless.specs.ChipPort.{whole_in}
use Rattle.ccan_endless.specs.Seat.{IsSeated}
use Rattle.ccan_endless.specs.ChipRule.{ram_view, ram_state, Agree, IsBeginning, ChipKeeps, chip_without, chip_only, chip_together}
use Rattle.ccan_endless.specs.ChipRule.{chip_nothing, chip_all_ports}
use Rattle.ccan_endless.proofs.SeatMoves.{KeepsAt}
use Rattle.ccan_endless.proofs.Lifting.{ChipState, map_set, map_at, goes_again}
use Rattle.ccan_endless.proofs.Parting.{at_end, splits_at, joins_at, opens_at, zeros}

map-append : {A B : Type 0} (f : A → B) (l : List A) (a : A) → map f (l ++ a ∷ []) ≡ map f l ++ f a ∷ []
map-append f [] a = refl
map-append f (x ∷ xs) a = λ i. f x ∷ map-append f xs a i

-- ---- what the new seats hold, the old ones held

module _ {H : Type 0} where
  was_without : (p q : PortName) (v : ByPort H) (y : H) → holding q (with_held p None v) ≡ Some y → holding q v ≡ Some y
  was_without If1 If1 v y e = absurd cc
  was_without If1 If2 v y e = e
  was_without If1 Bus v y e = e
  was_without If2 If1 v y e = e
  was_without If2 If2 v y e = absurd cc
  was_without If2 Bus v y e = e
  was_without Bus If1 v y e = e
  was_without Bus If2 v y e = e
  was_without Bus Bus v y e = absurd cc

  was_only : (p q : PortName) (v : ByPort H) (y : H) → holding q (only p (holding p v)) ≡ Some y → holding q v ≡ Some y
  was_only If1 If1 v y e = e
  was_only If1 If2 v y e = absurd cc
  was_only If1 Bus v y e = absurd cc
  was_only If2 If1 v y e = absurd cc
  was_only If2 If2 v y e = e
  was_only If2 Bus v y e = absurd cc
  was_only Bus If1 v y e = absurd cc
  was_only Bus If2 v y e = absurd cc
  was_only Bus Bus v y e = e

  none_held : (q : PortName) (y : H) {P : Type 0} → holding q nothing ≡ Some y → P
  none_held If1 y e = absurd cc
  none_held If2 y e = absurd cc
  none_held Bus y e = absurd cc

-- ---- views that agree

abbrev AgreeAt : PortName → ChipView → Type 0
AgreeAt q v = Agree (holding q v.ram) (holding q v.chip)

agree_without : (p q : PortName) (v : ChipView) → AgreeAt q v → AgreeAt q (chip_without p v)
agree_without If1 If1 v a = tt
agree_without If1 If2 v a = a
agree_without If1 Bus v a = a
agree_without If2 If1 v a = a
agree_without If2 If2 v a = tt
agree_without If2 Bus v a = a
agree_without Bus If1 v a = a
agree_without Bus If2 v a = a
agree_without Bus Bus v a = tt

agree_only : (p q : PortName) (v : ChipView) → AgreeAt q v → AgreeAt q (chip_only p v)
agree_only If1 If1 v a = a
agree_only If1 If2 v a = tt
agree_only If1 Bus v a = tt
agree_only If2 If1 v a = tt
agree_only If2 If2 v a = a
agree_only If2 Bus v a = tt
agree_only Bus If1 v a = tt
agree_only Bus If2 v a = tt
agree_only Bus Bus v a = a

agree_or : (x y : Option PortView) (h g : Option ChipHistory) → Agree x h → Agree y g → Agree (or_held x y) (or_held h g)
agree_or None y None g a b = b
agree_or None y (Some h) g a b = absurd a
agree_or (Some x) y None g a b = absurd a
agree_or (Some x) y (Some h) g a b = a

agree_together : (q : PortName) (v w : ChipView) → AgreeAt q v → AgreeAt q w → AgreeAt q (chip_together v w)
agree_together If1 v w a b = agree_or v.ram.if1 w.ram.if1 v.chip.if1 w.chip.if1 a b
agree_together If2 v w a b = agree_or v.ram.if2 w.ram.if2 v.chip.if2 w.chip.if2 a b
agree_together Bus v w a b = agree_or v.ram.bus w.ram.bus v.chip.bus w.chip.bus a b

agree_nothing : (q : PortName) → AgreeAt q chip_nothing
agree_nothing If1 = tt
agree_nothing If2 = tt
agree_nothing Bus = tt

agree_start : (c : ℕ) (q : PortName) → AgreeAt q (chip_all_ports c)
agree_start c If1 = refl
agree_start c If2 = refl
agree_start c Bus = refl

start_holds : (c : ℕ) (q : PortName) (g : ChipHistory) → holding q (chip_all_ports c).chip ≡ Some g → [] ≡ g
start_holds c If1 g e = cc
start_holds c If2 g e = cc
start_holds c Bus g e = cc

append_none : (h : ChipHistory) → h ++ [] ≡ h
append_none [] = refl
append_none (e ∷ h) = λ i. e ∷ append_none h i

first_of : (l : List ChipView) (v u : ChipView) (i : ℕ) → l ≡ [] → get_elem? (v ∷ l) i ≡ some u → v ≡ u
first_of l v u zero e h = some-injective v u h
first_of l v u (suc i) e h = absurd (some-ne-none u (sym (subst (λ (z : List ChipView). get_elem? z i ≡ some u) e h)))

-- each history goes on from none
goes_from_none : (log : ChipHistory) → GoesFrom log []
goes_from_none log = (log, sym (append_none log))

-- and so the history from what was seen for a port, if the seat holds it
told_by : (log : ChipHistory) (o : Option ChipHistory) → ((h : ChipHistory) → o ≡ Some h → GoesFrom log h)
    → GoesFrom log (whole_in o)
told_by log None each = goes_from_none log
told_by log (Some h) each = each h refl

-- of the first seat
pub start_seated : (c : ℕ) → IsSeated (chip_all_ports c)
start_seated c p = (agree_start c p, λ h e. subst IsControllerLegal (start_holds c p h e) tt)

module _ (profile : Profile) where
  abbrev with_chip_views : ChipState → List ChipView → ChipState
  with_chip_views s vs = record { words = s.words; homes = s.homes; views = vs }

  -- the same holdings at other seats
  reseated : (s : ChipState) (c : ChipKeeps profile s) (vs : List ChipView) (us : List View) → us ≡ map ram_view vs
      → KeepsAt profile (record { words = s.words; homes = s.homes; views = us }) c.ram.log
      → ((i : ℕ) (p : PortName) (v : ChipView) → get_elem? vs i ≡ some v → AgreeAt p v)
      → ((i : ℕ) (p : PortName) (v : ChipView) (g : ChipHistory) → get_elem? vs i ≡ some v → holding p v.chip ≡ Some g
      → IsBeginning c.log p g)
      → ((i : ℕ) (v : ChipView) → get_elem? vs i ≡ some v → GoesFrom c.log v.told)
      → ChipKeeps profile (with_chip_views s vs)
  reseated s c vs us is ram agree seats told = record {
    log = c.log;
    ram = recast.0;
    same = recast.1 ∙ c.same;
    legal = c.legal;
    word = c.word;
    agree = agree;
    seats = seats;
    told = told;
  }
    where
      recast : KeepsAt profile (ram_state (with_chip_views s vs)) c.ram.log
      recast = subst (λ (z : List View). KeepsAt profile (record { words = s.words; homes = s.homes; views = z }) c.ram.log)
          is ram

  pub chip_splits : (id : ℕ) (p : PortName) (v : ChipView)
      → Splits {S = Unit {0}} (ChipKeeps profile) id v (chip_without p v) (chip_only p v)
  chip_splits id p v s c at =
      let l : ChipView = chip_without p v in
      let r : ChipView = chip_only p v in
      let cut : List ChipView = set s.views id l in
      reseated s c (cut ++ r ∷ []) (set (map ram_view s.views) id l.ram ++ r.ram ∷ [])
      (ap (λ (z : List View). z ++ r.ram ∷ []) (sym (map_set ram_view s.views id l)) ∙ sym (map-append ram_view cut r))
      (splits_at profile id p v.ram (ram_state s) c.ram (map_at ram_view s.views id v at))
      (λ i q t e. ⊎_elim
      (λ (a : get_elem? cut i ≡ some t). ⊎_elim
      (λ (b : (i ≡ id) × (l ≡ t)). subst (AgreeAt q) b.1 (agree_without p q v (c.agree id q v at)))
      (λ (b : (i ≢ id) × (get_elem? s.views i ≡ some t)). c.agree i q t b.1)
      (at_set s.views id i l t a))
      (λ (a : (i ≡ length cut) × (r ≡ t)). subst (AgreeAt q) a.1 (agree_only p q v (c.agree id q v at)))
      (at_end cut r t i e))
      (λ i q t g e k. ⊎_elim
      (λ (a : get_elem? cut i ≡ some t). ⊎_elim
      (λ (b : (i ≡ id) × (l ≡ t)).
      c.seats id q v g at (was_without p q v.chip g (subst (λ (z : ChipView). holding q z.chip ≡ Some g) (sym b.1) k)))
      (λ (b : (i ≢ id) × (get_elem? s.views i ≡ some t)). c.seats i q t g b.1 k)
      (at_set s.views id i l t a))
      (λ (a : (i ≡ length cut) × (r ≡ t)).
      c.seats id q v g at (was_only p q v.chip g (subst (λ (z : ChipView). holding q z.chip ≡ Some g) (sym a.1) k)))
      (at_end cut r t i e))
      (λ i t e. ⊎_elim
      (λ (a : get_elem? cut i ≡ some t). ⊎_elim
      (λ (b : (i ≡ id) × (l ≡ t)).
      subst (λ (z : ChipView). GoesFrom c.log z.told) b.1
      (told_by c.log (holding p v.chip) (λ h k. (c.seats id p v h at k).part)))
      (λ (b : (i ≢ id) × (get_elem? s.views i ≡ some t)). c.told i t b.1)
      (at_set s.views id i l t a))
      (λ (a : (i ≡ length cut) × (r ≡ t)). subst (λ (z : ChipView). GoesFrom c.log z.told) a.1 (goes_from_none c.log))
      (at_end cut r t i e))

  pub chip_joins : (id other : ℕ) (v w : ChipView)
      → Joins {S = Unit {0}} (ChipKeeps profile) id v other w (chip_together v w) chip_nothing
  chip_joins id other v w s c at ne there =
      let both : ChipView = chip_together v w in
      let wide : List ChipView = set s.views id both in
      let two : get_elem? s.views other ≡ some w = sym (set_else s.views id other both (λ e. ne e)) ∙ there in
      let here : get_elem? (set (map ram_view s.views) id both.ram) other ≡ some w.ram =
      subst (λ (z : List View). get_elem? z other ≡ some w.ram) (map_set ram_view s.views id both)
      (map_at ram_view wide other w there) in
      reseated s c (set wide other chip_nothing) (set (set (map ram_view s.views) id both.ram) other nothing)
      (ap (λ (z : List View). set z other nothing) (sym (map_set ram_view s.views id both))
      ∙ sym (map_set ram_view wide other chip_nothing))
      (joins_at profile id other v.ram w.ram (ram_state s) c.ram (map_at ram_view s.views id v at) ne here)
      (λ i q t e. ⊎_elim
      (λ (a : (i ≡ other) × (chip_nothing ≡ t)). subst (AgreeAt q) a.1 (agree_nothing q))
      (λ (a : (i ≢ other) × (get_elem? wide i ≡ some t)). ⊎_elim
      (λ (b : (i ≡ id) × (both ≡ t)).
      subst (AgreeAt q) b.1 (agree_together q v w (c.agree id q v at) (c.agree other q w two)))
      (λ (b : (i ≢ id) × (get_elem? s.views i ≡ some t)). c.agree i q t b.1)
      (at_set s.views id i both t a.1))
      (at_set wide other i chip_nothing t e))
      (λ i q t g e k. ⊎_elim
      (λ (a : (i ≡ other) × (chip_nothing ≡ t)).
      none_held q g (subst (λ (z : ChipView). holding q z.chip ≡ Some g) (sym a.1) k))
      (λ (a : (i ≢ other) × (get_elem? wide i ≡ some t)). ⊎_elim
      (λ (b : (i ≡ id) × (both ≡ t)). ⊎_elim
      (λ (h : holding q v.chip ≡ Some g). c.seats id q v g at h)
      (λ (h : holding q w.chip ≡ Some g). c.seats other q w g two h)
      (one_of (holding q v.chip) (holding q w.chip) g
      (sym (holding-together q v.chip w.chip) ∙ subst (λ (z : ChipView). holding q z.chip ≡ Some g) (sym b.1) k)))
      (λ (b : (i ≢ id) × (get_elem? s.views i ≡ some t)). c.seats i q t g b.1 k)
      (at_set s.views id i both t a.1))
      (at_set wide other i chip_nothing t e))
      (λ i t e. ⊎_elim
      (λ (a : (i ≡ other) × (chip_nothing ≡ t)).
      subst (λ (z : ChipView). GoesFrom c.log z.told) a.1 (goes_from_none c.log))
      (λ (a : (i ≢ other) × (get_elem? wide i ≡ some t)). ⊎_elim
      (λ (b : (i ≡ id) × (both ≡ t)). subst (λ (z : ChipView). GoesFrom c.log z.told) b.1 (c.told other w two))
      (λ (b : (i ≢ id) × (get_elem? s.views i ≡ some t)). c.told i t b.1)
      (at_set s.views id i both t a.1))
      (at_set wide other i chip_nothing t e))

  abbrev zero_word : ℕ
  zero_word = 0

  pub chip_opens : (c : ℕ) → c ≤ most
      → ChipKeeps profile (opening {S = Unit {0}} (replicate words_in_all zero_word) [] (chip_all_ports c))
  chip_opens c top = record {
    log = [];
    ram = (opens_at profile c top).0;
    same = (opens_at profile c top).1;
    legal = tt;
    word = zeros profile words_in_all controller_cell;
    agree = λ i p v e. subst (AgreeAt p) (first_of [] (chip_all_ports c) v i refl e) (agree_start c p);
    seats = λ i p v g e k.
        let a = first_of [] (chip_all_ports c) v i refl e in
        subst (IsBeginning [] p) (start_holds c p g (subst (λ (z : ChipView). holding p z.chip ≡ Some g) (sym a) k))
        (record { part = goes_again []; own = refl });
    told = λ i v e.
        subst (λ (z : ChipView). GoesFrom [] z.told) (first_of [] (chip_all_ports c) v i refl e) (goes_again []);
  }
