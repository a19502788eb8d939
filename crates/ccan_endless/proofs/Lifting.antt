-- A step on the objects' words is one of the chip. The chip's history goes on by the same events, and the controller's word
-- stays.
use Rattle.std.proofs.Common.{◌≡◌, ◌≢◌, ℕ, zero, suc, List, [], ◌∷◌, ◌++◌, map, set, get_or, sym, refl, ap, ◌∙◌, subst}
use Rattle.std.proofs.Common.{⊎_elim, Option, Some, None, get_or-set_other}
use mathlib.Core.Option.{some, some-injective, some-ne-none}
use lib.ListN.{get_elem?}
use Rattle.atomic_table.specs.Table.{State, keeps, Allows, stepped}
use Rattle.atomic_table.proofs.Lists.{at_set}
use Rattle.ccan_object.specs.declared.profile.Profile.{Profile}
use Rattle.ccan_confine.specs.Controller.{packed}
use Rattle.ccan_ram.specs.declared.port.PortName.{PortName}
use Rattle.ccan_ram.specs.declared.by_port.ByPort.{ByPort}
use Rattle.ccan_ram.specs.ByPort.{holding, held_as}
use Rattle.ccan_ram.specs.History.{History}
use Rattle.ccan_ram.proofs.Holding.{holding-each_as, held_before, held_or_not}
use Rattle.ccan_endless.specs.declared.chip.ChipEvent.TheVariants.{OfRam, OfController}
use Rattle.ccan_endless.specs.declared.view.PortView.{PortView}
use Rattle.ccan_endless.specs.declared.view.ChipView.{ChipView}
use Rattle.ccan_endless.specs.View.{View}
use Rattle.ccan_endless.specs.Layout.{controller_cell}
use Rattle.ccan_endless.specs.Plays.{Knows}
use Rattle.ccan_endless.specs.Chip.{ChipHistory, ram_of, controller_at, steps_of, IsControllerLegal, GoesFrom}
use Rattle.ccan_endless.specs.ChipRule.{ChipKnows, ram_knows, ram_view, ram_state, chip_see, Agree, IsBeginning, ChipKeeps}
use Rattle.ccan_endless.specs.Seat.{EachGoesOn, IsSeated}
use Rattle.ccan_endless.proofs.SeatMoves.{with_view, KeepsAt}
use Rattle.ccan_endless.proofs.Moves.{Both, AllSaw, AllKept, Moves}

-- what a table of a chip's words is at one time
abbrev pub ChipState : Type 0
ChipState = State (Unit {0}) ChipView

abbrev pub chip_with_view : ChipState → List ℕ → ℕ → ChipView → ChipState
chip_with_view s ws id w = record { words = ws; homes = s.homes; views = set s.views id w }

pub map_set : {A B : Type 0} (f : A → B) (l : List A) (i : ℕ) (a : A) → map f (set l i a) ≡ set (map f l) i (f a)
map_set f [] i a = refl
map_set f (x ∷ xs) zero a = refl
map_set f (x ∷ xs) (suc i) a = λ k. f x ∷ map_set f xs i a k

pub map_at : {A B : Type 0} (f : A → B) (l : List A) (i : ℕ) (a : A) → get_elem? l i ≡ some a → get_elem? (map f l) i ≡ some (f a)
map_at f [] i a e = absurd (some-ne-none a (sym e))
map_at f (x ∷ xs) zero a e = ap (λ b. some (f b)) (some-injective x a e)
map_at f (x ∷ xs) (suc i) a e = map_at f xs i a e

set_here : {A : Type 0} (l : List A) (i : ℕ) (a b : A) → get_elem? l i ≡ some b → get_elem? (set l i a) i ≡ some a
set_here [] i a b e = absurd (some-ne-none b (sym e))
set_here (x ∷ xs) zero a b e = refl
set_here (x ∷ xs) (suc i) a b e = set_here xs i a b e

-- ---- a history that goes on by events of the message RAM

-- events of the message RAM, as events of the chip
abbrev pub of_ram : History → ChipHistory
of_ram h = map OfRam h

pub ram_of-more : (added : History) (log : ChipHistory) → ram_of (of_ram added ++ log) ≡ added ++ ram_of log
ram_of-more [] log = refl
ram_of-more (e ∷ added) log = ap (λ (h : History). e ∷ h) (ram_of-more added log)

pub controller_at-more : (added : History) (log : ChipHistory) → controller_at (of_ram added ++ log) ≡ controller_at log
controller_at-more [] log = refl
controller_at-more (e ∷ added) log = controller_at-more added log

pub steps_of-more : (p : PortName) (added : History) (log : ChipHistory) → steps_of p (of_ram added ++ log) ≡ steps_of p log
steps_of-more p [] log = refl
steps_of-more p (e ∷ added) log = steps_of-more p added log

pub legal_more : (added : History) (log : ChipHistory) → IsControllerLegal log → IsControllerLegal (of_ram added ++ log)
legal_more [] log l = l
legal_more (e ∷ added) log l = legal_more added log l

-- a part of a legal history is legal
legal_part : (more log : ChipHistory) → IsControllerLegal (more ++ log) → IsControllerLegal log
legal_part [] log l = l
legal_part (OfRam e ∷ more) log l = legal_part more log l
legal_part (OfController e ∷ more) log l = legal_part more log l.1

pub legal_before : (log h : ChipHistory) → GoesFrom log h → IsControllerLegal log → IsControllerLegal h
legal_before log h g l = legal_part g.0 h (subst IsControllerLegal g.1 l)

pub goes_again : (h : ChipHistory) → GoesFrom h h
goes_again h = ([], refl)

pub append_assoc : (a b c : ChipHistory) → a ++ (b ++ c) ≡ (a ++ b) ++ c
append_assoc [] b c = refl
append_assoc (x ∷ a) b c = ap (λ (l : ChipHistory). x ∷ l) (append_assoc a b c)

pub goes_more : (more log h : ChipHistory) → GoesFrom log h → GoesFrom (more ++ log) h
goes_more more log h g =
    (more ++ g.0, ap (λ (l : ChipHistory). more ++ l) g.1 ∙ append_assoc more g.0 h)

-- ---- views that agree

pub agree_saw : (log : ChipHistory) (r : History) (x y : Option PortView) (h : Option ChipHistory) → r ≡ ram_of log
    → Both (λ a b. b.seen ≡ r) x y → Agree x h → Agree y (held_as (λ old. log) h)
agree_saw log r None None None is b a = tt
agree_saw log r None None (Some h) is b a = absurd a
agree_saw log r None (Some y) h is b a = absurd b
agree_saw log r (Some x) None h is b a = absurd b
agree_saw log r (Some x) (Some y) None is b a = absurd a
agree_saw log r (Some x) (Some y) (Some h) is b a = b ∙ is

pub agree_kept : (x y : Option PortView) (h : Option ChipHistory) → Both (λ a b. b.seen ≡ a.seen) x y → Agree x h → Agree y h
agree_kept None None h b a = a
agree_kept None (Some y) h b a = absurd b
agree_kept (Some x) None h b a = absurd b
agree_kept (Some x) (Some y) None b a = absurd a
agree_kept (Some x) (Some y) (Some h) b a = b ∙ a

-- of two that agree, one has something where the other has
pub agree_some : (x : Option PortView) (h : Option ChipHistory) (g : ChipHistory) → Agree x h → h ≡ Some g
    → (y : PortView) × (x ≡ Some y)
agree_some (Some x) h g a e = (x, refl)
agree_some None None g a e = absurd (cc)
agree_some None (Some h) g a e = absurd a

pub agree_back : (x : Option PortView) (h : Option ChipHistory) (y : PortView) → Agree x h → x ≡ Some y
    → (g : ChipHistory) × (h ≡ Some g)
agree_back None h y a e = absurd (cc)
agree_back (Some x) None y a e = absurd a
agree_back (Some x) (Some h) y a e = (h, refl)

seen_before : (p : PortName) (log : ChipHistory) (v : ByPort ChipHistory) (g : ChipHistory) → holding p (chip_see log v) ≡ Some g
    → (h : ChipHistory) × (holding p v ≡ Some h) × (log ≡ g)
seen_before p log v g e = held_before (λ old. log) p v g e

module _ (profile : Profile) where
  -- a step of the seat id of a chip, to the words ws, the history log and the view w
  pub chip_moved : (s : ChipState) (c : ChipKeeps profile s) (id : ℕ) (v w : ChipView) (ws : List ℕ) (log : ChipHistory)
      (h : History)
      → get_elem? s.views id ≡ some v
      → KeepsAt profile (with_view (ram_state s) ws id w.ram) h → h ≡ ram_of log
      → IsControllerLegal log → get_or ws controller_cell 0 ≡ packed (controller_at log)
      → ((p : PortName) → Agree (holding p w.ram) (holding p w.chip))
      → ((p : PortName) (g : ChipHistory) → holding p w.chip ≡ Some g → IsBeginning log p g)
      → ((p : PortName) (g : ChipHistory) → holding p v.chip ≡ None → IsBeginning c.log p g → IsBeginning log p g)
      → w.told ≡ v.told → ((g : ChipHistory) → GoesFrom c.log g → GoesFrom log g)
      → ChipKeeps profile (chip_with_view s ws id w)
  chip_moved s c id v w ws log h at ram hist legal word agree own others same onward = record {
    log = log;
    ram = recast.0;
    same = recast.1;
    legal = legal;
    word = word;
    agree = λ i p t e. ⊎_elim
        (λ (b : (i ≡ id) × (w ≡ t)). subst (λ (z : ChipView). Agree (holding p z.ram) (holding p z.chip)) b.1 (agree p))
        (λ (b : (i ≢ id) × (get_elem? s.views i ≡ some t)). c.agree i p t b.1)
        (at_set s.views id i w t e);
    seats = λ i p t g e k. ⊎_elim
        (λ (b : (i ≡ id) × (w ≡ t)). own p g (subst (λ (z : ChipView). holding p z.chip ≡ Some g) (sym b.1) k))
        (λ (b : (i ≢ id) × (get_elem? s.views i ≡ some t)). others p g (free i p t g b.0 b.1 k) (c.seats i p t g b.1 k))
        (at_set s.views id i w t e);
    told = λ i t e. ⊎_elim
        (λ (b : (i ≡ id) × (w ≡ t)).
        subst (λ (z : ChipView). GoesFrom log z.told) b.1
        (onward w.told (subst (GoesFrom c.log) (sym same) (c.told id v at))))
        (λ (b : (i ≢ id) × (get_elem? s.views i ≡ some t)). onward t.told (c.told i t b.1))
        (at_set s.views id i w t e);
  }
    where
      recast : KeepsAt profile (ram_state (chip_with_view s ws id w)) (ram_of log)
      recast =
          subst (λ (z : List View × History). KeepsAt profile (record { words = ws; homes = s.homes; views = z.0 }) z.1)
          (λ i. (sym (map_set ram_view s.views id w) i, hist i)) ram

      free : (i : ℕ) (p : PortName) (t : ChipView) (g : ChipHistory) → i ≢ id → get_elem? s.views i ≡ some t
          → holding p t.chip ≡ Some g → holding p v.chip ≡ None
      free i p t g n e k =
          ⊎_elim
          (λ (b : (h' : ChipHistory) × (holding p v.chip ≡ Some h')).
          let x = agree_some (holding p t.ram) (holding p t.chip) g (c.agree i p t e) k in
          let y = agree_some (holding p v.ram) (holding p v.chip) b.0 (c.agree id p v at) b.1 in
          absurd
          (n (c.ram.apart i id p t.ram v.ram x.0 y.0 (map_at ram_view s.views i t e) (map_at ram_view s.views id v at) x.1 y.1)))
          (λ (b : holding p v.chip ≡ None). b)
          (held_or_not (holding p v.chip))

  -- a seat that has seen all
  pub sees_all : (log : ChipHistory) (v : ByPort ChipHistory) (p : PortName) (g : ChipHistory)
      → holding p (chip_see log v) ≡ Some g
      → IsBeginning log p g
  sees_all log v p g e =
      let t = seen_before p log v g e in
      subst (IsBeginning log p) t.2 (record { part = goes_again log; own = refl })

  -- and goes on
  pub goes_on : (s : ChipState) (c : ChipKeeps profile s) (id : ℕ) (v : ChipView) (at : get_elem? s.views id ≡ some v)
      (added : History) (p : PortName) (h : ChipHistory) → holding p v.chip ≡ Some h
      → (g : ChipHistory) × (holding p (chip_see (of_ram added ++ c.log) v.chip) ≡ Some g) × IsBeginning g p h
  goes_on s c id v at added p h e =
      let b = c.seats id p v h at e in
      let log : ChipHistory = of_ram added ++ c.log in (
        log,
        holding-each_as (λ old. log) p v.chip ∙ ap (held_as (λ (old : ChipHistory). log)) e,
        record {
          part = goes_more (of_ram added) c.log h b.part;
          own = steps_of-more p added c.log ∙ b.own;
        },
      )

  -- a step on an object's word or a place
  pub lifted : (slots id : ℕ) (me : ChipKnows) (word : ℕ) (f : ℕ → ℕ) (told : ℕ → Knows → Type 0) → word ≢ controller_cell
      → Moves profile id (ram_knows me) word f told
      → Allows (ChipKeeps profile) slots id me word f (λ found n. told found (ram_knows n) × EachGoesOn me n)
  lifted slots id me word f told apart moves s c _ at _ =
      let v : ChipView = me.0 in
      let ws : List ℕ = set s.words word (f (get_or s.words word 0)) in
      let m = moves (ram_state s) c.ram (map_at ram_view s.views id v at) in
      let kept : get_or ws controller_cell 0 ≡ get_or s.words controller_cell 0 =
      get_or-set_other s.words word controller_cell (f (get_or s.words word 0)) 0 (λ e. apart (sym e)) in
      ⊎_elim
      (λ (saw : AllSaw v.ram m.view (m.added ++ c.ram.log)).
      let log : ChipHistory = of_ram m.added ++ c.log in
      let w : ChipView = record { ram = m.view; chip = chip_see log v.chip; told = v.told } in
      let hist : m.added ++ c.ram.log ≡ ram_of log = ap (λ (h : History). m.added ++ h) c.same
      ∙ sym (ram_of-more m.added c.log) in (
        w,
        keeps,
        tt,
        chip_moved s c id v w ws log (m.added ++ c.ram.log) at m.keeps hist (legal_more m.added c.log c.legal)
            (kept ∙ (c.word ∙ ap packed (sym (controller_at-more m.added c.log))))
            (λ p.
            subst (Agree (holding p m.view)) (sym (holding-each_as (λ old. log) p v.chip))
            (agree_saw log (m.added ++ c.ram.log) (holding p v.ram) (holding p m.view) (holding p v.chip) hist (saw p)
            (c.agree id p v at)))
            (sees_all log v.chip)
            (λ p g none b. record {
              part = goes_more (of_ram m.added) c.log g b.part;
              own = steps_of-more p m.added c.log ∙ b.own;
            })
            refl
            (goes_more (of_ram m.added) c.log),
        (m.told, goes_on s c id v at m.added),
      ))
      (λ (quiet : (m.added ≡ []) × AllKept v.ram m.view).
      let w : ChipView = record { ram = m.view; chip = v.chip; told = v.told } in
      let hist : m.added ++ c.ram.log ≡ ram_of c.log = ap (λ (h : History). h ++ c.ram.log) quiet.0 ∙ c.same in (
        w,
        keeps,
        tt,
        chip_moved s c id v w ws c.log (m.added ++ c.ram.log) at m.keeps hist c.legal (kept ∙ c.word)
            (λ p. agree_kept (holding p v.ram) (holding p m.view) (holding p v.chip) (quiet.1 p) (c.agree id p v at))
            (λ p g e. c.seats id p v g at e)
            (λ p g none b. b)
            refl
            (λ g b. b),
        (
          m.told,
          λ p h e. (h, e, record { part = goes_again h; own = refl }),
        ),
      ))
      m.seen

  -- of a seat of a chip
  is_seated : (s : ChipState) (c : ChipKeeps profile s) (id : ℕ) (w : ChipView) → get_elem? s.views id ≡ some w → IsSeated w
  is_seated s c id w at p =
      (c.agree id p w at, λ h e. let b = c.seats id p w h at e in legal_before c.log h b.part c.legal)

  -- a step leaves such a seat
  pub seated : (slots id : ℕ) (me : ChipKnows) (word : ℕ) (f : ℕ → ℕ) (told : ℕ → ChipKnows → Type 0)
      → Allows (ChipKeeps profile) slots id me word f told
      → Allows (ChipKeeps profile) slots id me word f (λ found n. told found n × IsSeated n.0)
  seated slots id me word f told allows s c homes at small =
      let a = allows s c homes at small in (
        a.0,
        a.1,
        a.2,
        a.3,
        (
          a.4,
          is_seated (stepped s word (f (get_or s.words word 0)) id me.1 a.0 a.1) a.3 id a.0 (set_here s.views id a.0 me.0 at),
        ),
      )
