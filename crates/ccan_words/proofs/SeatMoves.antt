-- One seat moves: what its step has to show so that the rule is kept.
use Rattle.std.proofs.Common.{◌≡◌, ◌≢◌, ℕ, ◌+◌, ◌<◌, ◌≤◌, Bool, List, set, get_or, length, sym}
use Rattle.std.proofs.Common.{refl, ap, ◌∙◌, subst, ⊎_elim, arith, Some, None}
use mathlib.Core.Option.{some}
use lib.ListN.{get_elem?}
use Rattle.atomic_table.specs.Table.{State}
use Rattle.atomic_table.proofs.Lists.{at_set}
use Rattle.ccan_object.specs.declared.profile.Profile.{Profile}
use Rattle.ccan_object.specs.Profile.{Holds}
use Rattle.ccan_ram.specs.declared.port.PortName.{PortName}
use Rattle.ccan_ram.specs.Port.{change_number}
use Rattle.ccan_ram.specs.History.{events_of, changes_by, next_number, last_number, BeginsWith, History}
use Rattle.ccan_words.specs.declared.view.PortView.{PortView}
use Rattle.ccan_ram.specs.ByPort.{holding}
use Rattle.ccan_words.specs.View.{see, see_all, View}
use Rattle.ccan_words.specs.Layout.{Form, IsNumber}
use Rattle.ccan_ram.specs.Sound.{IsSound, Stands}
use Rattle.ccan_words.specs.Rule.{Fits, Keeps}
use Rattle.ccan_words.specs.Plays.{GoesOn}
use Rattle.ccan_ram.proofs.Counting.{changes_by_own}
use Rattle.ccan_ram.proofs.Numbers.{numbered}
use Rattle.ccan_ram.proofs.Histories.{begins_again, begins_through}
use Rattle.ccan_ram.proofs.Holding.{held_or_not, held_before}

-- what a table of a memory's words is at one time
abbrev pub TableState : Type 0
TableState = State (Unit {0}) View

abbrev pub with_view : TableState → List ℕ → ℕ → View → TableState
with_view s ws id w = record { words = ws; homes = s.homes; views = set s.views id w }

-- the ports that w holds are held by v
abbrev pub Within : View → View → Type 0
Within w v = (p : PortName) (y : PortView) → holding p w ≡ Some y → (x : PortView) × (holding p v ≡ Some x) × (x.quota ≡ y.quota)

within-see_all : (h : History) (v : View) → Within (see_all h v) v
within-see_all h v p y e = let t = held_before (see h) p v y e in (t.0, t.1, ap (λ (z : PortView). z.quota) t.2)

pub sound_for : {profile : Profile} (m n : ℕ) (h : History) → n ≡ m → IsSound profile m h → IsSound profile n h
sound_for {profile} m n h e a = subst (λ (z : ℕ). IsSound profile z h) (sym e) a

pub is_next : {most : ℕ} (h : History) (p : PortName) → changes_by p h < most → IsNumber most (next_number p h)
is_next h p few = record { port = p; count = changes_by p h + 1; is = refl; from_one = omega arith; up_to = omega arith }

module _ {profile : Profile} {most : ℕ} {contends : ℕ → ℕ → Bool} (F : Form profile most contends) where
  -- a step of the seat id, to the words ws, the history log and the view w
  pub moved : (s : TableState) (r : Keeps F s) (id : ℕ) (v w : View) (ws : List ℕ) (log : History)
      → get_elem? s.views id ≡ some v → Within w v
      → IsSound profile r.quota log
      → length ws ≡ F.size → ((k : ℕ) → Holds profile k → get_or ws (F.cell k) 0 ≡ last_number contends k log)
      → ((n j : ℕ) (at : History) → Stands log n at → j < F.width → get_or ws (F.place n j) 0 ≡ get_or (F.content at) j 0)
      → ((p : PortName) (y : PortView) → holding p w ≡ Some y → Fits F ws log p y)
      → ((p : PortName) (y : PortView) → holding p v ≡ None → Fits F s.words r.log p y → Fits F ws log p y)
      → Keeps F (with_view s ws id w)
  moved s r id v w ws log at within sound wide heads versions own others = record {
    log = log;
    quota = r.quota;
    top = r.top;
    sound = sound;
    wide = wide;
    heads = heads;
    versions = versions;
    seats = λ i p u y e h. ⊎_elim
        (λ (t : (i ≡ id) × (w ≡ u)). own p y (subst (λ (z : View). holding p z ≡ Some y) (sym t.1) h))
        (λ (t : (i ≢ id) × (get_elem? s.views i ≡ some u)). others p y (free i p u y t.0 t.1 h) (r.seats i p u y t.1 h))
        (at_set s.views id i w u e);
    one_quota = λ i p u y e h. ⊎_elim
        (λ (t : (i ≡ id) × (w ≡ u)). let x = within p y (subst (λ (z : View). holding p z ≡ Some y) (sym t.1) h) in sym x.2
        ∙ r.one_quota id p v x.0 at x.1)
        (λ (t : (i ≢ id) × (get_elem? s.views i ≡ some u)). r.one_quota i p u y t.1 h)
        (at_set s.views id i w u e);
    apart = λ i j p u t x y e f h k. let a = before i p u x e h in
        let b = before j p t y f k in r.apart i j p a.0 b.0 a.1 b.1 a.2.0 b.2.0 a.2.1 b.2.1;
  }
    where
      free : (i : ℕ) (p : PortName) (u : View) (y : PortView) → i ≢ id → get_elem? s.views i ≡ some u → holding p u ≡ Some y
          → holding p v ≡ None
      free i p u y n e h =
          ⊎_elim (λ (t : (x : PortView) × (holding p v ≡ Some x)). absurd (n (r.apart i id p u v y t.0 e at h t.1)))
          (λ (t : holding p v ≡ None). t) (held_or_not (holding p v))

      before : (i : ℕ) (p : PortName) (u : View) (y : PortView) → get_elem? (set s.views id w) i ≡ some u → holding p u ≡ Some y
          → (u' : View) × (y' : PortView) × ((get_elem? s.views i ≡ some u') × (holding p u' ≡ Some y'))
      before i p u y e h = ⊎_elim
          (λ (t : (i ≡ id) × (w ≡ u)). let x = within p y (subst (λ (z : View). holding p z ≡ Some y) (sym t.1) h) in
          (v, x.0, (subst (λ (z : ℕ). get_elem? s.views z ≡ some v) (sym t.0) at, x.1)))
          (λ (t : (i ≢ id) × (get_elem? s.views i ≡ some u)). (u, y, (t.1, h)))
          (at_set s.views id i w u e)

  -- a port that made nothing, whose next version has the words that it had
  pub goes_by : (ws ws' : List ℕ) (log log' : History) (p : PortName) (y : PortView) → BeginsWith log' log
      → events_of p log' ≡ events_of p log
      → (changes_by p log < most → (j : ℕ) → j < F.width
      → get_or ws' (F.place (next_number p log) j) 0 ≡ get_or ws (F.place (next_number p log) j) 0) → Fits F ws log p y
      → Fits F ws' log' p y
  goes_by ws ws' log log' p y b same kept f =
      let count : changes_by p log ≡ changes_by p log' = changes_by_own p log log' (sym same) in record {
        part = begins_through log' log y.seen b f.part;
        own = same ∙ f.own;
        short = f.short;
        note = λ few j l. let few' : changes_by p log < most = omega arith in let sh = f.short in
            subst (λ (n : ℕ). get_or ws' (F.place (change_number p (n + 1)) j) 0 ≡ get_or y.note j 0) count
            (kept few' j (omega arith) ∙ f.note few' j l);
      }

  -- a port of a seat that has seen all of the new history
  pub sees : (ws ws' : List ℕ) (log log' : History) (p : PortName) (x y : PortView) → changes_by p log' ≡ changes_by p log
      → see log' x ≡ y
      → (changes_by p log < most → (j : ℕ) → j < F.width
      → get_or ws' (F.place (next_number p log) j) 0 ≡ get_or ws (F.place (next_number p log) j) 0) → Fits F ws log p x
      → Fits F ws' log' p y
  sees ws ws' log log' p x y same is kept f = subst (Fits F ws' log' p) is (record {
    part = begins_again log';
    own = refl;
    short = f.short;
    note = λ few j l. let few' : changes_by p log < most = omega arith in let sh = f.short in
        subst (λ (n : ℕ). get_or ws' (F.place (change_number p (n + 1)) j) 0 ≡ get_or x.note j 0) (sym same)
        (kept few' j (omega arith) ∙ f.note few' j l);
  })

  pub below_top : (s : TableState) (r : Keeps F s) (q : PortName) → changes_by q r.log ≤ most
  below_top s r q = let a = r.sound.few q in let t = r.top in omega arith

  pub on_for : (s : TableState) (r : Keeps F s) (id : ℕ) (p : PortName) (v : View) (x : PortView) → get_elem? s.views id ≡ some v
      → holding p v ≡ Some x → GoesOn profile p x r.log
  on_for s r id p v x at h =
      let f = r.seats id p v x at h in record
      { sound = sound_for r.quota x.quota r.log (r.one_quota id p v x at h) r.sound; part = f.part; own = f.own }

  pub standing : (s : TableState) (r : Keeps F s) (n : ℕ) (at : History) → Stands r.log n at → IsNumber most n
  standing s r n at t = let m = numbered r.log n at t in let made = m.made in let b = r.sound.few m.port in let top = r.top in
      record { port = m.port; count = m.count; is = m.is; from_one = m.from_one; up_to = omega arith }

  -- the seat sees a history in which nothing changed
  pub saw : (s : TableState) (r : Keeps F s) (id : ℕ) (v : View) (log' : History) → get_elem? s.views id ≡ some v
      → IsSound profile r.quota log' → BeginsWith log' r.log
      → ((p : PortName) → changes_by p log' ≡ changes_by p r.log)
      → ((k : ℕ) → last_number contends k log' ≡ last_number contends k r.log)
      → ((n : ℕ) (at : History) → Stands log' n at → Stands r.log n at)
      → ((p : PortName) → holding p v ≡ None → events_of p log' ≡ events_of p r.log)
      → Keeps F (with_view s s.words id (see_all log' v))
  saw s r id v log' at sound begins count heads stands others =
      moved s r id v (see_all log' v) s.words log' at (within-see_all log' v) sound
      r.wide (λ c l. r.heads c l ∙ sym (heads c)) (λ n j h t l. r.versions n j h (stands n h t) l)
      (λ p y e. let t = held_before (see log') p v y e in sees s.words s.words r.log log' p t.0 y (count p) t.2 (λ _ j l. refl)
      (r.seats id p v t.0 at t.1))
      (λ p y none f. goes_by s.words s.words r.log log' p y begins (others p none) (λ _ j l. refl) f)
