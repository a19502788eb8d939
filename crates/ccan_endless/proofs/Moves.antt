-- What a step of a seat does to the table, with the history named. `Moves` is what each step shows; the rule of the table
-- (`allowed`) and that of the whole chip (`Lifting`) follow from it.
use Rattle.std.proofs.Common.{◌≡◌, ◌≢◌, ℕ, ◌⊎◌, [], ◌++◌, set, get_or, sym, refl, subst, ⊎_elim}
use Rattle.std.proofs.Common.{Option, Some, None}
use mathlib.Core.Option.{some}
use lib.ListN.{get_elem?}
use Rattle.atomic_table.specs.Table.{keeps, Allows}
use Rattle.ccan_object.specs.declared.profile.Profile.{Profile}
use Rattle.ccan_ram.specs.declared.port.PortName.{PortName}
use Rattle.ccan_ram.specs.History.{History}
use Rattle.ccan_endless.specs.declared.view.PortView.{PortView}
use Rattle.ccan_ram.specs.ByPort.{holding, with_held, held_as}
use Rattle.ccan_endless.specs.View.{see, see_all, View}
use Rattle.ccan_endless.specs.Rule.{Keeps}
use Rattle.ccan_endless.specs.Plays.{Knows}
use Rattle.ccan_ram.proofs.Ports.{port_discrete}
use Rattle.ccan_ram.proofs.Holding.{holding-each_as, holding-with_held_same, holding-with_held_other}
use Rattle.ccan_endless.proofs.SeatMoves.{TableState, with_view, KeepsAt}

-- there is something in both or in none, and this is true of what there is
abbrev pub Both : (PortView → PortView → Type 0) → Option PortView → Option PortView → Type 0
Both R None None = Unit {0}
Both R None (Some y) = ⊥
Both R (Some x) None = ⊥
Both R (Some x) (Some y) = R x y

-- the new view has seen all of a history, for the ports of the old
abbrev pub AllSaw : View → View → History → Type 0
AllSaw old new log = (q : PortName) → Both (λ x y. y.seen ≡ log) (holding q old) (holding q new)

-- the new view has seen what the old had seen
abbrev pub AllKept : View → View → Type 0
AllKept old new = (q : PortName) → Both (λ x y. y.seen ≡ x.seen) (holding q old) (holding q new)

both_saw : (log : History) (o : Option PortView) → Both (λ x y. y.seen ≡ log) o (held_as (see log) o)
both_saw log None = tt
both_saw log (Some x) = refl

both_same : (o : Option PortView) → Both (λ x y. y.seen ≡ x.seen) o o
both_same None = tt
both_same (Some x) = refl

pub saw_all : (v : View) (log : History) → AllSaw v (see_all log v) log
saw_all v log q =
    subst (λ (o : Option PortView). Both (λ x y. y.seen ≡ log) (holding q v) o) (sym (holding-each_as (see log) q v))
    (both_saw log (holding q v))

-- the same, where one port has another view
pub saw_with : (p : PortName) (v : View) (x y : PortView) (log : History) → holding p v ≡ Some x → y.seen ≡ log
    → AllSaw v (with_held p (Some y) (see_all log v)) log
saw_with p v x y log held seen q = ⊎_elim
    (λ (e : q ≡ p).
    subst (λ (z : PortName). Both (λ a b. b.seen ≡ log) (holding z v) (holding z (with_held p (Some y) (see_all log v)))) (sym e)
    (subst (λ (u : Option PortView × Option PortView). Both (λ a b. b.seen ≡ log) u.0 u.1)
    (λ i. (sym held i, sym (holding-with_held_same p (Some y) (see_all log v)) i)) seen))
    (λ (n : q ≢ p).
    subst (λ (o : Option PortView). Both (λ a b. b.seen ≡ log) (holding q v) o)
    (sym (holding-with_held_other p q (Some y) (see_all log v) n)) (saw_all v log q))
    (port_discrete q p)

pub kept_with : (p : PortName) (v : View) (x y : PortView) → holding p v ≡ Some x → y.seen ≡ x.seen
    → AllKept v (with_held p (Some y) v)
kept_with p v x y held seen q = ⊎_elim
    (λ (e : q ≡ p).
    subst (λ (z : PortName). Both (λ a b. b.seen ≡ a.seen) (holding z v) (holding z (with_held p (Some y) v))) (sym e)
    (subst (λ (u : Option PortView × Option PortView). Both (λ a b. b.seen ≡ a.seen) u.0 u.1)
    (λ i. (sym held i, sym (holding-with_held_same p (Some y) v) i)) seen))
    (λ (n : q ≢ p).
    subst (λ (o : Option PortView). Both (λ a b. b.seen ≡ a.seen) (holding q v) o)
    (sym (holding-with_held_other p q (Some y) v n)) (both_same (holding q v)))
    (port_discrete q p)

module _ (profile : Profile) where
  -- a step of the seat id on a word, which becomes f of what it was
  pub record Moved (s : TableState) (r : Keeps profile s) (id : ℕ) (me : Knows) (word : ℕ) (f : ℕ → ℕ)
      (answer : ℕ → Knows → Type 0) : Type 0 where
    pub view : View
    -- the history goes on by these events
    pub added : History
    pub keeps : KeepsAt profile (with_view s (set s.words word (f (get_or s.words word 0))) id view) (added ++ r.log)
    pub told : answer (get_or s.words word 0) (view, me.1)
    -- the seat has seen all of it; or nothing was added, and it has seen what it had seen
    pub seen : AllSaw me.0 view (added ++ r.log) ⊎ ((added ≡ []) × AllKept me.0 view)

  -- whatever the table is
  abbrev pub Moves : ℕ → Knows → ℕ → (ℕ → ℕ) → (ℕ → Knows → Type 0) → Type 0
  Moves id me word f told =
      (s : TableState) (r : Keeps profile s) → get_elem? s.views id ≡ some me.0 → Moved s r id me word f told

  -- so the step keeps the rule of the objects' words
  pub allowed : (slots id : ℕ) (me : Knows) (word : ℕ) (f : ℕ → ℕ) (told : ℕ → Knows → Type 0)
      → Moves id me word f told → Allows (Keeps profile) slots id me word f told
  allowed slots id me word f told moves s r _ at _ = let m = moves s r at in (m.view, keeps, tt, m.keeps.0, m.told)
