-- A bus takes a controller whose registers stand elsewhere: its own place in the array is written, and all others stay.
use Rattle.std.proofs.Common.{ℕ, ◌≡◌, ◌≤◌, Bool, true, false, List, [], length, set, get_or, refl, sym, ap, subst, ◌∙◌, arith}
use Rattle.std.proofs.lemmas.Bool.{eqb-true}
use Rattle.std.proofs.lemmas.List.{get_or-set_same, get_or-set_other}
use Rattle.ccan_confine.specs.Counters.{NodeEvent, Counts, AreAfter, new_counts}
use Rattle.ccan_confine.specs.Status.{IsHeldAfter}
use Rattle.ccan_bus.specs.declared.bus.Bus.{Bus}
use Rattle.ccan_bus.specs.Past.{BusPast, is_controller}
use Rattle.ccan_bus.specs.Bus.{counters_at, LedTo}
use Rattle.ccan_bus.specs.Controller.{events_with, with_controller}

-- the first place of the array has these counters, the Status register is as it opens, and all else stays
pub record Takes (counters : Counts) (loops : Bool) (old new : Bus) : Type 0 where
  pub others : new.others ≡ old.others
  pub nodes : new.nodes ≡ set old.nodes 0 counters
  pub status : IsHeldAfter [] new.status
  pub loaded : new.loaded ≡ old.loaded
  pub loops_back : new.loops_back ≡ loops
  pub choice : new.choice ≡ old.choice

module _ (counters : Counts) (loops : Bool) (old new : Bus) (takes : Takes counters loops old new)
    (all : length old.nodes ≡ 9) (past : BusPast) (events : List NodeEvent) (led : LedTo past old)
    (after : AreAfter true events counters) where
  by_node : (node : ℕ) → node ≤ past.others → (own : Bool) → is_controller node ≡ own
      → AreAfter (is_controller node) (events_with events past node) (counters_at new node)
  unfolding events_with
  by_node node within true is =
      let zero_is : node ≡ 0 = eqb-true node 0 is in
      let here : counters_at new 0 ≡ counters =
      ap (λ nodes. get_or nodes 0 (new_counts false)) takes.nodes
      ∙ get_or-set_same old.nodes 0 counters (new_counts false) (omega (arith, all)) in
      rw zero_is (subst (AreAfter true events) (sym here) after)
  by_node node within false is =
      let there : counters_at new node ≡ counters_at old node =
      ap (λ nodes. get_or nodes node (new_counts false)) takes.nodes
      ∙ get_or-set_other old.nodes 0 node counters (new_counts false)
      (λ zero_is. absurd (let e = ap is_controller zero_is in cc)) in
      let before : AreAfter (is_controller node) (past.events node) (counters_at old node) = led.counters node within in
      rw is (subst (AreAfter false (past.events node)) (sym there) (rw is at before))

  pub taken : LedTo (with_controller events loops past) new
  taken =
      record {
        others = takes.others ∙ led.others;
        counters = λ node within. by_node node within (is_controller node) refl;
        status = takes.status;
        loaded = takes.loaded ∙ led.loaded;
        loops_back = takes.loops_back;
        choice = takes.choice ∙ led.choice;
      }
