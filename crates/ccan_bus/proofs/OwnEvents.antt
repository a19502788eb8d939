-- The calls after which one event stands for the controller alone: clearing Init, and sending to itself.
use Rattle.std.proofs.Common.{ℕ, ◌≡◌, ◌≤◌, Bool, true, false, ◌∷◌, length, set, get_or, refl, sym, ap, subst, ◌∙◌, None, arith}
use Rattle.std.proofs.lemmas.Bool.{eqb-true}
use Rattle.std.proofs.lemmas.List.{get_or-set_same, get_or-set_other, get_or_default}
use Rattle.ccan_confine.specs.declared.bus_event.BusEvent.TheVariants.{Sent}
use Rattle.ccan_confine.specs.declared.status_event.StatusEvent.TheVariants as status
use Rattle.ccan_confine.specs.Counters.{NodeEvent, Bus as BusEventOf, ClearInit, Counts, AreAfter, AddsEvent, new_counts}
use Rattle.ccan_confine.specs.Status.{Happened, Held, IsHeldAfter, AddsStep}
use Rattle.ccan_confine.proofs.Calls.{listed_levels}
use Rattle.ccan_bus.specs.declared.bus.Bus.{Bus}
use Rattle.ccan_bus.specs.Past.{BusPast, is_controller, with_own, own_levels, sends_to_itself, clears_init}
use Rattle.ccan_bus.specs.Bus.{counters_at, LedTo, GoesOn}

pub record HasOwn (event : NodeEvent) (old new : Bus) : Type 0 where
  pub others : new.others ≡ old.others
  pub own : AddsEvent event (counters_at old 0) (counters_at new 0)
  pub rest : (node : ℕ) → is_controller node ≡ false → counters_at new node ≡ counters_at old node
  pub loops_back : new.loops_back ≡ old.loops_back
  pub choice : new.choice ≡ old.choice

module _ (event : NodeEvent) (old new : Bus) (has : HasOwn event old new) (past : BusPast) (led : LedTo past old) where
  by_node : (node : ℕ) → node ≤ past.others → (own : Bool) → is_controller node ≡ own
      → AreAfter (is_controller node) (with_own event past node) (counters_at new node)
  unfolding with_own
  by_node node within true is =
      let zero_is : node ≡ 0 = eqb-true node 0 is in
      rw zero_is (has.own true (past.events 0) (led.counters 0 (omega arith)))
  by_node node within false is =
      let here : AreAfter (is_controller node) (past.events node) (counters_at old node) = led.counters node within in
      rw is (subst (AreAfter false (past.events node)) (sym (has.rest node is)) (rw is at here))

  pub own_counters : (node : ℕ) → node ≤ past.others
      → AreAfter (is_controller node) (with_own event past node) (counters_at new node)
  own_counters node within = by_node node within (is_controller node) refl

  pub levels_own : (counters_at new 0).levels ≡ own_levels event past
  levels_own = listed_levels (is_controller 0) (with_own event past 0) (counters_at new 0) (own_counters 0 (omega arith))

-- the first place of the array is written
pub only_own : (event : NodeEvent) (old new : Bus) (k d : Counts) → new.others ≡ old.others → new.loops_back ≡ old.loops_back
    → new.choice ≡ old.choice
    → length old.nodes ≡ 9
    → new.nodes ≡ set old.nodes 0 k → AddsEvent event (get_or old.nodes 0 d) k → HasOwn event old new
only_own event old new k d others loops chooses all nodes adds =
    record {
      others = others;
      own =
          rw nodes (subst (λ (old_counts : Counts). AddsEvent event old_counts (get_or (set old.nodes 0 k) 0 (new_counts false)))
          (get_or_default old.nodes 0 d (new_counts false) (omega (arith, all)))
          (subst (AddsEvent event (get_or old.nodes 0 d))
          (sym (get_or-set_same old.nodes 0 k (new_counts false) (omega (arith, all)))) adds));
      rest = λ node other. rw nodes (get_or-set_other old.nodes 0 node k (new_counts false)
          (λ is. absurd (let e = ap is_controller is in cc)));
      loops_back = loops;
      choice = chooses;
    }

pub own_is : (old new : Bus) (k : Counts) → length old.nodes ≡ 9 → new.nodes ≡ set old.nodes 0 k
    → k.levels ≡ (counters_at new 0).levels
own_is old new k all nodes = rw nodes (ap (λ (c : Counts). c.levels)
    (sym (get_or-set_same old.nodes 0 k (new_counts false) (omega (arith, all)))))

-- what stays where only the first place of the array, the register and what is loaded are written
pub record WritesFirst (old new : Bus) (k : Counts) : Type 0 where
  pub others : new.others ≡ old.others
  pub loops_back : new.loops_back ≡ old.loops_back
  pub choice : new.choice ≡ old.choice
  pub nodes : new.nodes ≡ set old.nodes 0 k

pub cleared_init : (old new : Bus) (k d : Counts) → WritesFirst old new k → new.loaded ≡ old.loaded
    → AddsEvent ClearInit (get_or old.nodes 0 d) k
    → AddsStep (Happened status.Level k.levels) old.status new.status → GoesOn old new (λ past after. after ≡ clears_init past)
cleared_init old new k d writes loaded event adds =
    let has = only_own ClearInit old new k d writes.others writes.loops_back writes.choice old.all writes.nodes event in
    record {
      each = λ past led. (
        clears_init past,
        record {
          others = has.others ∙ led.others;
          counters = own_counters ClearInit old new has past led;
          status =
              subst (λ l. IsHeldAfter (Happened status.Level l ∷ past.steps) new.status)
              (own_is old new k old.all writes.nodes ∙ levels_own ClearInit old new has past led) (adds past.steps led.status);
          loaded = loaded ∙ led.loaded;
          loops_back = has.loops_back ∙ led.loops_back;
          choice = has.choice ∙ led.choice;
        },
        refl,
      );
    }

pub sent_to_itself : (old new : Bus) (k d : Counts) (between : Held) → WritesFirst old new k → new.loaded ≡ None
    → AddsEvent (BusEventOf Sent) (get_or old.nodes 0 d) k
    → AddsStep (Happened status.Sent k.levels) old.status between
    → AddsStep (Happened status.Received k.levels) between new.status
    → GoesOn old new (λ past after. after ≡ sends_to_itself past)
sent_to_itself old new k d between writes loaded event sends receives =
    let has = only_own (BusEventOf Sent) old new k d writes.others writes.loops_back writes.choice old.all writes.nodes event in
    record {
      each = λ past led. (
        sends_to_itself past,
        record {
          others = has.others ∙ led.others;
          counters = own_counters (BusEventOf Sent) old new has past led;
          status =
              subst (λ l. IsHeldAfter (Happened status.Received l ∷ Happened status.Sent l ∷ past.steps) new.status)
              (own_is old new k old.all writes.nodes ∙ levels_own (BusEventOf Sent) old new has past led)
              (receives _ (sends past.steps led.status));
          loaded = loaded;
          loops_back = has.loops_back ∙ led.loops_back;
          choice = has.choice ∙ led.choice;
        },
        refl,
      );
    }
