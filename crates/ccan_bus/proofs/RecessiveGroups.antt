-- Groups of recessive bits, which all nodes see.
use Rattle.std.proofs.Common.{ℕ, ◌≡◌, ◌≤◌, ◌&&◌, Bool, false, cond, List, ◌∷◌, length, get_or, refl, subst, ◌∙◌, arith}
use Rattle.std.specs.Prelude.{nat_le}
use Rattle.std.proofs.lemmas.List.{get_or_default}
use Rattle.ccan_confine.specs.declared.status_event.StatusEvent.{StatusEvent}
use Rattle.ccan_confine.specs.declared.status_event.StatusEvent.TheVariants as status
use Rattle.ccan_confine.specs.Counters.{NodeEvent, Groups, levels_after_all, is_recovering_after, Counts, AreAfter, AddsEvent, new_counts}
use Rattle.ccan_confine.specs.Status.{Happened, IsHeldAfter, AddsStep}
use Rattle.ccan_confine.proofs.Calls.{listed_levels}
use Rattle.ccan_bus.specs.declared.bus.Bus.{Bus}
use Rattle.ccan_bus.specs.Past.{BusPast, is_controller, with_groups, recovers}
use Rattle.ccan_bus.specs.Bus.{counters_at, LedTo, GoesOn}

pub record HaveAllGroups (groups : ℕ) (old new : Bus) : Type 0 where
  pub others : new.others ≡ old.others
  pub each : (node : ℕ) → node ≤ 8 → AddsEvent (Groups groups) (counters_at old node) (counters_at new node)
  pub loaded : new.loaded ≡ old.loaded
  pub loops_back : new.loops_back ≡ old.loops_back
  pub choice : new.choice ≡ old.choice

abbrev pub recovery_event : ℕ → Bool → StatusEvent
recovery_event groups recovering = cond (nat_le 1 groups && recovering) status.Recovery status.Level

module _ (groups : ℕ) (old new : Bus) (has : HaveAllGroups groups old new) (few : old.others ≤ 8) (past : BusPast)
    (led : LedTo past old) where
  group_counters : (node : ℕ) → node ≤ past.others
      → AreAfter (is_controller node) (with_groups groups past node) (counters_at new node)
  unfolding with_groups
  group_counters node within =
      let same = led.others in
      let fits : node ≤ 8 = omega arith in has.each node fits (is_controller node) (past.events node) (led.counters node within)

  group_levels : (counters_at new 0).levels ≡ levels_after_all (is_controller 0) (with_groups groups past 0)
  group_levels = listed_levels (is_controller 0) (with_groups groups past 0) (counters_at new 0) (group_counters 0 (omega arith))

pub recovered : (groups : ℕ) (old new : Bus) (recovering : Bool) (event : StatusEvent) (d e : Counts)
    → HaveAllGroups groups old new
    → length new.nodes ≡ 9
    → ((host : Bool) (events : List NodeEvent) → AreAfter host events (get_or old.nodes 0 d)
    → recovering ≡ is_recovering_after host events)
    → event ≡ recovery_event groups recovering
    → AddsStep (Happened event (get_or new.nodes 0 e).levels) old.status new.status
    → GoesOn old new (λ past after. after ≡ recovers groups past)
recovered groups old new recovering event d e has all tells_read event_is adds_read =
    let few = old.few in
    let tells : (host : Bool) (events : List NodeEvent) → AreAfter host events (counters_at old 0)
    → recovering ≡ is_recovering_after host events =
    subst (λ (k : Counts). (host : Bool) (events : List NodeEvent) → AreAfter host events k
    → recovering ≡ is_recovering_after host events)
    (get_or_default old.nodes 0 d (new_counts false) (omega (arith, old.all))) tells_read in
    let adds : AddsStep (Happened (recovery_event groups recovering) (counters_at new 0).levels) old.status new.status =
    subst (λ (k : Counts). AddsStep (Happened (recovery_event groups recovering) k.levels) old.status new.status)
    (get_or_default new.nodes 0 e (new_counts false) (omega (arith, all)))
    (subst (λ v. AddsStep (Happened v (get_or new.nodes 0 e).levels) old.status new.status) event_is adds_read) in
    record {
      each = λ past led. (
        recovers groups past,
        record {
          others = has.others ∙ led.others;
          counters = group_counters groups old new has few past led;
          status =
              subst (λ r. IsHeldAfter (Happened (recovery_event groups r) (levels_after_all (is_controller 0)
              (with_groups groups past 0)) ∷ past.steps) new.status)
              (tells (is_controller 0) (past.events 0) (led.counters 0 (omega arith)))
              (subst (λ l. IsHeldAfter (Happened (recovery_event groups recovering) l ∷ past.steps) new.status)
              (group_levels groups old new has few past led) (adds past.steps led.status));
          loaded = has.loaded ∙ led.loaded;
          loops_back = has.loops_back ∙ led.loops_back;
          choice = has.choice ∙ led.choice;
        },
        refl,
      );
    }
