-- A bus with part of it as it opens is one to whose part nothing happened.
use Rattle.std.proofs.Common.{ℕ, zero, suc, ◌≡◌, ◌≤◌, true, false, List, [], ◌∷◌, length, replicate, refl, sym, ap, subst, ◌∙◌, arith}
use Rattle.std.proofs.Math.Nat.{ℕ_set}
use Rattle.std.proofs.Props.{props}
use Rattle.std.proofs.lemmas.Bool.Decides.{nat_tests}
use Rattle.std.specs.Option.{ForSome}
use Rattle.std.specs.Prelude.{slice_index_or}
use Rattle.ccan_object.specs.Profile.{Holds}
use Rattle.ccan_confine.specs.Counters.{Counts, new_counts}
use Rattle.ccan_confine.proofs.StatusCalls.{listed_new}
use Rattle.ccan_bus.specs.declared.bus.Bus.{Bus}
use Rattle.ccan_bus.specs.Bus.{LedTo}
use Rattle.ccan_bus.specs.Past.{BusPast, is_controller}
use Rattle.ccan_bus.specs.Renewed.{with_new_counters, with_new_status}
use Rattle.ccan_bus.proofs.Pasts.{none_yet}

-- past the end of a list there is what is asked for, and so there is among as many of the same
one_of : (c : Counts) (many node : ℕ) → slice_index_or (replicate many c) node c ≡ c
one_of c zero node = refl
one_of c (suc many) zero = refl
one_of c (suc many) (suc node) = one_of c many node

not_first : (node : ℕ) → is_controller (suc node) ≡ false
not_first node = grind (arith, nat_tests)

new_at : (node : ℕ) → slice_index_or (new_counts true ∷ replicate 8 (new_counts false)) node (new_counts false)
    ≡ new_counts (is_controller node)
new_at zero = refl
new_at (suc node) = one_of (new_counts false) 8 node ∙ ap new_counts (sym (not_first node))

pub new_status_led : (past : BusPast) (bus : Bus) → LedTo past bus → LedTo (record past { steps = [] }) (with_new_status bus)
new_status_led past bus led = record {
  others = led.others;
  counters = led.counters;
  status = listed_new;
  loaded = led.loaded;
  loops_back = led.loops_back;
  choice = led.choice;
}

pub new_counters_led : (past : BusPast) (bus : Bus) → LedTo past bus → LedTo (record past { events = λ node. [] }) (with_new_counters bus)
new_counters_led past bus led = record {
  others = led.others;
  counters = λ node within. new_at node ∙ none_yet (is_controller node);
  status = led.status;
  loaded = led.loaded;
  loops_back = led.loops_back;
  choice = led.choice;
}

abbrev fresh : List Counts
fresh = new_counts true ∷ replicate 8 (new_counts false)

-- a bus with such counters is the one with new ones
pub new_counters_is : (bus : Bus) (nodes : List Counts) (few : bus.others ≤ 8) (all : length nodes ≡ 9)
    (held : ForSome bus.loaded (λ found. Holds bus.profile found.0)) → nodes ≡ fresh
    → record bus { nodes = nodes; few = few; all = all; held = held } ≡ with_new_counters bus
new_counters_is bus nodes few all held is =
    subst (λ (n : List Counts). (a : length n ≡ 9) → record bus { nodes = n; few = few; all = a; held = held } ≡ with_new_counters bus)
    (sym is) (λ a i. record bus {
      nodes = fresh;
      few = few_one few bus.few i;
      all = ℕ_set (length fresh) 9 a refl i;
      held = held_one held bus.held i;
    }) all
  where
    few_one : IsProp (bus.others ≤ 8)
    few_one = hlevel props

    held_one : IsProp (ForSome bus.loaded (λ found. Holds bus.profile found.0))
    held_one = hlevel props
