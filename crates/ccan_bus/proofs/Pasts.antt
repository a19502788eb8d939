-- Which pasts lead to a bus, and how they go on.
use Rattle.std.proofs.Common.{ℕ, ◌≡◌, ◌≤◌, ◌==◌, Bool, true, false, ◌&&◌, not, cond, List, [], ◌∷◌, length, ◌<◌, get_or, refl, sym, ap, subst, ◌∙◌, arith}
use Rattle.std.specs.Prelude.{nat_le, Option, None}
use Rattle.std.proofs.lemmas.Bool.Decides.{nat_tests}
use Rattle.ccan_object.specs.declared.record.Record.{Record}
use Rattle.ccan_confine.specs.declared.bus_event.BusEvent.{BusEvent}
use Rattle.ccan_confine.specs.declared.status_event.StatusEvent.{StatusEvent}
use Rattle.ccan_confine.specs.Counters.{Levels, is_off, by_table, levels_after, life_of, levels_of, since_off, since_clearing, NodeEvent, Bus as BusEventOf, levels_after_all, Counts, AreAfter, new_counts, counts_of}
use Rattle.std.proofs.lemmas.List.{get_or_default}
use Rattle.ccan_confine.specs.Status.{Held, StatusStep, Happened, IsHeldAfter, AddsStep}
use Rattle.ccan_confine.proofs.Calls.{listed_levels, listed_after}
use Rattle.ccan_bus.specs.declared.bus.Bus.{Bus}
use Rattle.ccan_bus.specs.declared.choice.Choice.{Choice}
use Rattle.ccan_bus.specs.Past.{opened_with, BusPast, is_controller, levels_at, is_on, events_after, steps_after, happens}
use Rattle.ccan_bus.specs.Bus.{counters_at, is_on_now, LedTo, GoesOn}

and_same : (a x y : Bool) → (a ≡ true → x ≡ y) → (a && x) ≡ (a && y)
and_same true x y h = h refl
and_same false x y h = refl

nat_le-true : (a b : ℕ) → nat_le a b ≡ true → a ≤ b
nat_le-true a b h = grind (arith, nat_tests)

le-nat_le : (a b : ℕ) → a ≤ b → nat_le a b ≡ true
le-nat_le a b h = grind (arith, nat_tests)

-- the counters tell which nodes are on
pub on_same : (past : BusPast) (bus : Bus) → LedTo past bus → (node : ℕ) → is_on past node ≡ is_on_now bus node
unfolding is_on is_on_now
on_same past bus led node =
    and_same (nat_le node past.others) _ _ (λ within.
    ap (λ l. not (is_off l)) (sym (listed_levels (is_controller node) (past.events node) (counters_at bus node)
    (led.counters node (nat_le-true _ _ within)))))
    ∙ ap (λ n. nat_le node n && not (is_off (counters_at bus node).levels)) (sym led.others)

pub on_there : (bus : Bus) (node at : ℕ) (k : Counts) (off : Bool) → at ≡ node → node ≤ bus.others → node < length bus.nodes
    → off ≡ is_off (get_or bus.nodes at k).levels
    → not off ≡ is_on_now bus node
unfolding is_on_now
on_there bus node at k off is within there off_is =
    let here : nat_le node bus.others ≡ true = le-nat_le node bus.others within in
    rw here (ap not (off_is ∙ ap (λ (n : ℕ). is_off (get_or bus.nodes n k).levels) is)
    ∙ ap (λ (c : Counts). not (is_off c.levels)) (get_or_default bus.nodes node k (new_counts false) there))

pub not_there : (bus : Bus) (node : ℕ) → bus.others < node → nat_le node bus.others ≡ is_on_now bus node
unfolding is_on_now
not_there bus node out = let gone : nat_le node bus.others ≡ false = grind (arith, nat_tests) in rw gone refl

off_keeps : (event : BusEvent) (off : Bool) (levels : Levels) → off ≡ true → cond off levels (by_table event levels) ≡ levels
off_keeps event true levels h = refl
off_keeps event false levels h = absurd cc

not_true : (b : Bool) → not b ≡ false → b ≡ true
not_true true h = refl
not_true false h = absurd cc

-- the counters of a node after its event, if it has one
node_after : (host on : Bool) (events : List NodeEvent) (event : BusEvent) (old new : Counts) → AreAfter host events old
    → not (is_off (levels_after_all host events)) ≡ on → new ≡ record old { levels = levels_after event old.levels }
    → AreAfter host (cond on (BusEventOf event ∷ events) events) new
node_after host true events event old new led is change = listed_after event old new change host events led
node_after host false events event old new led is change =
    let off : is_off old.levels ≡ true = ap is_off (listed_levels host events old led) ∙ not_true _ is in
    change ∙ (ap (λ (l : Levels). record old { levels = l }) (off_keeps event (is_off old.levels) old.levels off) ∙ led)

-- the register after its event, if it has one
register_after : (on : Bool) (noted : StatusEvent) (levels told : Levels) (steps : List StatusStep) (old new : Held)
    → IsHeldAfter steps old
    → levels ≡ told → (on ≡ true → AddsStep (Happened noted levels) old new) → (on ≡ false → new ≡ old)
    → IsHeldAfter (cond on (Happened noted told ∷ steps) steps) new
register_after true noted levels told steps old new held is on off =
    subst (λ l. IsHeldAfter (Happened noted l ∷ steps) new) is (on refl steps held)
register_after false noted levels told steps old new held is on off = subst (IsHeldAfter steps) (sym (off refl)) held

-- what a bus does at the end of a transfer or of its fault
pub record Spreads (event : ℕ → BusEvent) (noted : StatusEvent) (old new : Bus) : Type 0 where
  pub others : new.others ≡ old.others
  pub counters : (node : ℕ) → node ≤ 8
      → counters_at new node ≡ record (counters_at old node) { levels = levels_after (event node) (counters_at old node).levels }
  pub noted_on : is_on_now old 0 ≡ true → AddsStep (Happened noted (counters_at new 0).levels) old.status new.status
  pub noted_off : is_on_now old 0 ≡ false → new.status ≡ old.status
  pub loaded : new.loaded ≡ None
  pub loops_back : new.loops_back ≡ old.loops_back
  pub choice : new.choice ≡ old.choice

counters_after : (past : BusPast) (old new : Bus) (event : ℕ → BusEvent) (noted : StatusEvent) → LedTo past old → old.others ≤ 8
    → Spreads event noted old new
    → (node : ℕ) → node ≤ past.others → AreAfter (is_controller node) (events_after event past node) (counters_at new node)
unfolding events_after is_on
counters_after past old new event noted led few spread node within =
    let here : nat_le node past.others ≡ true = le-nat_le node past.others within in
    let same = led.others in
    let fits : node ≤ 8 = omega arith in
    rw here (node_after (is_controller node) _ (past.events node) (event node) (counters_at old node) (counters_at new node)
    (led.counters node within) refl (spread.counters node fits))

-- each past goes on
pub happened : (event : ℕ → BusEvent) (noted : StatusEvent) (old new : Bus) → old.others ≤ 8 → Spreads event noted old new
    → (past : BusPast) → LedTo past old → LedTo (happens event noted past) new
unfolding steps_after
happened event noted old new few spread past led =
    record {
      others = spread.others ∙ led.others;
      counters = counters_after past old new event noted led few spread;
      status =
          register_after (is_on past 0) noted (counters_at new 0).levels _ past.steps old.status new.status led.status
          (listed_levels (is_controller 0) (events_after event past 0) (counters_at new 0)
          (counters_after past old new event noted led few spread 0 (omega arith)))
          (λ on. spread.noted_on (sym (on_same past old led 0) ∙ on))
          (λ off. spread.noted_off (sym (on_same past old led 0) ∙ off));
      loaded = spread.loaded;
      loops_back = spread.loops_back ∙ led.loops_back;
      choice = spread.choice ∙ led.choice;
    }

pub GoesOn-happens : (event : ℕ → BusEvent) (noted : StatusEvent) (old new : Bus) → old.others ≤ 8 → Spreads event noted old new
    → GoesOn old new (λ past after. after ≡ happens event noted past)
GoesOn-happens event noted old new few spread =
    record { each = λ past led. (happens event noted past, happened event noted old new few spread past led, refl) }

-- nothing happens
pub GoesOn-none : (bus : Bus) (what : BusPast → BusPast → Type 0) → ((past : BusPast) → LedTo past bus → what past past)
    → GoesOn bus bus what
GoesOn-none bus what h = record { each = λ past led. (past, led, h past led) }

pub GoesOn-then : {x y z : Bus} {first second both : BusPast → BusPast → Type 0} → GoesOn x y first → GoesOn y z second
    → ((past between after : BusPast) → LedTo past x → LedTo between y → LedTo after z → first past between
    → second between after → both past after)
    → GoesOn x z both
GoesOn-then f g join =
    record {
      each = λ past led. let a = f.each past led in let b = g.each a.0 a.1 in
          (b.0, b.1, join past a.0 b.0 led a.1 b.1 a.2 b.2);
    }

pub GoesOn-weaker : {x y : Bus} {what weaker : BusPast → BusPast → Type 0} → GoesOn x y what
    → ((past after : BusPast) → LedTo past x → LedTo after y → what past after → weaker past after) → GoesOn x y weaker
GoesOn-weaker f h = record { each = λ past led. let a = f.each past led in (a.0, a.1, h past a.0 led a.1 a.2) }

-- only what is loaded changes
pub record KeepsAll (old new : Bus) : Type 0 where
  pub others : new.others ≡ old.others
  pub nodes : new.nodes ≡ old.nodes
  pub status : new.status ≡ old.status
  pub loops_back : new.loops_back ≡ old.loops_back
  pub choice : new.choice ≡ old.choice

pub LedTo-loaded : (past : BusPast) (old new : Bus) (now : Option (ℕ × Record)) → KeepsAll old new → new.loaded ≡ now
    → LedTo past old
    → LedTo (record past { loaded = now }) new
LedTo-loaded past old new now keeps is led =
    record {
      others = keeps.others ∙ led.others;
      counters =
          λ node within. subst (λ nodes. AreAfter (is_controller node) (past.events node)
          (get_or nodes node (new_counts false))) (sym keeps.nodes) (led.counters node within);
      status = subst (IsHeldAfter past.steps) (sym keeps.status) led.status;
      loaded = is;
      loops_back = keeps.loops_back ∙ led.loops_back;
      choice = keeps.choice ∙ led.choice;
    }

and_left : (a b : Bool) → (a && b) ≡ true → a ≡ true
and_left true b h = refl
and_left false b h = h

-- there are no nodes from 9 on
pub on_below : (bus : Bus) (node : ℕ) → bus.others ≤ 8 → is_on_now bus node ≡ true → node < 9
unfolding is_on_now
on_below bus node few on = let within = nat_le-true node bus.others (and_left _ _ on) in omega arith

-- nothing happened yet
pub none_yet : (host : Bool) → AreAfter host [] (new_counts host)
unfolding counts_of life_of levels_of since_off since_clearing
none_yet false = refl
none_yet true = refl

pub opens : (bus : Bus) (others : ℕ) (choice : Choice) → others ≤ 8 → bus.others ≡ others
    → ((node : ℕ) → node < 9 → counters_at bus node ≡ new_counts (node == 0)) → IsHeldAfter [] bus.status
    → bus.loaded ≡ None → bus.loops_back ≡ false → bus.choice ≡ choice → LedTo (opened_with choice others) bus
opens bus others choice few same counters status loaded loops chooses =
    record {
      others = same;
      counters = λ node within. subst (AreAfter (is_controller node) []) (sym (counters node (omega arith)))
          (none_yet (node == 0));
      status = status;
      loaded = loaded;
      loops_back = loops;
      choice = chooses;
    }

-- only the Status register has a step
pub LedTo-step : (past : BusPast) (old new : Bus) (step : StatusStep) → new.others ≡ old.others → new.nodes ≡ old.nodes
    → new.loaded ≡ old.loaded → new.loops_back ≡ old.loops_back → new.choice ≡ old.choice
    → AddsStep step old.status new.status → LedTo past old → LedTo (record past { steps = step ∷ past.steps }) new
LedTo-step past old new step others nodes loaded loops chooses adds led =
    record {
      others = others ∙ led.others;
      counters =
          λ node within. subst (λ ns. AreAfter (is_controller node) (past.events node) (get_or ns node (new_counts false)))
          (sym nodes) (led.counters node within);
      status = adds past.steps led.status;
      loaded = loaded ∙ led.loaded;
      loops_back = loops ∙ led.loops_back;
      choice = chooses ∙ led.choice;
    }

pub levels_now : (past : BusPast) (bus : Bus) (k : Counts) → LedTo past bus → 0 < length bus.nodes
    → (get_or bus.nodes 0 k).levels ≡ levels_at past 0
levels_now past bus k led there =
    ap (λ (c : Counts). c.levels) (get_or_default bus.nodes 0 k (new_counts false) there)
    ∙ listed_levels (is_controller 0) (past.events 0) (counters_at bus 0) (led.counters 0 (omega arith))
