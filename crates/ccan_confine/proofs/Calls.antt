-- Each call of the counters against the list of events: from what it makes of the value, the value of the longer list.
use Rattle.std.proofs.Common.{◌≡◌, ℕ, ◌+◌, ◌<◌, ◌≤◌, Bool, true, false, ◌&&◌, ◌||◌, not, cond, nat_le, List, ◌∷◌, refl, sym}
use Rattle.std.proofs.Common.{ap, subst, ◌∙◌, ◌⊎◌, inl, inr, zero-add, arith}
use Rattle.std.proofs.lemmas.Bool.{lt-leb, le-leb}
use Rattle.ccan_confine.specs.declared.bus_event.BusEvent.{BusEvent}
use Rattle.ccan_confine.specs.declared.node_state.NodeState.{NodeState}
use Rattle.ccan_confine.specs.Counters.{is_off, state_of, NodeEvent, Bus, Groups, ClearInit, clears_init, levels_after_all}
use Rattle.ccan_confine.specs.Counters.{is_recovering_after, groups_to_return, life_of, since_off, Counts, counts_of}
use Rattle.ccan_confine.specs.Counters.{AreAfter, AddsEvent, new_counts, counts_after, counts_cleared, is_recovering}
use Rattle.ccan_confine.specs.Laws.{GroupsCountOnlyWhileRecovering, OnlyTheFirstClearingCounts}
use Rattle.ccan_confine.proofs.Steps.{with_event, same_counts, counts-back, counts-there, groups-below}

-- the readers
pub listed_levels : (host : Bool) (events : List NodeEvent) (self : Counts)
    → AreAfter host events self → self.levels ≡ levels_after_all host events
unfolding counts_of
listed_levels host events self held = ap (λ c. c.levels) held

pub listed_tec : (host : Bool) (events : List NodeEvent) (self : Counts) (result : ℕ) → result ≡ self.levels.tec
    → AreAfter host events self → result ≡ (levels_after_all host events).tec
listed_tec host events self result value held = value ∙ ap (λ l. l.tec) (listed_levels host events self held)

pub listed_rec : (host : Bool) (events : List NodeEvent) (self : Counts) (result : ℕ) → result ≡ self.levels.rec
    → AreAfter host events self → result ≡ (levels_after_all host events).rec
listed_rec host events self result value held = value ∙ ap (λ l. l.rec) (listed_levels host events self held)

pub listed_state : (host : Bool) (events : List NodeEvent) (self : Counts) (result : NodeState)
    → result ≡ state_of self.levels → AreAfter host events self → result ≡ state_of (levels_after_all host events)
listed_state host events self result value held = value ∙ ap state_of (listed_levels host events self held)

recovering_by : (host cleared off : Bool) → (off && (not host || (host && cleared))) ≡ (off && (not host || cleared))
recovering_by false cleared off = refl
recovering_by true cleared off = refl

pub listed_recovering : (host : Bool) (events : List NodeEvent) (self : Counts) (result : Bool)
    → result ≡ is_recovering self → AreAfter host events self → result ≡ is_recovering_after host events
unfolding counts_of
listed_recovering host events self result value held =
    let cleared : Bool = clears_init (since_off (life_of host events)) in
    value ∙ (ap is_recovering held ∙ recovering_by host cleared (is_off (levels_after_all host events)))

-- a bus event
or_false : (b : Bool) → (b || false) ≡ b
or_false true = refl
or_false false = refl

pub no_more : (b : Bool) (n : ℕ) → cond b 0 0 + n ≡ n
no_more true n = zero-add n
no_more false n = zero-add n

with_bus : (event : BusEvent) (k : Counts) → with_event (Bus event) k ≡ counts_after event k
with_bus event k = same_counts _ _ refl refl (or_false k.init_cleared) (no_more (is_recovering k) k.groups)

-- where a value answers as a list with an event added, the node isn't back with that event
there_with : (host : Bool) (events : List NodeEvent) (event : NodeEvent) (made : Counts → Counts)
    → with_event event (counts_of host events) ≡ made (counts_of host events)
    → nat_le groups_to_return (made (counts_of host events)).groups ≡ false
    → counts_of host (event ∷ events) ≡ made (counts_of host events)
there_with host events event made with_it below =
    counts-there host event events (ap (λ c. nat_le groups_to_return c.groups) with_it ∙ below) ∙ with_it

pub listed_after : (event : BusEvent) (self result : Counts)
    → result ≡ counts_after event self → AddsEvent (Bus event) self result
listed_after event self result changed host events held =
    changed ∙ (ap (counts_after event) held
    ∙ sym (there_with host events (Bus event) (counts_after event) (with_bus event _) (groups-below host events)))

-- a clearing of Init
with_clearing : (k : Counts) → with_event ClearInit k ≡ counts_cleared k
with_clearing k = same_counts _ _ refl refl refl (no_more (is_recovering k) k.groups)

pub listed_clear : (self result : Counts) → result ≡ counts_cleared self → AddsEvent ClearInit self result
listed_clear self result changed host events held =
    changed ∙ (ap counts_cleared held
    ∙ sym (there_with host events ClearInit counts_cleared (with_clearing _) (groups-below host events)))

-- groups of recessive bits
abbrev pub counts_more : ℕ → Counts → Counts
counts_more number k = record k { groups = k.groups + number }

with_ignored : (number : ℕ) (k : Counts) → is_recovering k ≡ false → with_event (Groups number) k ≡ k
with_ignored number k ignored = same_counts _ _ refl refl (or_false k.init_cleared) (rw ignored (zero-add k.groups))

with_counted : (number : ℕ) (k : Counts) → is_recovering k ≡ true → with_event (Groups number) k ≡ counts_more number k
with_counted number k counts = same_counts _ _ refl refl (or_false k.init_cleared) (rw counts (omega arith))

pub listed_ignored : (number : ℕ) (self : Counts) → is_recovering self ≡ false → AddsEvent (Groups number) self self
listed_ignored number self ignored host events held =
    let with_it = with_ignored number (counts_of host events) (sym (ap is_recovering held) ∙ ignored) in
    held ∙ sym (there_with host events (Groups number) (λ c. c) with_it (groups-below host events))

pub listed_counted : (number : ℕ) (self : Counts) → is_recovering self ≡ true → self.groups + number < groups_to_return
    → AddsEvent (Groups number) self (counts_more number self)
listed_counted number self recovers below host events held =
    let k = counts_of host events in
    let with_it = with_counted number k (sym (ap is_recovering held) ∙ recovers) in
    let fewer : k.groups + number < groups_to_return = subst (λ (c : Counts). c.groups + number < groups_to_return) held below in
    ap (counts_more number) held
    ∙ sym (there_with host events (Groups number) (counts_more number) with_it
    (lt-leb groups_to_return (k.groups + number) fewer))

pub listed_back : (number : ℕ) (self : Counts) → is_recovering self ≡ true → groups_to_return ≤ self.groups + number
    → AddsEvent (Groups number) self (new_counts self.host)
unfolding counts_of
listed_back number self recovers enough host events held =
    let k = counts_of host events in
    let with_it = with_counted number k (sym (ap is_recovering held) ∙ recovers) in
    let more : groups_to_return ≤ k.groups + number = subst (λ (c : Counts). groups_to_return ≤ c.groups + number) held enough in
    let back : nat_le groups_to_return (with_event (Groups number) k).groups ≡ true =
    ap (λ c. nat_le groups_to_return c.groups) with_it ∙ le-leb groups_to_return (k.groups + number) more in
    ap (λ c. new_counts c.host) held ∙ sym (counts-back host (Groups number) events back)

-- a result that is known to equal such a value
pub adds_result : (event : NodeEvent) (old made result : Counts)
    → result ≡ made → AddsEvent event old made → AddsEvent event old result
adds_result event old made result same adds host events held = same ∙ adds host events held

-- the laws of what changes nothing
pub ignored_law : GroupsCountOnlyWhileRecovering
ignored_law host events number ignored =
    let k = counts_of host events in
    let idle : is_recovering k ≡ false = listed_recovering host events k (is_recovering k) refl refl ∙ ignored in
    sym (listed_ignored number k idle host events refl)

init_kept : (host off cleared : Bool) → (off ≡ false) ⊎ ((host ≡ false) ⊎ ((off && (not host || cleared)) ≡ true))
    → (cleared || (host && off)) ≡ cleared
init_kept false off cleared idle = or_false cleared
init_kept true false cleared idle = or_false cleared
init_kept true true true idle = refl
init_kept true true false (inl on) = cc
init_kept true true false (inr (inl other)) = cc
init_kept true true false (inr (inr recovers)) = cc

host_of : (host : Bool) (events : List NodeEvent) → (counts_of host events).host ≡ host
unfolding counts_of
host_of host events = refl

pub first_clearing_law : OnlyTheFirstClearingCounts
first_clearing_law host events idle =
    let k = counts_of host events in
    let kept : (k.init_cleared || (k.host && is_off k.levels)) ≡ k.init_cleared =
    init_kept k.host (is_off k.levels) k.init_cleared (elim idle [
      | inl on ↦ inl (ap is_off (listed_levels host events k refl) ∙ on)
      | inr rest ↦ inr (elim rest [
        | inl other ↦ inl (host_of host events ∙ other)
        | inr recovers ↦ inr (listed_recovering host events k (is_recovering k) refl refl ∙ recovers)
      ])
    ]) in
    let same : counts_cleared k ≡ k = rw kept refl in
    sym (listed_clear k _ refl host events refl) ∙ same
