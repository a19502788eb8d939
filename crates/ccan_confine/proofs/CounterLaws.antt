-- The laws of the error counters.
use Rattle.std.proofs.Common.{◌≡◌, ℕ, ◌+◌, ◌<◌, ◌≤◌, Bool, true, false, cond, nat_le, List, [], ◌∷◌, ◌++◌, refl, sym, ap, ◌∙◌}
use Rattle.std.proofs.Common.{inl, inr, append_assoc, arith}
use Rattle.std.proofs.lemmas.Bool.{cases_Bool, or_parts, or_right, lt-leb, le-leb, leb-true, leb-false}
use Rattle.std.proofs.lemmas.Bool.Decides.{nat_tests}
use Rattle.std.proofs.lemmas.List.Sums.{sum_by-cons}
use Rattle.std.proofs.lemmas.List.Folds.{list_any-append}
use Rattle.std.proofs.lemmas.List.Elements.{Contains-push, Contains-append_left, Contains-append_right}
use Rattle.ccan_confine.specs.declared.bus_event.BusEvent.{BusEvent}
use Rattle.ccan_confine.specs.declared.bus_event.BusEvent.TheVariants.{Sent, Received, SendFault, SendNoAck, ReceiveFault}
use Rattle.ccan_confine.specs.Counters.{Levels, no_errors, passive_limit, off_limit, send_fault_step, most_rec}
use Rattle.ccan_confine.specs.Counters.{groups_to_return, is_off, reaches, by_table, NodeEvent, Bus, Groups, ClearInit}
use Rattle.ccan_confine.specs.Counters.{groups_of, groups_in, clears_init, is_clearing, levels_of, since_off, since_clearing}
use Rattle.ccan_confine.specs.Counters.{is_back, life_of, levels_after_all, counts_in_life, is_recovering}
use Rattle.ccan_confine.specs.Laws.{CountersAreBounded, OffNodesKeepTheirCounters, GoesOff, OnlySendFaultsLeadOff}
use Rattle.ccan_confine.specs.Laws.{OnWithoutSendFaults, NotBackBeforeTheGroups, NotBackBeforeInit}
use Rattle.ccan_confine.specs.Laws.{NotBackBeforeTheGroupsAfterInit, BackWithTheGroups, BackWithTheGroupsAfterInit}
use Rattle.ccan_confine.proofs.Steps.{levels-off, since_clearing-none, groups-more, life-more, is_back-life}
use Rattle.ccan_confine.proofs.Calls.{no_more}

-- bounds
table_bounded : (event : BusEvent) (l : Levels) → l.tec < off_limit → l.rec ≤ most_rec
    → ((by_table event l).tec < off_limit + send_fault_step) × ((by_table event l).rec ≤ most_rec)
table_bounded Sent l tec rec = (omega arith, omega arith)
table_bounded Received l tec rec = (omega arith, grind (arith, nat_tests))
table_bounded SendFault l tec rec = (omega arith, omega arith)
table_bounded SendNoAck l tec rec =
    elim (cases_Bool (reaches passive_limit l)) [
      | inl passive ↦ rw passive (omega arith, rec)
      | inr active ↦ rw active (omega arith, rec)
    ]
table_bounded ReceiveFault l tec rec = (omega arith, omega arith)

levels_bounded : (life : List NodeEvent)
    → ((levels_of life).tec < off_limit + send_fault_step) × ((levels_of life).rec ≤ most_rec)
unfolding levels_of
levels_bounded [] = (omega arith, omega arith)
levels_bounded (Groups _ ∷ life) = levels_bounded life
levels_bounded (ClearInit ∷ life) = levels_bounded life
levels_bounded (Bus event ∷ life) =
    elim (cases_Bool (is_off (levels_of life))) [
      | inl off ↦ rw off (levels_bounded life)
      | inr on ↦
          let below : (levels_of life).tec < off_limit = leb-false off_limit (levels_of life).tec on in
          rw on (table_bounded event (levels_of life) below (levels_bounded life).1)
    ]

pub bounded_law : CountersAreBounded
bounded_law host events =
    let bounds = levels_bounded (life_of host events) in
    let tec = (levels_after_all host events).tec in
    record { tec = bounds.0; rec = bounds.1; tec_of_on = λ on. leb-false off_limit tec on }

-- a bus event brings no node back
not_by_bus : (host : Bool) (event : BusEvent) (events : List NodeEvent)
    → is_back host (Bus event ∷ life_of host events) ≡ true → ⊥
not_by_bus host event events back =
    let life = life_of host events in
    let counts = counts_in_life host life in
    let same : (counts_in_life host (Bus event ∷ life)).groups ≡ counts.groups =
    ap (λ c. c.groups) (life-more host (Bus event) life) ∙ no_more (is_recovering counts) counts.groups in
    let before : is_back host life ≡ true = ap (λ n. nat_le groups_to_return n) (sym same) ∙ back in
    let never : is_back host life ≡ false = is_back-life host events in
    cc

-- a node that is off
pub off_law : OffNodesKeepTheirCounters
unfolding life_of
off_law host events event off =
    let life = life_of host events in
    let same : levels_of (Bus event ∷ life) ≡ levels_of life = levels-off (Bus event) life off in
    elim (cases_Bool (is_back host (Bus event ∷ life_of host events))) [
      | inl back ↦ absurd (not_by_bus host event events back)
      | inr there ↦ rw there same
    ]

-- the groups that count in what came since the node went off
abbrev pub counting : Bool → List NodeEvent → ℕ
counting host later = groups_in (cond host (since_clearing later) later)

counting-le : (host : Bool) (event : NodeEvent) (later : List NodeEvent) → counting host later ≤ counting host (event ∷ later)
counting-le host event later = omega (arith, groups-more host event later)

-- no more than all of them
counting_le_groups : (host : Bool) (later : List NodeEvent) → counting host later ≤ groups_in later
unfolding since_clearing
counting_le_groups false later = omega arith
counting_le_groups true [] = omega arith
counting_le_groups true (event ∷ later) =
    let more = groups-more true event later in
    elim (cases_Bool (clears_init later)) [
      | inl cleared ↦
          let counted : counting true (event ∷ later) ≡ groups_of event + counting true later = more ∙ rw cleared refl in
          omega (arith, counted, sum_by-cons groups_of event later, counting_le_groups true later)
      | inr none ↦
          let counted : counting true (event ∷ later) ≡ 0 + counting true later = more ∙ rw none refl in
          omega (arith, counted, sum_by-cons groups_of event later, counting_le_groups true later)
    ]

-- the event at which a node goes off ends no life
goes_on : (host : Bool) (event : NodeEvent) (earlier : List NodeEvent)
    → GoesOff host event earlier → is_back host (event ∷ life_of host earlier) ≡ false
unfolding life_of levels_of
goes_on host event earlier goes =
    elim (cases_Bool (is_back host (event ∷ life_of host earlier))) [
      | inr there ↦ there
      | inl back ↦ absurd (
          let on : is_off (levels_after_all host (event ∷ earlier)) ≡ false = rw back refl in
          let off : is_off (levels_after_all host (event ∷ earlier)) ≡ true = goes.off_after in
          cc)
    ]

-- since a node went off, it is off, and its life goes on
record StaysOff (host : Bool) (event : NodeEvent) (earlier later : List NodeEvent) : Type 0 where
  pub off : is_off (levels_after_all host (later ++ event ∷ earlier)) ≡ true
  pub since : since_off (life_of host (later ++ event ∷ earlier)) ≡ later

-- at first
goes_off : (host : Bool) (event : NodeEvent) (earlier : List NodeEvent)
    → GoesOff host event earlier → StaysOff host event earlier []
unfolding life_of since_off
goes_off host event earlier goes =
    record { off = goes.off_after; since = rw (goes_on host event earlier goes) (rw goes.on_before refl) }

-- and before enough groups counted
stays_off : (host : Bool) (event : NodeEvent) (earlier : List NodeEvent) → GoesOff host event earlier
    → (later : List NodeEvent) → counting host later < groups_to_return → StaysOff host event earlier later
unfolding life_of since_off
stays_off host event earlier goes [] few = goes_off host event earlier goes
stays_off host event earlier goes (first ∷ later) few =
    let fewer : counting host later < groups_to_return = omega (arith, counting-le host first later) in
    let before : StaysOff host event earlier later = stays_off host event earlier goes later fewer in
    let life = life_of host (later ++ event ∷ earlier) in
    let since : since_off (first ∷ life) ≡ first ∷ later = rw before.off (ap (λ rest. first ∷ rest) before.since) in
    let there : is_back host (first ∷ life) ≡ false =
    ap (λ s. nat_le groups_to_return (counting host s)) since ∙ lt-leb groups_to_return (counting host (first ∷ later)) few in
    record { off = rw there (ap is_off (levels-off first life before.off) ∙ before.off); since = rw there since }

-- the group that makes them enough does
comes_back : (host : Bool) (number : ℕ) (event : NodeEvent) (earlier later : List NodeEvent) → GoesOff host event earlier
    → counting host later < groups_to_return → groups_to_return ≤ counting host (Groups number ∷ later)
    → levels_after_all host (Groups number ∷ (later ++ event ∷ earlier)) ≡ no_errors
unfolding life_of since_off levels_of
comes_back host number event earlier later goes few enough =
    let before : StaysOff host event earlier later = stays_off host event earlier goes later few in
    let life = life_of host (later ++ event ∷ earlier) in
    let since : since_off (Groups number ∷ life) ≡ Groups number ∷ later =
    rw before.off (ap (λ rest. Groups number ∷ rest) before.since) in
    let back : is_back host (Groups number ∷ life) ≡ true =
    ap (λ s. nat_le groups_to_return (counting host s)) since
    ∙ le-leb groups_to_return (counting host (Groups number ∷ later)) enough in
    rw back refl

pub groups_law : NotBackBeforeTheGroups
groups_law host later earlier event goes few =
    (stays_off host event earlier goes later (omega (arith, counting_le_groups host later))).off

pub init_law : NotBackBeforeInit
init_law later earlier event goes none =
    let nothing : counting true later ≡ 0 = ap groups_in (since_clearing-none later none) in
    (stays_off true event earlier goes later (omega arith)).off

pub back_law : BackWithTheGroups
back_law number later earlier event goes few enough =
    comes_back false number event earlier later goes few (rw (sum_by-cons groups_of (Groups number) later) enough)

-- the part since the first clearing of Init
clears-append : (later before : List NodeEvent) → clears_init (later ++ ClearInit ∷ before) ≡ true
clears-append later before = list_any-append is_clearing later (ClearInit ∷ before) ∙ or_right (clears_init later) true refl

since_clearing-append : (later before : List NodeEvent)
    → clears_init before ≡ false → since_clearing (later ++ ClearInit ∷ before) ≡ later
unfolding since_clearing
since_clearing-append [] before none = rw none refl
since_clearing-append (event ∷ later) before none =
    rw (clears-append later before) (ap (λ rest. event ∷ rest) (since_clearing-append later before none))

counting-init : (later before : List NodeEvent)
    → clears_init before ≡ false → counting true (later ++ ClearInit ∷ before) ≡ groups_in later
counting-init later before none = ap groups_in (since_clearing-append later before none)

counting-init-groups : (number : ℕ) (later before : List NodeEvent) → clears_init before ≡ false
    → counting true (Groups number ∷ (later ++ ClearInit ∷ before)) ≡ number + groups_in later
counting-init-groups number later before none =
    groups-more true (Groups number) (later ++ ClearInit ∷ before)
    ∙ rw (clears-append later before, counting-init later before none) refl

pub groups_after_init_law : NotBackBeforeTheGroupsAfterInit
groups_after_init_law later before earlier event goes none few =
    let below : counting true (later ++ ClearInit ∷ before) < groups_to_return = rw (counting-init later before none) few in
    let off = (stays_off true event earlier goes (later ++ ClearInit ∷ before) below).off in
    sym (ap (λ events. is_off (levels_after_all true events)) (append_assoc later (ClearInit ∷ before) (event ∷ earlier))) ∙ off

pub back_after_init_law : BackWithTheGroupsAfterInit
back_after_init_law number later before earlier event goes none few enough =
    let below : counting true (later ++ ClearInit ∷ before) < groups_to_return = rw (counting-init later before none) few in
    let more : groups_to_return ≤ counting true (Groups number ∷ (later ++ ClearInit ∷ before)) =
    rw (counting-init-groups number later before none) enough in
    sym (ap (λ events. levels_after_all true (Groups number ∷ events))
    (append_assoc later (ClearInit ∷ before) (event ∷ earlier)))
    ∙ comes_back true number event earlier (later ++ ClearInit ∷ before) goes below more

-- of a node that is on an error in an own frame alone makes it go off: a missing acknowledgement counts below 128 only
table_leads_off : (event : BusEvent) (l : Levels) → l.tec < off_limit → off_limit ≤ (by_table event l).tec → event ≡ SendFault
table_leads_off SendFault l on off = refl
table_leads_off Sent l on off = absurd (omega arith)
table_leads_off Received l on off = absurd (omega arith)
table_leads_off ReceiveFault l on off = absurd (omega arith)
table_leads_off SendNoAck l on off =
    elim (cases_Bool (reaches passive_limit l)) [
      | inl passive ↦
          let stays : by_table SendNoAck l ≡ l = rw passive refl in
          absurd (omega (arith, ap (λ levels. levels.tec) stays))
      | inr active ↦
          let more : (by_table SendNoAck l).tec ≡ l.tec + send_fault_step = rw active refl in
          let parts = or_parts (nat_le passive_limit l.tec) (nat_le passive_limit l.rec) active in
          absurd (omega (arith, more, leb-false passive_limit l.tec parts.0))
    ]

leads_off : (event : NodeEvent) (life : List NodeEvent)
    → is_off (levels_of life) ≡ false → is_off (levels_of (event ∷ life)) ≡ true → event ≡ Bus SendFault
unfolding levels_of
leads_off (Groups _) life on off = cc
leads_off ClearInit life on off = cc
leads_off (Bus event) life on off =
    let l = levels_of life in
    let after : nat_le off_limit (by_table event l).tec ≡ true = rw on at off in
    ap Bus (table_leads_off event l (leb-false off_limit l.tec on) (leb-true off_limit (by_table event l).tec after))

pub leads_off_law : OnlySendFaultsLeadOff
unfolding life_of
leads_off_law host event earlier goes =
    let same : life_of host (event ∷ earlier) ≡ event ∷ life_of host earlier = rw (goes_on host event earlier goes) refl in
    leads_off event (life_of host earlier) goes.on_before (sym (ap (λ l. is_off (levels_of l)) same) ∙ goes.off_after)

on_as_it_opens : (host : Bool) → is_off (levels_after_all host []) ≡ false
unfolding life_of levels_of
on_as_it_opens host = refl

pub quiet_law : OnWithoutSendFaults
quiet_law host [] none = on_as_it_opens host
quiet_law host (event ∷ events) none =
    let before : is_off (levels_after_all host events) ≡ false =
    quiet_law host events (λ fault. none (Contains-append_right (event ∷ []) events (Bus SendFault) fault)) in
    elim (cases_Bool (is_off (levels_after_all host (event ∷ events)))) [
      | inr on ↦ on
      | inl off ↦
          let fault : event ≡ Bus SendFault = leads_off_law host event events record { on_before = before; off_after = off } in
          absurd (none (Contains-append_left (event ∷ []) events (Bus SendFault) (rw fault (Contains-push [] (Bus SendFault)))))
    ]
