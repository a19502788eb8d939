-- What one event makes of the counters after a list.
use Rattle.std.proofs.Common.{◌≡◌, ℕ, ◌+◌, Bool, true, false, ◌&&◌, ◌||◌, not, cond, nat_le, List, [], ◌∷◌, refl, sym, ap}
use Rattle.std.proofs.Common.{◌∙◌, inl, inr, zero-add}
use Rattle.std.proofs.lemmas.Bool.{cases_Bool, or_parts}
use Rattle.std.proofs.lemmas.List.Sums.{sum_by-cons}
use Rattle.ccan_confine.specs.Counters.{Levels, is_off, levels_after, NodeEvent, Bus, Groups, ClearInit, groups_of, groups_in}
use Rattle.ccan_confine.specs.Counters.{clears_init, is_clearing, levels_of, since_off, since_clearing, counted}
use Rattle.ccan_confine.specs.Counters.{groups_to_return, is_back, life_of, Counts, counts_in_life, counts_of, new_counts}
use Rattle.ccan_confine.specs.Counters.{faults_to_off, is_recovering}

-- what an event makes of the levels of a life
abbrev pub levels_by : NodeEvent → Levels → Levels
levels_by (Bus event) levels = levels_after event levels
levels_by (Groups _) levels = levels
levels_by ClearInit levels = levels

-- the counters as an event leaves them, before it is asked whether the node is back
abbrev pub with_event : NodeEvent → Counts → Counts
with_event event counts =
    record {
      host = counts.host;
      levels = levels_by event counts.levels;
      init_cleared = counts.init_cleared || (is_clearing event && (counts.host && is_off counts.levels));
      groups = cond (is_recovering counts) (groups_of event) 0 + counts.groups;
    }

-- a node that is off keeps its levels
pub levels-off : (event : NodeEvent) (life : List NodeEvent)
    → is_off (levels_of life) ≡ true → levels_of (event ∷ life) ≡ levels_of life
unfolding levels_of
levels-off (Bus event) life off = rw off refl
levels-off (Groups _) life off = refl
levels-off ClearInit life off = refl

-- a node that is on has no events since it went off
pub since_off-on : (life : List NodeEvent) → is_off (levels_of life) ≡ false → since_off life ≡ []
unfolding since_off
since_off-on [] on = refl
since_off-on (event ∷ life) on =
    elim (cases_Bool (is_off (levels_of life))) [
      | inl off ↦ absurd (
          let same : is_off (levels_of (event ∷ life)) ≡ is_off (levels_of life) = ap is_off (levels-off event life off) in
          cc)
      | inr before ↦ rw before refl
    ]

-- where Init wasn't cleared nothing counts
pub since_clearing-none : (since : List NodeEvent) → clears_init since ≡ false → since_clearing since ≡ []
unfolding since_clearing
since_clearing-none [] none = refl
since_clearing-none (event ∷ since) none =
    let rest : clears_init since ≡ false = (or_parts (is_clearing event) (clears_init since) none).1 in
    rw rest refl

-- an event adds its groups to those that count, where groups count
pub groups-more : (host : Bool) (event : NodeEvent) (since : List NodeEvent)
    → groups_in (cond host (since_clearing (event ∷ since)) (event ∷ since))
    ≡ cond (not host || clears_init since) (groups_of event) 0 + groups_in (cond host (since_clearing since) since)
unfolding since_clearing
groups-more false event since = sum_by-cons groups_of event since
groups-more true event since =
    elim (cases_Bool (clears_init since)) [
      | inl cleared ↦ rw cleared (sum_by-cons groups_of event (since_clearing since))
      | inr none ↦ rw (none, since_clearing-none since none) refl
    ]

-- values with the same parts are the same
pub same_counts : (k k' : Counts) → k.host ≡ k'.host → k.levels ≡ k'.levels → k.init_cleared ≡ k'.init_cleared
    → k.groups ≡ k'.groups → k ≡ k'
same_counts k k' host levels init groups =
    let made : Bool → Levels → Bool → ℕ → Counts =
    λ h l i g. record { host = h; levels = l; init_cleared = i; groups = g } in
    let same : made k.host k.levels k.init_cleared k.groups ≡ made k'.host k'.levels k'.init_cleared k'.groups =
    rw (host, levels, init, groups) refl in
    same

pub levels-more : (event : NodeEvent) (life : List NodeEvent) → levels_of (event ∷ life) ≡ levels_by event (levels_of life)
unfolding levels_of
levels-more (Bus event) life = refl
levels-more (Groups _) life = refl
levels-more ClearInit life = refl

-- Init, of a node that is off
pub init-off : (host clearing cleared off : Bool) → off ≡ true
    → (host && (clearing || cleared)) ≡ ((host && cleared) || (clearing && (host && off)))
init-off false false cleared off e = refl
init-off false true cleared off e = refl
init-off true false cleared off e = elim cleared as (λ b. b ≡ (b || false)) [ true ↦ refl | false ↦ refl ]
init-off true true cleared off e = rw e (elim cleared as (λ b. true ≡ (b || true)) [ true ↦ refl | false ↦ refl ])

-- and of one that is on
pub init-on : (host clearing off : Bool) → off ≡ false
    → (host && false) ≡ ((host && false) || (clearing && (host && off)))
init-on false false off e = refl
init-on false true off e = refl
init-on true false off e = refl
init-on true true off e = rw e refl

pub recovers-off : (host cleared off : Bool) → off ≡ true
    → (off && (not host || (host && cleared))) ≡ (not host || cleared)
recovers-off false cleared off e = rw e refl
recovers-off true cleared off e = rw e refl

-- the groups that count, in the part of a life since the node went off
abbrev pub groups_since : Bool → List NodeEvent → ℕ
groups_since host since = groups_in (cond host (since_clearing since) since)

-- an event adds its groups to those of a life, where the node is off
groups-off : (host : Bool) (event : NodeEvent) (life : List NodeEvent) → is_off (levels_of life) ≡ true
    → since_off (event ∷ life) ≡ event ∷ since_off life
    → groups_in (counted host (event ∷ life)) ≡ (with_event event (counts_in_life host life)).groups
groups-off host event life off since =
    let cleared : Bool = clears_init (since_off life) in
    ap (groups_since host) since
    ∙ (groups-more host event (since_off life)
    ∙ ap (λ b. cond b (groups_of event) 0 + groups_since host (since_off life)) (sym (recovers-off host cleared _ off)))

-- and none where it is on
groups-on : (host : Bool) (event : NodeEvent) (life : List NodeEvent) → is_off (levels_of life) ≡ false
    → since_off (event ∷ life) ≡ since_off life
    → groups_in (counted host (event ∷ life)) ≡ (with_event event (counts_in_life host life)).groups
groups-on host event life on since =
    let cleared : Bool = not host || (host && clears_init (since_off life)) in
    ap (groups_since host) since
    ∙ (sym (zero-add (groups_in (counted host life)))
    ∙ ap (λ b. cond (b && cleared) (groups_of event) 0 + groups_in (counted host life)) (sym on))

-- Init after an event, where the node is on
init-since : (host : Bool) (event : NodeEvent) (life : List NodeEvent) → is_off (levels_of life) ≡ false
    → since_off (event ∷ life) ≡ [] → since_off life ≡ []
    → (host && clears_init (since_off (event ∷ life)))
    ≡ ((host && clears_init (since_off life)) || (is_clearing event && (host && is_off (levels_of life))))
init-since host event life on since before =
    let off : Bool = is_off (levels_of life) in
    ap (λ s. host && clears_init s) since
    ∙ (init-on host (is_clearing event) off on
    ∙ ap (λ s. (host && clears_init s) || (is_clearing event && (host && off))) (sym before))

-- the counters of a life with an event added
pub life-more : (host : Bool) (event : NodeEvent) (life : List NodeEvent)
    → counts_in_life host (event ∷ life) ≡ with_event event (counts_in_life host life)
unfolding since_off
life-more host event life =
    elim (cases_Bool (is_off (levels_of life))) [
      | inl off ↦
          let since : since_off (event ∷ life) ≡ event ∷ since_off life = rw off refl in
          same_counts _ _ refl (levels-more event life)
          (ap (λ s. host && clears_init s) since ∙ init-off host (is_clearing event) (clears_init (since_off life)) _ off)
          (groups-off host event life off since)
      | inr on ↦
          let since : since_off (event ∷ life) ≡ [] = rw on refl in
          let before : since_off life ≡ [] = since_off-on life on in
          same_counts _ _ refl (levels-more event life)
          (init-since host event life on since before)
          (groups-on host event life on (since ∙ sym before))
    ]

-- no life of a list is over
pub is_back-none : (host : Bool) → is_back host [] ≡ false
unfolding since_off since_clearing
is_back-none true = refl
is_back-none false = refl

pub is_back-life : (host : Bool) (events : List NodeEvent) → is_back host (life_of host events) ≡ false
unfolding life_of
is_back-life host [] = is_back-none host
is_back-life host (event ∷ events) =
    elim (cases_Bool (is_back host (event ∷ life_of host events))) [
      | inl back ↦ rw back (is_back-none host)
      | inr there ↦ rw there there
    ]

-- the counters of a node as it was opened
pub counts-none : (host : Bool) → counts_of host [] ≡ new_counts host
unfolding counts_of life_of since_off since_clearing levels_of
counts-none true = refl
counts-none false = refl

-- a new controller after the faults that lead it off
pub counts-off : record { host = true; levels = record { tec = 256; rec = 0 }; init_cleared = false; groups = 0 }
    ≡ counts_of true faults_to_off
unfolding counts_of life_of since_off since_clearing levels_of
counts-off = refl

-- the counters after a list with an event added, where that brings the node back, and where it doesn't
pub counts-back : (host : Bool) (event : NodeEvent) (events : List NodeEvent)
    → nat_le groups_to_return (with_event event (counts_of host events)).groups ≡ true
    → counts_of host (event ∷ events) ≡ new_counts host
unfolding counts_of life_of
counts-back host event events back =
    let over : is_back host (event ∷ life_of host events) ≡ true =
    ap (λ c. nat_le groups_to_return c.groups) (life-more host event (life_of host events)) ∙ back in
    rw over (counts-none host)

pub counts-there : (host : Bool) (event : NodeEvent) (events : List NodeEvent)
    → nat_le groups_to_return (with_event event (counts_of host events)).groups ≡ false
    → counts_of host (event ∷ events) ≡ with_event event (counts_of host events)
unfolding counts_of life_of
counts-there host event events there =
    let more = life-more host event (life_of host events) in
    let lives : is_back host (event ∷ life_of host events) ≡ false = ap (λ c. nat_le groups_to_return c.groups) more ∙ there in
    rw lives more

-- what counts so far doesn't bring the node back
pub groups-below : (host : Bool) (events : List NodeEvent) → nat_le groups_to_return (counts_of host events).groups ≡ false
unfolding counts_of
groups-below host events = is_back-life host events
