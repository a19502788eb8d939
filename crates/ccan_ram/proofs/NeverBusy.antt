-- Each lost try has a change of another port of its own.
use Rattle.std.proofs.Common.{ℕ, zero, suc, ◌≡◌, ◌≤◌, ◌+◌, ◌*◌, Bool, true, false, ◌&&◌, ◌||◌, not, cond, List, [], ◌∷◌, ◌++◌}
use Rattle.std.proofs.Common.{refl, ap, ◌∙◌, arith, Ok, Err}
use Rattle.ccan_ram.specs.declared.port.PortName.{PortName}
use Rattle.ccan_ram.specs.declared.port.PortName.TheVariants.{If1, If2, Bus}
use Rattle.ccan_ram.specs.declared.change.Change.{Change}
use Rattle.ccan_ram.specs.declared.change.Refused.TheVariants.{Busy, Spent}
use Rattle.ccan_ram.specs.declared.event.Event.{Event}
use Rattle.ccan_ram.specs.Port.{same_port}
use Rattle.ccan_ram.specs.History.{is_change, events_of, changes_by}
use Rattle.ccan_ram.specs.Terms.{Terms}
use Rattle.ccan_ram.specs.Attempt.{SomeContends, LostTries}
use Rattle.ccan_ram.specs.Access.{Goes}
use Rattle.ccan_ram.specs.Laws.{contending, LostTriesHaveChanges, ManyTriesAreNeverBusy}
use Rattle.ccan_ram.specs.SharedRam.{Pass, CanSee, passes_of}
use Rattle.ccan_ram.proofs.Histories.{changes_by-append}
use Rattle.ccan_ram.proofs.Attempts.{changes_by-lost, SoFar}

-- ---- the changes of others that contend

counted_more : (counts : Bool) (n a b : ℕ) → n ≡ a + b → cond counts (n + 1) n ≡ cond counts (a + 1) a + b
counted_more true n a b h = omega arith
counted_more false n a b h = h

contending-append : (terms : Terms) (object : ℕ) (xs ys : List Event)
    → contending terms object (xs ++ ys) ≡ contending terms object xs + contending terms object ys
contending-append terms object [] ys = omega arith
contending-append terms object (event ∷ xs) ys = counted_more _ _ _ _ (contending-append terms object xs ys)

-- among events of others, one that contends is counted
one_counts : (change contends mine rest : Bool) (event : Event) (own : List Event) (n : ℕ) → cond mine (event ∷ own) own ≡ []
    → ((change && contends) || rest) ≡ true → (own ≡ [] → rest ≡ true → 1 ≤ n)
    → 1 ≤ cond (change && (contends && not mine)) (n + 1) n
one_counts change contends true rest event own n none some more = absurd (let k : event ∷ own ≡ [] = none in cc)
one_counts true true false rest event own n none some more = omega arith
one_counts true false false rest event own n none some more = more none some
one_counts false contends false rest event own n none some more = more none some

some_counts : (terms : Terms) (object : ℕ) (events : List Event) → events_of terms.port events ≡ []
    → SomeContends terms object events
    → 1 ≤ contending terms object events
some_counts terms object [] none some = absurd cc
some_counts terms object (event ∷ events) none some =
    one_counts (is_change event) (terms.contends event.object object) (same_port event.port terms.port) _ event _ _ none some
    (some_counts terms object events)

pub lost_tries_have_changes : LostTriesHaveChanges
lost_tries_have_changes terms object change zero added h = omega arith
lost_tries_have_changes terms object change (suc n) added (last, earlier, whole, try, lose) =
    let first = lost_tries_have_changes terms object change n earlier lose in
    let some = some_counts terms object try.others try.foreign.not_own try.contended in
    let parts = ap (contending terms object) try.whole ∙ contending-append terms object try.others try.looked in
    let all = ap (contending terms object) whole ∙ contending-append terms object last earlier in
    omega arith

-- ---- no more of them than the two others may make

total : List Event → ℕ
total events = changes_by If1 events + (changes_by If2 events + changes_by Bus events)

one_in_total : (change contends foreign : Bool) (port : PortName) (n a b c : ℕ) → n ≤ a + (b + c)
    → cond (change && (contends && foreign)) (n + 1) n
    ≤ cond (change && same_port port If1) (a + 1) a +
    (cond (change && same_port port If2) (b + 1) b + cond (change && same_port port Bus) (c + 1) c)
one_in_total false contends foreign port n a b c h = h
one_in_total true true true If1 n a b c h = omega arith
one_in_total true true true If2 n a b c h = omega arith
one_in_total true true true Bus n a b c h = omega arith
one_in_total true true false If1 n a b c h = omega arith
one_in_total true true false If2 n a b c h = omega arith
one_in_total true true false Bus n a b c h = omega arith
one_in_total true false foreign If1 n a b c h = omega arith
one_in_total true false foreign If2 n a b c h = omega arith
one_in_total true false foreign Bus n a b c h = omega arith

contending-total : (terms : Terms) (object : ℕ) (events : List Event) → contending terms object events ≤ total events
unfolding total
contending-total terms object [] = omega arith
contending-total terms object (event ∷ events) =
    one_in_total (is_change event) (terms.contends event.object object) (not (same_port event.port terms.port)) event.port _ _ _ _
    (contending-total terms object events)

by_port : (port : PortName) (quota : ℕ) (seen added : List Event) → ((p : PortName) → changes_by p (added ++ seen) ≤ quota)
    → changes_by port added ≡ 0 → total added ≤ 2 * quota
unfolding total
by_port If1 quota seen added within none =
    omega (arith, within If2, within Bus, changes_by-append If2 added seen, changes_by-append Bus added seen)
by_port If2 quota seen added within none =
    omega (arith, within If1, within Bus, changes_by-append If1 added seen, changes_by-append Bus added seen)
by_port Bus quota seen added within none =
    omega (arith, within If1, within If2, changes_by-append If1 added seen, changes_by-append If2 added seen)

-- so many tries were lost, and no more
few_lost : (terms : Terms) (object : ℕ) (change : Change) (n : ℕ) (seen added : List Event)
    → ((p : PortName) → changes_by p (added ++ seen) ≤ terms.quota) → LostTries terms object change n added → n ≤ 2 * terms.quota
few_lost terms object change n seen added within lose =
    let some = lost_tries_have_changes terms object change n added lose in
    let all = contending-total terms object added in
    let most = by_port terms.port terms.quota seen added within (changes_by-lost terms object change n added lose) in
    omega arith

pub many_tries_are_never_busy : ManyTriesAreNeverBusy
many_tries_are_never_busy terms object change tries seen added (Ok changed) within h = tt
many_tries_are_never_busy terms object change tries seen added (Err Spent) within h = tt
many_tries_are_never_busy terms object change tries seen added (Err (Busy told now)) within h =
    few_lost terms object change tries seen added within h.lose

-- the same of a port of a shared memory that has lost so many tries
pub few_so_far : (contends : ℕ → ℕ → Bool) (old new : Pass) (object : ℕ) (change : Change) (n last : ℕ) → CanSee old
    → Goes (passes_of contends old) (passes_of contends new) (λ terms seen added. SoFar object change n last terms seen added)
    → n ≤ 2 * old.memory.quota
few_so_far contends old new object change n last here goes =
    let a = goes.each old.seen (refl, here) in
    let same : new.memory.quota ≡ old.memory.quota = ap (λ (t : Terms). t.quota) goes.same in
    few_lost (passes_of contends old).terms object change n old.seen a.0 (λ p. let w = a.1.1.within p in omega arith) a.2.lose
