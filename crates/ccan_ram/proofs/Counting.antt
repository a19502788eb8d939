-- How many changes there are: each of a port's own events may be one of its changes, and an event that is a change makes one
-- more.
use Rattle.std.proofs.Common.{◌≡◌, ◌≢◌, ℕ, ◌+◌, ◌≤◌, ◌&&◌, true, false, cond, [], ◌∷◌, ◌++◌}
use Rattle.std.proofs.Common.{sym, refl, ap, ◌∙◌, subst, ⊎_elim, arith}
use Rattle.ccan_ram.specs.declared.port.PortName.{PortName}
use Rattle.ccan_ram.specs.declared.port.PortName.TheVariants.{If1, If2, Bus}
use Rattle.ccan_ram.specs.declared.event.Event.{Event}
use Rattle.ccan_ram.specs.Port.{same_port}
use Rattle.ccan_ram.specs.History.{History, is_change, events_of, changes_by, all_changes}
use Rattle.ccan_ram.proofs.Booleans.{when, second_fails, both_true, chosen, passed}
use Rattle.ccan_ram.proofs.Ports.{same_own, same_not}

-- the number of changes is that of the port's own events
changes-of : (p : PortName) (h : History) → changes_by p h ≡ changes_by p (events_of p h)
changes-of p [] = refl
changes-of p (e ∷ h) = ⊎_elim
    (λ (t : same_port e.port p ≡ true). let more : changes_by p h ≡ changes_by p (events_of p h) = changes-of p h in
    subst (λ (l : History). cond (is_change e && same_port e.port p) (changes_by p h + 1) (changes_by p h) ≡ changes_by p l)
    (sym (chosen (same_port e.port p) (e ∷ events_of p h) (events_of p h) t))
    (ap (λ (n : ℕ). cond (is_change e && same_port e.port p) (n + 1) n) more))
    (λ (f : same_port e.port p ≡ false).
    passed (is_change e && same_port e.port p) _ _ (second_fails (is_change e) (same_port e.port p) f)
    ∙ (changes-of p h ∙ ap (changes_by p) (sym (passed (same_port e.port p) (e ∷ events_of p h) (events_of p h) f))))
    (when (same_port e.port p))

pub changes_by_own : (p : PortName) (h g : History) → events_of p h ≡ events_of p g → changes_by p h ≡ changes_by p g
changes_by_own p h g e = changes-of p h ∙ (ap (changes_by p) e ∙ sym (changes-of p g))

pub changes_grow : (p : PortName) (e : Event) (h : History) → changes_by p h ≤ changes_by p (e ∷ h)
changes_grow p e h = ⊎_elim
    (λ (t : (is_change e && same_port e.port p) ≡ true).
    let is : changes_by p (e ∷ h) ≡ changes_by p h + 1 = chosen (is_change e && same_port e.port p) _ _ t in omega arith)
    (λ (f : (is_change e && same_port e.port p) ≡ false).
    let is : changes_by p (e ∷ h) ≡ changes_by p h = passed (is_change e && same_port e.port p) _ _ f in omega arith)
    (when (is_change e && same_port e.port p))

pub changes_own : (e : Event) (h : History) → is_change e ≡ true → changes_by e.port (e ∷ h) ≡ changes_by e.port h + 1
changes_own e h t = chosen (is_change e && same_port e.port e.port) _ _ (both_true (is_change e) _ t (same_own e.port))

-- an event of another port
pub of_other : (p q : PortName) (e : Event) (h : History) → e.port ≡ p → q ≢ p → events_of q (e ∷ h) ≡ events_of q h
of_other p q e h is n =
    passed (same_port e.port q) (e ∷ events_of q h) (events_of q h) (same_not e.port q (λ same. n (same ∙ is)))

-- ---- of all ports

pub all_grow : (e : Event) (h : History) → all_changes h ≤ all_changes (e ∷ h)
all_grow e h =
    let a = changes_grow If1 e h in let b = changes_grow If2 e h in let c = changes_grow Bus e h in omega arith

pub all_later : (more h : History) → all_changes h ≤ all_changes (more ++ h)
all_later [] h = let e : all_changes h ≤ all_changes h = omega arith in e
all_later (e ∷ more) h = let a = all_later more h in let b = all_grow e (more ++ h) in omega arith

-- where some port has a change more
pub one_more : (p : PortName) (h g : History) → changes_by p h + 1 ≤ changes_by p g → changes_by If1 h ≤ changes_by If1 g
    → changes_by If2 h ≤ changes_by If2 g → changes_by Bus h ≤ changes_by Bus g → all_changes h + 1 ≤ all_changes g
one_more If1 h g more a b c = omega arith
one_more If2 h g more a b c = omega arith
one_more Bus h g more a b c = omega arith

pub all_more : (e : Event) (h : History) → is_change e ≡ true → all_changes h + 1 ≤ all_changes (e ∷ h)
all_more e h t =
    let own = changes_own e h t in
    one_more e.port h (e ∷ h) (omega arith) (changes_grow If1 e h) (changes_grow If2 e h) (changes_grow Bus e h)
