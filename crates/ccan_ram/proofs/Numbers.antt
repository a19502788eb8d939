-- The numbers under which changes stand in a history. A number names its port and count, and a port's next number is above
-- all that it used: so no number comes twice.
use Rattle.std.proofs.Common.{◌≡◌, ◌≢◌, ℕ, ◌+◌, ◌*◌, ◌/◌, ◌%◌, ◌≤◌, true, [], ◌∷◌, ◌++◌, sym, ap, ◌∙◌}
use Rattle.std.proofs.Common.{subst, inr, ⊎_elim, arith}
use Rattle.ccan_ram.specs.declared.port.PortName.{PortName}
use Rattle.ccan_ram.specs.Port.{port_index, change_number}
use Rattle.ccan_ram.specs.History.{History, is_change, changes_by, next_number, BeginsWith}
use Rattle.ccan_ram.specs.Sound.{Stands}
use Rattle.ccan_ram.proofs.Ports.{below_three, port_at}
use Rattle.ccan_ram.proofs.Counting.{changes_grow, changes_own}

-- numbers name their port and count
pub one_number : (p q : PortName) (c d : ℕ) → change_number p c ≡ change_number q d → (p ≡ q) × (c ≡ d)
one_number p q c d e =
    let a = below_three p in
    let b = below_three q in
    let same : (c / 65536) * 262144 + (port_index p * 65536 + c % 65536)
    ≡ (d / 65536) * 262144 + (port_index q * 65536 + d % 65536) = e in
    (port_at p q (omega arith), omega arith)

pub number_some : (p : PortName) (c : ℕ) → 1 ≤ c → change_number p c ≢ 0
number_some p c l e =
    let same : (c / 65536) * 262144 + (port_index p * 65536 + c % 65536) ≡ 0 = e in omega arith

pub next_some : (h : History) (p : PortName) → next_number p h ≢ 0
next_some h p = number_some p (changes_by p h + 1) (omega arith)

pub stands_more : (more h : History) (n : ℕ) (at : History) → Stands h n at → Stands (more ++ h) n at
stands_more [] h n at t = t
stands_more (e ∷ more) h n at t = inr (stands_more more h n at t)

pub stands_after : (g h : History) (n : ℕ) (at : History) → BeginsWith g h → Stands h n at → Stands g n at
stands_after g h n at b t = subst (λ (l : History). Stands l n at) (sym b.1) (stands_more b.0 h n at t)

-- a number that stands is of a port, and of no change that it has yet to make
pub record Numbered (h : History) (n : ℕ) : Type 0 where
  pub port : PortName
  pub count : ℕ
  pub is : n ≡ change_number port count
  pub from_one : 1 ≤ count
  pub made : count ≤ changes_by port h

pub numbered : (h : History) (n : ℕ) (at : History) → Stands h n at → Numbered h n
numbered [] n at t = absurd t
numbered (e ∷ h) n at t = ⊎_elim
    (λ (a : (is_change e ≡ true) × (next_number e.port h ≡ n) × (at ≡ e ∷ h)). let own = changes_own e h a.0 in
    record { port = e.port; count = changes_by e.port h + 1; is = sym a.1; from_one = omega arith; made = omega arith })
    (λ (a : Stands h n at). let m = numbered h n at a in let grow = changes_grow m.port e h in
    record { port = m.port; count = m.count; is = m.is; from_one = m.from_one; made = (let k = m.made in omega arith) })
    t

-- no change stands yet under the next number of a port
pub next_is_new : (h : History) (p : PortName) (at : History) → Stands h (next_number p h) at → ⊥
next_is_new h p at t =
    let m = numbered h (next_number p h) at t in
    let k = m.made in
    let same = one_number p m.port (changes_by p h + 1) m.count m.is in
    let here : changes_by m.port h ≡ changes_by p h = ap (λ (q : PortName). changes_by q h) (sym same.0) in
    let count = same.1 in
    omega arith

-- a number names one change
pub stands_one : (h : History) (n : ℕ) (at at' : History) → Stands h n at → Stands h n at' → at ≡ at'
stands_one [] n at at' t u = absurd t
stands_one (e ∷ h) n at at' t u =
    let clash : (a : History) → next_number e.port h ≡ n → Stands h n a → at ≡ at' =
    λ a is s. absurd (next_is_new h e.port a (subst (λ (k : ℕ). Stands h k a) (sym is) s)) in
    ⊎_elim
    (λ (a : (is_change e ≡ true) × (next_number e.port h ≡ n) × (at ≡ e ∷ h)). ⊎_elim
    (λ (b : (is_change e ≡ true) × (next_number e.port h ≡ n) × (at' ≡ e ∷ h)). a.2 ∙ sym b.2)
    (λ (b : Stands h n at'). clash at' a.1 b)
    u)
    (λ (a : Stands h n at). ⊎_elim
    (λ (b : (is_change e ≡ true) × (next_number e.port h ≡ n) × (at' ≡ e ∷ h)). clash at b.1 a)
    (λ (b : Stands h n at'). stands_one h n at at' a b)
    u)
    t
