-- Ports by their places.
use native.Mathlib.Decide.{ℕ_discrete}
use mathlib.Core.Logic.{dite}
use Rattle.std.proofs.Common.{◌≡◌, ◌≢◌, ◌<◌, ◌⊎◌, true, false, sym, refl, ap, inl, inr, arith, eq-eqb, ne_eqb, lit<}
use Rattle.ccan_ram.specs.declared.port.PortName.{PortName}
use Rattle.ccan_ram.specs.declared.port.PortName.TheVariants.{If1, If2, Bus}
use Rattle.ccan_ram.specs.Port.{port_index, same_port}

pub below_three : (p : PortName) → port_index p < 3
below_three If1 = lit< tt
below_three If2 = lit< tt
below_three Bus = lit< tt

pub port_at : (p q : PortName) → port_index p ≡ port_index q → p ≡ q
port_at If1 If1 e = refl
port_at If1 If2 e = absurd (omega arith)
port_at If1 Bus e = absurd (omega arith)
port_at If2 If1 e = absurd (omega arith)
port_at If2 If2 e = refl
port_at If2 Bus e = absurd (omega arith)
port_at Bus If1 e = absurd (omega arith)
port_at Bus If2 e = absurd (omega arith)
port_at Bus Bus e = refl

pub port_discrete : (p q : PortName) → (p ≡ q) ⊎ (p ≢ q)
port_discrete p q =
    dite (ℕ_discrete (port_index p) (port_index q)) (λ e. inl (port_at p q e)) (λ n. inr (λ e. n (ap port_index e)))

pub same_own : (p : PortName) → same_port p p ≡ true
same_own p = eq-eqb (port_index p) (port_index p) refl

pub same_not : (p q : PortName) → q ≢ p → same_port p q ≡ false
same_not p q n = ne_eqb (port_index p) (port_index q) (λ e. n (sym (port_at p q e)))
