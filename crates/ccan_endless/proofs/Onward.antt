-- A seat that goes on in the chip's history, step by step.
use Rattle.std.proofs.Common.{◌++◌, refl, ap, ◌∙◌}
use Rattle.ccan_endless.specs.Chip.{ChipHistory, GoesFrom}
use Rattle.ccan_endless.specs.ChipRule.{ChipKnows}
use Rattle.ccan_endless.specs.Seat.{GoOn}
use Rattle.ccan_endless.proofs.Lifting.{append_assoc, goes_again}

pub goes_through : (h g f : ChipHistory) → GoesFrom h g → GoesFrom g f → GoesFrom h f
goes_through h g f a b = (a.0 ++ b.0, a.1 ∙ (ap (λ (l : ChipHistory). a.0 ++ l) b.1 ∙ append_assoc a.0 b.0 f))

pub on_again : (m : ChipKnows) → GoOn m m
on_again m = record { each = λ p h e. (h, e, record { part = goes_again h; own = refl }); seated = λ s. s }

pub on_through : {m n k : ChipKnows} → GoOn m n → GoOn n k → GoOn m k
on_through a b = record {
  each = λ p h e.
      let x = a.each p h e in
      let y = b.each p x.0 x.1 in
      (y.0, y.1, record { part = goes_through y.0 x.0 h y.2.part x.2.part; own = y.2.own ∙ x.2.own });
  seated = λ s. b.seated (a.seated s);
}
