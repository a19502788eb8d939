use Rattle.std.proofs.Common.{◌≡◌, Some, sym, subst}
use Rattle.ccan_ram.specs.ByPort.{only}
use Rattle.ccan_endless.specs.Chip.{ChipHistory}
use Rattle.ccan_endless.specs.ChipPort.{ChipPass}
use Rattle.ccan_endless.proofs.ChipPorts.{knows_chip, whole_is}
use Rattle.ccan_endless.proofs.port.Port.into_seat.Goals as goal

pub returns-clause-chip : goal.returns-clause-chip
returns-clause-chip c =
    let s = c.self.inside in
    let k = knows_chip s c.self.invariant in
    subst (λ (q : ChipPass). (h : ChipHistory) × (s.seat.chip ≡ only q.pass.port (Some h)) × (h ≡ q.whole)) c.self.view_is
    (k.whole, k.all, sym (whole_is s c.self.invariant.held k))
