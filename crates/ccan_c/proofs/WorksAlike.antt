-- A handle whose port keeps its settings works as it did.
use Rattle.std.proofs.Common.{◌≡◌, ap}
use Rattle.ccan_chip.specs.declared.port_settings.PortSettings.{PortSettings}
use Rattle.ccan_c.specs.declared.held.Held.{Held}
use Rattle.ccan_c.specs.Held.{WorksAsBefore}

pub works_alike : (old new : Held) → new.chip.settings ≡ old.chip.settings → new.nodes ≡ old.nodes → WorksAsBefore old new
works_alike old new settings nodes = record {
  tries = ap (λ (s : PortSettings). s.tries) settings;
  nodes = nodes;
  map = ap (λ (s : PortSettings). s.map) settings;
}
