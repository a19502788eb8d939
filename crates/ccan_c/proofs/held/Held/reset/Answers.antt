use Rattle.std.proofs.Common.{ap, refl, subst}
use Rattle.ccan_confine.specs.declared.controller_change.ControllerChange.{ControllerChange}
use Rattle.ccan_registers.specs.ChipSteps.{ChipGoes}
use Rattle.ccan_chip.specs.declared.port_settings.PortSettings.{PortSettings}
use Rattle.ccan_registers.specs.Resetting.{ResetsChip}
use Rattle.ccan_c.proofs.held.Held.reset.Goals as goal

pub returns : goal.returns
returns c =
    let settings = c.reset.ensures.settings in
    record {
      kept = record {
        works = record {
          tries = ap (λ (s : PortSettings). s.tries) settings;
          nodes = refl;
          map = ap (λ (s : PortSettings). s.map) settings;
        };
        own = refl;
        bus = refl;
        station = refl;
      };
      goes =
          subst (λ (z : ControllerChange). ChipGoes c.args.self.now.chip.port c.reset.new.chip.port
          (λ terms seen added. ResetsChip terms z c.args.self.now.chip.settings.tries seen added c.reset.result)) c.reset_of.ensures.value
          c.reset.ensures.goes;
    }
