-- The answer of a line at the controller: no step shows it, and none makes it.
use Rattle.std.proofs.Common.{◌≡◌, List, []}
use Rattle.ccan_object.specs.declared.profile.Profile.{Profile}
use Rattle.ccan_ram.specs.declared.event.Event.{Event}
use Rattle.ccan_ram.specs.declared.port.PortName.TheVariants.{Bus}
use Rattle.ccan_bus.specs.Past.{BusPast}
use Rattle.ccan_line.specs.declared.bus_line.BusLine.{BusLine}
use Rattle.ccan_line.specs.declared.controller_line.ControllerLine.{ControllerLine}
use Rattle.ccan_line.specs.declared.controller_line.ControllerLine.TheVariants.{Status}
use Rattle.ccan_line.specs.ControllerLine.{controller_end}
use Rattle.ccan_run.specs.Answered.{IsBusPart, changes_in}

module _ (profile : Profile) (of : BusLine) (before events : List Event) (none : changes_in Bus events ≡ []) where
  pub quiet_part : (line : ControllerLine) (past : BusPast) → IsBusPart profile of (controller_end line past).0 before events
  quiet_part Status past = record { shown = tt; changes = none }
  quiet_part other past = record { shown = tt; changes = none }
