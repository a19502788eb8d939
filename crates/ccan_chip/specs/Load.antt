-- A load of a chip whose controller's registers are beside its objects. Source: C_CAN User's Manual 1.2, "CAN Control Register"
-- (Init) and section 4.2 (transmission of messages). That a load looks at the controller before all else is (own).
use Rattle.std.specs.Prelude.{ℕ, ◌≡◌, List, ◌++◌}
use Rattle.ccan_ram.specs.declared.event.Event.{Event}
use Rattle.ccan_ram.specs.Terms.{Terms}
use Rattle.ccan_confine.specs.declared.controller.Controller.{Controller}
use Rattle.ccan_bus.specs.declared.answer.LoadAnswer.{LoadAnswer}
use Rattle.ccan_bus.specs.Load.{Loads}
use Rattle.ccan_bus.specs.Past.{BusPast}
use Rattle.ccan_endless.specs.ChipPort.{AddsNone, ChipPass}
use Rattle.ccan_chip.specs.Arrival.{Arrives, left_behind}
use Rattle.ccan_chip.specs.Round.{as_found, events_in}

-- A load: the port comes to the bus, and what was loaded is dropped if the controller has left it; then an object is chosen and
-- started, as the bus is with the controller that was found. After that look the port makes no step at the controller.
pub record ChipLoad (terms : Terms) (tries : ℕ) (old new : ChipPass) (past after : BusPast) (found : Controller)
    (answer : LoadAnswer) : Type 0 where
  pub looked : ChipPass
  pub first : Controller
  pub arrives : Arrives old looked first found
  pub rests : AddsNone looked new
  pub added : List Event
  pub adds : new.pass.seen ≡ added ++ looked.pass.seen
  pub loads : Loads terms tries looked.pass.seen added (as_found found (events_in looked.whole)
      (left_behind first past)) after answer
