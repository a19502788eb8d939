-- The numbers that C passes to the calls of the bus, and what the bus's handle stands for. Source: this project's own.
use Rattle.std.specs.Prelude.{ℕ, ◌==◌, Bool, true, not, Option}
use Rattle.ccan_confine.specs.declared.controller_change.ControllerChange.{ControllerChange}
use Rattle.ccan_confine.specs.declared.controller_change.ControllerChange.TheVariants as change
use Rattle.ccan_confine.specs.Controller.{no_control, no_test}
use Rattle.ccan_c.specs.declared.held.Held.{Held}
use Rattle.ccan_c.specs.declared.bus_handle.BusHandle.{BusHandle}

-- what a handle stands for
abbrev pub held_on : BusHandle → Option Held
held_on bus = bus.handle.seal.value

-- what a number of C says of a switch: 0 is off, and each other number is on
abbrev pub is_on : ℕ → Bool
is_on number = not (number == 0)

-- ---- changes of the controller that have names in C

-- SIE and EIE become these
abbrev pub enabling : Bool → Bool → ControllerChange
enabling sie eie =
    change.WriteControlBits (record no_control { sie = true; eie = true }) (record no_control { sie = sie; eie = eie })

-- Init is cleared
abbrev pub starting : ControllerChange
starting = change.WriteControlBits (record no_control { init = true }) no_control

-- test mode is on or off
abbrev pub testing : Bool → ControllerChange
testing on = change.WriteControlBits (record no_control { test = true }) (record no_control { test = on })

-- the controller receives what it sends, and the bus has it too
abbrev pub looping : ControllerChange
looping = change.WriteTest (record no_test { lback = true })
