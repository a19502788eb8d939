-- What the bus's side does for local power down in a D_CAN. Source: Texas Instruments AM335x Technical Reference Manual, chapter
-- DCAN, "Local Power-Down Mode": after PDR was set, the part sends all that is requested, waits for an idle bus, sets Init, and
-- shows PDA. That it is asked for by a call, at a moment when the bus is idle, is this project's own; so are its three steps: a look
-- at the controller, a look at all objects, and a change of the controller, which does nothing if PDR was cleared before it.
use Rattle.std.specs.Prelude.{ℕ, ◌≡◌, ◌==◌, Bool, false, not, ◌&&◌, MatchBool, Result, Ok, Err}
use Rattle.ccan_confine.specs.declared.controller.Controller.{Controller}
use Rattle.ccan_confine.specs.declared.controller_change.ControllerChange.TheVariants as change
use Rattle.ccan_confine.specs.Controller.{is_powered_down}
use Rattle.ccan_ram.specs.declared.flag.Flag.TheVariants.{TxRqst}
use Rattle.ccan_ram.specs.Terms.{Terms}
use Rattle.ccan_endless.specs.declared.chip.ControllerStep.TheVariants.{Look}
use Rattle.ccan_endless.specs.declared.controller_changed.ControllerBusy.{ControllerBusy}
use Rattle.ccan_endless.specs.declared.controller_changed.ControllerChanged.{ControllerChanged}
use Rattle.ccan_endless.specs.Chip.{ChipHistory}
use Rattle.ccan_registers.specs.declared.access_error.AccessError.{AccessError}
use Rattle.ccan_registers.specs.declared.access_error.AccessError.TheVariants.{Busy}
use Rattle.ccan_registers.specs.ChipSteps.{AtController, Changes, Then}
use Rattle.ccan_registers.specs.Objects.{ShowsFlags}
use Rattle.ccan_registers.specs.Register.{IsQuiet}

-- a host asks for power down, and the controller still takes part in the traffic
abbrev pub is_to_power_down : Controller → Bool
is_to_power_down c = c.control.pdr && not c.control.init

-- whether the change left the controller powered down, or the change was given up
abbrev pub power_told : Result ControllerChanged ControllerBusy → Result Bool AccessError
power_told (Ok made) = Ok (is_powered_down made.after)
power_told (Err busy) = Err Busy

-- the change by which the controller powers down
abbrev pub SetsPower : Terms → ℕ → ChipHistory → ChipHistory → Result Bool AccessError → Type 0
SetsPower terms tries seen added told =
    (outcome : Result ControllerChanged ControllerBusy) × Changes terms.port change.PowerDown tries seen added outcome
    × (told ≡ power_told outcome)

-- TxRqst of all objects in one moment: if none is set, the controller powers down; otherwise nothing more happens
abbrev pub PowersDownIdle : Terms → ℕ → ChipHistory → ChipHistory → Result Bool AccessError → Type 0
PowersDownIdle terms tries seen added told =
    (requests : ℕ) × Then (λ s a. ShowsFlags terms TxRqst s a requests)
    (λ s a. MatchBool (requests == 0) (SetsPower terms tries s a told) (IsQuiet a told false)) seen added

-- a look at the controller; if it is to power down, it does so unless a transmission is requested; otherwise the answer is whether
-- the look shows PDA, and nothing more happens
abbrev pub PowersDown : Terms → ℕ → ChipHistory → ChipHistory → Result Bool AccessError → Type 0
PowersDown terms tries seen added told =
    (found : Controller) × Then (λ s a. AtController terms.port Look found s a)
    (λ s a. MatchBool (is_to_power_down found) (PowersDownIdle terms tries s a told) (IsQuiet a told (is_powered_down found)))
    seen added
