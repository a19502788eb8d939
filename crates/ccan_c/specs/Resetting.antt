-- A chip that is reset in its place. Source: C_CAN User's Manual 1.2, "Hardware Reset Description": the registers have their
-- reset values, those of the flags of the objects among them, and the data in the message RAM is not affected. (own): the nodes
-- besides the chip go on, and what was loaded is dropped.
use Rattle.std.specs.Prelude.{ℕ, ◌≡◌, Result, Ok, Err, Some}
use Rattle.ccan_bus.specs.Bus.{LedTo}
use Rattle.ccan_bus.specs.Past.{BusPast}
use Rattle.ccan_chip.specs.Arrival.{unloaded}
use Rattle.ccan_endless.specs.ChipPort.{ChipPass}
use Rattle.ccan_registers.specs.declared.access_error.AccessError.{AccessError}
use Rattle.ccan_registers.specs.ChipSteps.{ChipGoes}
use Rattle.ccan_registers.specs.Dcan.{reset_of}
use Rattle.ccan_registers.specs.Frames.{at_rest}
use Rattle.ccan_registers.specs.InterfaceSet.{reset_set}
use Rattle.ccan_registers.specs.Resetting.{ResetsChip}
use Rattle.ccan_c.specs.declared.chip.Chip.{Chip}
use Rattle.ccan_c.specs.declared.held.Held.{Held}
use Rattle.ccan_c.specs.Chip.{AllOpen}
use Rattle.ccan_c.specs.Held.{WorksAsBefore, port_of, station_of, map_of, tries_of}
use Rattle.ccan_c.specs.HostCall.{code_of_access}
use Rattle.ccan_c.specs.Meeting.{HaveMet, MeetHeld}
use Rattle.ccan_c.specs.Steps.{Steps}

-- a host's handle, whose interface registers are those of a reset
pub record HasResetInterface (old new : Held) : Type 0 where
  pub works : WorksAsBefore old new
  pub bus : new.bus ≡ old.bus
  pub own : new.own ≡ reset_set

-- the bus's handle: nothing is loaded any more, and no frame is under way
pub record DropsLoaded (old new : Held) : Type 0 where
  pub works : WorksAsBefore old new
  pub own : new.own ≡ old.own
  pub drops : (past : BusPast) → LedTo past old.bus.bus → LedTo (unloaded past) new.bus.bus
  pub station : station_of new ≡ at_rest

-- the bus's port resets the controller and each object, and then the three ports meet
pub record IsReset (h k l h' k' l' : Held) : Type 0 where
  pub put : ChipPass
  pub goes : ChipGoes (port_of l) put (λ terms seen added. ResetsChip terms (reset_of (map_of l)) (tries_of l) seen added (Ok tt))
  pub met : HaveMet (port_of h) (port_of k) put (port_of h') (port_of k') (port_of l')
  pub if1 : HasResetInterface h h'
  pub if2 : HasResetInterface k k'
  pub bus : DropsLoaded l l'

-- a reset of three handles that have met, as it ends: if a step of it was refused, nothing else happens after that
abbrev pub ResetsMet : Held → Held → Held → Held → Held → Held → Result (Unit {0}) AccessError → Type 0
ResetsMet h k l h' k' l' (Ok done) = IsReset h k l h' k' l'
ResetsMet h k l h' k' l' (Err why) =
    (h' ≡ h) × (k' ≡ k)
    × Steps (λ terms seen added. ResetsChip terms (reset_of (map_of l)) (tries_of l) seen added (Err why)) l l'

-- first the three ports meet, so that the reset comes after all that was done before
pub record ResetsHeld (h k l h' k' l' : Held) (told : Result (Unit {0}) AccessError) : Type 0 where
  pub if1 : Held
  pub if2 : Held
  pub bus : Held
  pub meet : MeetHeld h k l if1 if2 bus
  pub resets : ResetsMet if1 if2 bus h' k' l' told

-- the same for the handles of a chip, with the code that C gets
abbrev pub Resets : Chip → Chip → ℕ → Type 0
Resets old new code =
    AllOpen old (λ h k l. AllOpen new (λ h' k' l'. (told : Result (Unit {0}) AccessError)
    × (code ≡ code_of_access (Some told)) × ResetsHeld h k l h' k' l' told))
