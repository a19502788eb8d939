-- What a chip does at the start of a frame on a bus of several, at a look until its end, and at its end, as it is in the chip's
-- history. Source: this project's own, over the definitions of a chip's part in what is on the bus.
use Rattle.std.specs.Prelude.{ℕ, ◌≡◌, ◌++◌, Option, Some, None}
use Rattle.ccan_ram.specs.Terms.{Terms}
use Rattle.ccan_ram.specs.Tries.{most_tries}
use Rattle.ccan_confine.specs.declared.controller.Controller.{Controller}
use Rattle.ccan_bus.specs.Complete.{Completes}
use Rattle.ccan_endless.specs.declared.chip.ControllerStep.TheVariants.{Look}
use Rattle.ccan_endless.specs.Chip.{ChipHistory}
use Rattle.ccan_station.specs.declared.begun.Begun.{Begun}
use Rattle.ccan_station.specs.declared.ended.Ended.{Ended}
use Rattle.ccan_station.specs.declared.loaded.Loaded.{Loaded}
use Rattle.ccan_station.specs.declared.station.Station.{Station}
use Rattle.ccan_station.specs.declared.stayed.Stayed.{Stayed}
use Rattle.ccan_station.specs.Station.{Loads, due, ending, frame_won, left_by, loaded_before, may_send, member_now, member_of}
use Rattle.ccan_station.specs.Station.{role_now, sending_now, sent_as, still_loaded, still_under_way}
use Rattle.ccan_wire.specs.declared.flaw.Flaw.{Flaw}
use Rattle.ccan_wire.specs.declared.member.Member.{Member}
use Rattle.ccan_wire.specs.declared.wire.Wire.{Wire}
use Rattle.ccan_wire.specs.Event.{event_of}
use Rattle.ccan_wire.specs.Wire.{start_of}
use Rattle.ccan_registers.specs.ChipSteps.{AtController, OnObjects}
use Rattle.ccan_registers.specs.Rounds.{ArrivesOnChip, NotesEvent}

-- what a chip keeps between these: the object that it has loaded, and what it is to the frame that is under way
pub record StationState : Type 0 where
  pub loaded : Option Loaded
  pub under_way : Option Member

abbrev pub state_of : Station → StationState
state_of station = record { loaded = station.loaded; under_way = station.under_way }

-- nothing is loaded, and nothing is under way
abbrev pub at_rest : StationState
at_rest = record { loaded = None; under_way = None }

-- The start of a frame: the port comes to the bus, and what was loaded is dropped if the controller has left it; then a load, by
-- what the controller does there as the last look found it. The member that it is from there is under way.
pub record BeginsOnChip (terms : Terms) (tries : ℕ) (old : StationState) (seen added : ChipHistory) (new : StationState)
    (told : Begun) : Type 0 where
  pub looked : ChipHistory
  pub later : ChipHistory
  pub whole : added ≡ later ++ looked
  pub first : Controller
  pub arrives : ArrivesOnChip terms.port first told.found seen looked
  pub loads : OnObjects terms.port
      (λ s a. Loads (may_send (role_now told.found)) (sending_now told.found) terms tries s a (loaded_before first old.loaded)
      new.loaded told.loading)
      (looked ++ seen) later
  pub member : told.member ≡ member_of told.found new.loaded
  pub waits : new.under_way ≡ Some told.member

-- a look until its end: a controller that has left the bus keeps nothing under way and nothing loaded
pub record StaysOnChip (terms : Terms) (old : StationState) (seen added : ChipHistory) (new : StationState)
    (told : Stayed) : Type 0 where
  pub looks : AtController terms.port Look told.found seen added
  pub kept : new.under_way ≡ still_under_way told.found old.under_way
  pub held : new.loaded ≡ still_loaded told.found old.loaded
  pub member : told.member ≡ member_now new.under_way

-- Its end, for the chip at this position: a look at the controller; the steps at objects that its event calls for; and last that
-- event at the controller, which has as many tries as a change may have. Nothing is under way afterwards.
pub record EndsOnChip (terms : Terms) (tries : ℕ) (on : Wire) (place : ℕ) (flaw : Option Flaw) (old : StationState)
    (seen added : ChipHistory) (new : StationState) (told : Ended) : Type 0 where
  pub looked : ChipHistory
  pub steps : ChipHistory
  pub last : ChipHistory
  pub whole : added ≡ last ++ (steps ++ looked)
  pub looks : AtController terms.port Look told.found seen looked
  pub own : told.own ≡ event_of on place (ending (still_under_way told.found old.under_way) flaw)
  pub completes : OnObjects terms.port
      (λ s a. Completes terms (sent_as (still_loaded told.found old.loaded)) tries s a
      (due told.own (still_loaded told.found old.loaded) (frame_won (start_of on))) told.end) (looked ++ seen) steps
  pub left : new.loaded ≡ left_by told.own (still_loaded told.found old.loaded)
  pub over : new.under_way ≡ None
  pub notes : NotesEvent terms.port most_tries told.own told.noted (steps ++ (looked ++ seen)) last
