-- Laws of frames that are under way while controllers leave the bus. Source: CAN Specification 2.0, part B, section 2 (arbitration:
-- the frame that is left goes on, and no bit of it is lost) and 3.1.3 (who sends nothing is seen as six recessive bits, which break
-- the stuff rule); C_CAN User's Manual 1.2, "CAN Control Register" (Init: setting it stops all transfer of messages). That a sender
-- leaves before the end of the check sequence is (own). And laws of the start of a frame: "Disabled Automatic Retransmission"; that
-- DAR counts as it is when a transmission starts is (own).
use Rattle.std.specs.Prelude.{ℕ, ◌≡◌, ◌≢◌, true, false, Option, Some, None}
use Rattle.ccan_object.specs.declared.record.Record.{Record}
use Rattle.ccan_ram.specs.Terms.{Terms}
use Rattle.ccan_confine.specs.declared.controller.Controller.{Controller}
use Rattle.ccan_bus.specs.declared.choice.Choice.TheVariants.{AtOnce}
use Rattle.ccan_bus.specs.Complete.{Completes}
use Rattle.ccan_bus.specs.Past.{BusPast}
use Rattle.ccan_endless.specs.ChipPort.{ChipPass}
use Rattle.ccan_chip.specs.Arrival.{takes_part}
use Rattle.ccan_chip.specs.Load.{ChipLoad}
use Rattle.ccan_wire.specs.declared.flaw.Flaw.{Flaw}
use Rattle.ccan_wire.specs.declared.member.Member.{Member}
use Rattle.ccan_wire.specs.declared.role.Role.TheVariants.{Silent}
use Rattle.ccan_wire.specs.declared.start.Start.TheVariants.{Won}
use Rattle.ccan_wire.specs.declared.wire.Wire.{Wire}
use Rattle.ccan_wire.specs.declared.wire.Wire.TheVariants.{Broken}
use Rattle.ccan_wire.specs.declared.winner.Part.TheVariants.{Sender}
use Rattle.ccan_wire.specs.declared.winner.Winner.{Winner}
use Rattle.ccan_wire.specs.Event.{event_of}
use Rattle.ccan_wire.specs.Role.{role_of}
use Rattle.ccan_wire.specs.Winner.{part_of}
use Rattle.ccan_wire.specs.Wire.{Carries, Continues, start_of}
use Rattle.ccan_station.specs.declared.begun.Begun.{Begun}
use Rattle.ccan_station.specs.declared.ended.Ended.{Ended}
use Rattle.ccan_station.specs.declared.loaded.Loaded.{Loaded}
use Rattle.ccan_station.specs.Station.{Begins, Ends, due, ending, frame_won, sending_now, still_loaded, still_under_way}

-- what a look that found this controller leaves of a member that was under way, with the error that it finds by itself
abbrev pub after_look : Controller → Option Flaw → Member → Member
after_look found flaw m = ending (still_under_way found (Some m)) flaw

-- Whoever leaves while a frame is under way, and whatever errors are found: when the members that remain are asked again, the
-- frame that won at the start wins, if one of its senders remains.
abbrev pub WhoLeavesChangesNoWinner : Type 0
WhoLeavesChangesNoWinner =
    (m : ℕ → Member) (found : ℕ → Controller) (flaw : ℕ → Option Flaw) (wire later : Wire) (winner : Winner) (sender : ℕ)
    → Carries m wire → start_of wire ≡ Won winner → part_of winner sender ≡ Sender → takes_part (found sender) ≡ true
    → Carries (λ k. after_look (found k) (flaw k) (m k)) later
    → (left : Winner) × (start_of later ≡ Won left) × (left.frame ≡ winner.frame)

-- a frame whose senders have all left the bus is cut off, whatever the others do
abbrev pub FramesOfWhoLeftAreCutOff : Type 0
FramesOfWhoLeftAreCutOff =
    (m : ℕ → Member) (found : ℕ → Controller) (flaw : ℕ → Option Flaw) (wire later : Wire) (winner : Winner)
    → start_of wire ≡ Won winner → ((k : ℕ) → part_of winner k ≡ Sender → takes_part (found k) ≡ false)
    → Continues wire (λ k. after_look (found k) (flaw k) (m k)) later → later ≡ Broken winner

-- a member that has left the bus has no event, whatever is on it
abbrev pub WhoLeftHasNoEvent : Type 0
WhoLeftHasNoEvent =
    (on : Wire) (place : ℕ) (found : Controller) (flaw : Option Flaw) (m : Member) → takes_part found ≡ false
    → event_of on place (after_look found flaw m) ≡ None

-- what is loaded, as the bus of one chip has it
abbrev pub as_of_one : Option Loaded → Option (ℕ × Record)
as_of_one None = None
as_of_one (Some loaded) = Some (loaded.object, loaded.started)

-- A start of a frame is a load of the bus of one chip, and leaves the same loaded, if the controller is not silent and its DAR is
-- 0: that bus knows no silent controller, and heeds no DAR.
abbrev pub BeginsAreLoads : Type 0
BeginsAreLoads =
    (terms : Terms) (tries : ℕ) (old new : ChipPass) (past : BusPast) (loaded after : Option Loaded) (under_way : Option Member)
    (told : Begun) → past.choice ≡ AtOnce → past.loaded ≡ as_of_one loaded
    → Begins terms tries old new loaded after under_way told → role_of told.found ≢ Silent → told.found.control.dar ≡ false
    → (next : BusPast) × ChipLoad terms tries old new past next told.found told.loading × (next.loaded ≡ as_of_one after)

-- What is started at the start of a frame is finished as DAR said then, whatever a host makes of DAR until the end: the memory
-- steps of the end are those of an object that was started in that way.
abbrev pub EndsAsItBegan : Type 0
EndsAsItBegan =
    (terms : Terms) (tries : ℕ) (old new later last : ChipPass) (on : Wire) (place : ℕ) (flaw : Option Flaw) (loaded : Loaded)
    (after : Option Loaded) (under_way : Option Member) (begun : Begun) (told : Ended)
    → Begins terms tries old new None (Some loaded) under_way begun
    → (end : Ends terms tries later last on place flaw (Some loaded) after under_way told)
    → Completes terms (sending_now begun.found) tries end.looked.pass.seen end.added
    (due told.own (still_loaded told.found (Some loaded)) (frame_won (start_of on))) told.end
