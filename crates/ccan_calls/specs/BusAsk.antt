-- A call on the bus's handle before it is answered. Source: this project's own.
use Rattle.std.specs.Prelude.{ℕ, List, Option}
use Rattle.ccan_endless.specs.Note.{Told}
use Rattle.ccan_c.specs.declared.offer.Offer.{Offer}
use Rattle.ccan_c.specs.BusCall.{BusCall}
use Rattle.ccan_c.specs.BusCall as bus
use Rattle.ccan_calls.specs.Answer.{CountersAt, LoadingAt, NoPlace, NoteAt, NumberAt, OutcomeAt, Place}

-- what C passes
pub data BusAsk : Type 0 where
  load : BusAsk
  status : BusAsk
  control : (sie eie : ℕ) → BusAsk
  init : BusAsk
  loop_back : (on : ℕ) → BusAsk
  recessive : (groups : ℕ) → BusAsk
  interrupt : BusAsk
  flags : (number : ℕ) → BusAsk
  counters : (node : ℕ) → BusAsk
  round : (offers : List Offer) → (fault : ℕ) → BusAsk
  read8 : (offset : ℕ) → BusAsk
  write8 : (offset value : ℕ) → BusAsk
  read16 : (offset : ℕ) → BusAsk
  write16 : (offset value : ℕ) → BusAsk
  read32 : (offset : ℕ) → BusAsk
  write32 : (offset value : ℕ) → BusAsk
  line : BusAsk
  tell : BusAsk
  -- with the note as the call found it
  heed : (note : Option Told) → BusAsk

-- what was asked by a call
abbrev pub asked_on : BusCall → BusAsk
asked_on (bus.load result out) = load
asked_on (bus.status result out) = status
asked_on (bus.control sie eie result) = control sie eie
asked_on (bus.init result) = init
asked_on (bus.loop_back on result) = loop_back on
asked_on (bus.recessive groups result out) = recessive groups
asked_on (bus.interrupt result out) = interrupt
asked_on (bus.flags number result out) = flags number
asked_on (bus.counters node result out) = counters node
asked_on (bus.round offers fault result out) = round offers fault
asked_on (bus.read8 offset result out) = read8 offset
asked_on (bus.write8 offset value result) = write8 offset value
asked_on (bus.read16 offset result out) = read16 offset
asked_on (bus.write16 offset value result) = write16 offset value
asked_on (bus.read32 offset result out) = read32 offset
asked_on (bus.write32 offset value result) = write32 offset value
asked_on (bus.line result out) = line
asked_on (bus.tell _ result) = tell
asked_on (bus.heed note result) = heed note

-- what stands in the place for the result after such a call, or in the note
abbrev pub place_on : BusCall → Place
place_on (bus.load result out) = LoadingAt out
place_on (bus.status result out) = NumberAt out
place_on (bus.recessive groups result out) = NumberAt out
place_on (bus.interrupt result out) = NumberAt out
place_on (bus.flags number result out) = NumberAt out
place_on (bus.counters node result out) = CountersAt out
place_on (bus.round offers fault result out) = OutcomeAt out
place_on (bus.read8 offset result out) = NumberAt out
place_on (bus.read16 offset result out) = NumberAt out
place_on (bus.read32 offset result out) = NumberAt out
place_on (bus.line result out) = NumberAt out
place_on (bus.tell note result) = NoteAt note
place_on call = NoPlace
