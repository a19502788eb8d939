-- A call on the handle of a host before it is answered. Source: this project's own.
use Rattle.std.specs.Prelude.{ℕ, Option}
use Rattle.ccan_endless.specs.Note.{Told}
use Rattle.ccan_c.specs.HostCall.{HostCall, code_got}
use Rattle.ccan_c.specs.HostCall as host
use Rattle.ccan_calls.specs.Answer.{Place, NoPlace, NumberAt, RecordAt, NoteAt}

-- what C passes
pub data HostAsk : Type 0 where
  set : (number value : ℕ) → HostAsk
  get : (number : ℕ) → HostAsk
  request : (number : ℕ) → HostAsk
  flags : (number : ℕ) → HostAsk
  interrupt : HostAsk
  peek : (object : ℕ) → HostAsk
  until : (object number turns : ℕ) → HostAsk
  read8 : (offset : ℕ) → HostAsk
  write8 : (offset value : ℕ) → HostAsk
  read16 : (offset : ℕ) → HostAsk
  write16 : (offset value : ℕ) → HostAsk
  read32 : (offset : ℕ) → HostAsk
  write32 : (offset value : ℕ) → HostAsk
  line : HostAsk
  clear : HostAsk
  tell : HostAsk
  -- with the note as the call found it
  heed : (note : Option Told) → HostAsk

-- what was asked by a call
abbrev pub asked_by : HostCall → HostAsk
asked_by (host.set number value result) = set number value
asked_by (host.get number result out) = get number
asked_by (host.request number result) = request number
asked_by (host.flags number result out) = flags number
asked_by (host.interrupt result out) = interrupt
asked_by (host.peek object result out) = peek object
asked_by (host.until object number turns result out) = until object number turns
asked_by (host.read8 offset result out) = read8 offset
asked_by (host.write8 offset value result) = write8 offset value
asked_by (host.read16 offset result out) = read16 offset
asked_by (host.write16 offset value result) = write16 offset value
asked_by (host.read32 offset result out) = read32 offset
asked_by (host.write32 offset value result) = write32 offset value
asked_by (host.line result out) = line
asked_by (host.clear result) = clear
asked_by (host.tell _ result) = tell
asked_by (host.heed note result) = heed note

-- what stands in the place for the result after a call, or in the note
abbrev pub place_of : HostCall → Place
place_of (host.get number result out) = NumberAt out
place_of (host.flags number result out) = NumberAt out
place_of (host.interrupt result out) = NumberAt out
place_of (host.peek object result out) = RecordAt out
place_of (host.until object number turns result out) = NumberAt out
place_of (host.read8 offset result out) = NumberAt out
place_of (host.read16 offset result out) = NumberAt out
place_of (host.read32 offset result out) = NumberAt out
place_of (host.line result out) = NumberAt out
place_of (host.tell note result) = NoteAt note
place_of call = NoPlace
