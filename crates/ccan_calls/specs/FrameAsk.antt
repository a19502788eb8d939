-- A call on the bus's handle by which a chip takes part in a frame on a bus of several, or powers down in between, before it is
-- answered. Source: this project's own.
use Rattle.std.specs.Prelude.{ℕ}
use Rattle.ccan_c.specs.declared.shown_finished.ShownFinished.{ShownFinished}
use Rattle.ccan_c.specs.declared.shown_wire.ShownWire.{ShownWire}
use Rattle.ccan_c.specs.FrameCall.{FrameCall}
use Rattle.ccan_c.specs.FrameCall as frame
use Rattle.ccan_calls.specs.Answer.{FinishedAt, MemberAt, NoPlace, NumberAt, Place}

-- what C passes
pub data FrameAsk : Type 0 where
  begin : FrameAsk
  stay : FrameAsk
  finish : (on : ShownWire) → (place fault : ℕ) → FrameAsk
  retry : (lost : ShownFinished) → FrameAsk
  power_down : FrameAsk

-- what was asked by a call
abbrev pub asked_of : FrameCall → FrameAsk
asked_of (frame.begin result out) = begin
asked_of (frame.stay result out) = stay
asked_of (frame.finish on place fault result out) = finish on place fault
asked_of (frame.retry lost result) = retry lost
asked_of (frame.power_down result out) = power_down

-- what stands in the place for the result after it
abbrev pub place_after : FrameCall → Place
place_after (frame.begin result out) = MemberAt out
place_after (frame.stay result out) = MemberAt out
place_after (frame.finish on place fault result out) = FinishedAt out
place_after (frame.retry lost result) = NoPlace
place_after (frame.power_down result out) = NumberAt out
