-- How C sees the end of a frame at a chip on a bus of several. Source: this project's own, over the definitions of a chip's part in
-- what is on the bus.
use Rattle.std.specs.Prelude.{ℕ, ◌==◌, ◌&&◌, Option, Some, None, nat_le, if◌then◌else◌}
use Rattle.ccan_confine.specs.declared.bus_event.BusEvent.{BusEvent}
use Rattle.ccan_confine.specs.declared.bus_event.BusEvent.TheVariants as bus
use Rattle.ccan_confine.specs.declared.status_event.StatusEvent.{StatusEvent}
use Rattle.ccan_confine.specs.declared.status_event.StatusEvent.TheVariants as status
use Rattle.ccan_line.specs.declared.line_answer.LineAnswer.TheVariants as answer
use Rattle.ccan_station.specs.declared.ended.Ended.{Ended}
use Rattle.ccan_c.specs.declared.shown_finished.ShownFinished.{ShownFinished}
use Rattle.ccan_c.specs.Answer.{code_of}
use Rattle.ccan_c.specs.Codes.{busy}
use Rattle.ccan_c.specs.Outcome.{finished_of, is_lost, object_of, step_number, stored_object, stored_of, stored_record}
use Rattle.ccan_c.specs.Record.{c_record}

-- what the frame was to the chip's Status register
abbrev pub status_number : StatusEvent → ℕ
status_number status.Sent = 1
status_number status.Received = 2
status_number status.Looped = 3
status_number (status.Fault code) = 4
status_number status.Recovery = 0
status_number status.Level = 0

abbrev pub event_number : Option (BusEvent × StatusEvent) → ℕ
event_number None = 0
event_number (Some own) = status_number own.1

-- the last error code of an error, 0 of none
abbrev pub status_code : StatusEvent → ℕ
status_code (status.Fault code) = code
status_code event = 0

abbrev pub event_code : Option (BusEvent × StatusEvent) → ℕ
event_code None = 0
event_code (Some own) = status_code own.1

-- what it was to the chip's error counters
abbrev pub counted_number : BusEvent → ℕ
counted_number bus.Sent = 1
counted_number bus.Received = 2
counted_number bus.SendFault = 3
counted_number bus.SendNoAck = 4
counted_number bus.ReceiveFault = 5

abbrev pub counts_number : Option (BusEvent × StatusEvent) → ℕ
counts_number None = 0
counts_number (Some own) = counted_number own.0

-- what was refused: the event at the controller, or else a step of the message RAM
abbrev pub refused_at_end : Ended → ℕ
refused_at_end told = if is_lost told.noted then 4 else step_number told.end.refused

-- the code of the call: busy, too, if the event at the controller was given up
abbrev pub code_of_end : Ended → ℕ
code_of_end told = if is_lost told.noted then busy else code_of (answer.Round told.end.answer)

abbrev pub c_finished : Ended → ShownFinished
c_finished told =
    let reply = told.end.answer in
    record {
      event = event_number told.own;
      code = event_code told.own;
      counts = counts_number told.own;
      object = object_of reply;
      finished = c_record (finished_of reply);
      stored = stored_object (stored_of reply);
      stored_record = c_record (stored_record (stored_of reply));
      refused = refused_at_end told;
    }

-- ---- an event that was lost, as C gives it back

abbrev pub counts_in : ℕ → Option BusEvent
counts_in number =
    if number == 1 then Some bus.Sent
    else (if number == 2 then Some bus.Received
    else (if number == 3 then Some bus.SendFault
    else (if number == 4 then Some bus.SendNoAck
    else (if number == 5 then Some bus.ReceiveFault
    else None))))

abbrev pub status_in : ℕ → ℕ → Option StatusEvent
status_in number code =
    if number == 1 then Some status.Sent
    else (if number == 2 then Some status.Received
    else (if number == 3 then Some status.Looped
    else (if number == 4 && (nat_le 1 code && nat_le code 6) then Some (status.Fault code)
    else None)))

abbrev pub both : Option BusEvent → Option StatusEvent → Option (BusEvent × StatusEvent)
both (Some counted) (Some noted) = Some (counted, noted)
both (Some counted) None = None
both None noted = None

abbrev pub event_in : ShownFinished → Option (BusEvent × StatusEvent)
event_in shown = both (counts_in shown.counts) (status_in shown.event shown.code)
