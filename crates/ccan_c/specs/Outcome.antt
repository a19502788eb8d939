-- How C sees what came of a round. Source: this project's own, over the definitions of a round's steps.
use Rattle.std.specs.Prelude.{ℕ, Bool, true, false, Option, Some, None, Result, Ok, Err, replicate, if◌then◌else◌}
use Rattle.ccan_object.specs.declared.record.Record.{Record}
use Rattle.ccan_object.specs.Record.{zero_record}
use Rattle.ccan_accept.specs.declared.frame.Frame.{Frame}
use Rattle.ccan_bus.specs.declared.answer.LoadAnswer.{LoadAnswer}
use Rattle.ccan_bus.specs.declared.answer.LoadAnswer.TheVariants as load
use Rattle.ccan_bus.specs.declared.answer.RoundAnswer.{RoundAnswer}
use Rattle.ccan_bus.specs.declared.answer.RoundAnswer.TheVariants as round
use Rattle.ccan_bus.specs.declared.decision.Decision.{Decision}
use Rattle.ccan_bus.specs.declared.memory_step.MemoryStep.{MemoryStep}
use Rattle.ccan_bus.specs.declared.memory_step.MemoryStep.TheVariants.{Start, Finish, Store}
use Rattle.ccan_bus.specs.Decision.{winner_of}
use Rattle.ccan_chip.specs.declared.chip_report.ChipReport.{ChipReport}
use Rattle.ccan_endless.specs.declared.controller_changed.ControllerBusy.{ControllerBusy}
use Rattle.ccan_endless.specs.declared.controller_changed.ControllerChanged.{ControllerChanged}
use Rattle.ccan_line.specs.declared.line_answer.LineAnswer.TheVariants as answer
use Rattle.ccan_c.specs.declared.shown_frame.ShownFrame.{ShownFrame}
use Rattle.ccan_c.specs.declared.shown_outcome.ShownOutcome.{ShownOutcome}
use Rattle.ccan_c.specs.Answer.{code_of}
use Rattle.ccan_c.specs.Codes.{busy}
use Rattle.ccan_c.specs.Host.{number_of}
use Rattle.ccan_c.specs.Record.{c_record}

-- ---- the end of the round

-- the object that stored a frame, 0 if there is none
abbrev pub stored_object : Option (ℕ × Record) → ℕ
stored_object None = 0
stored_object (Some stored) = stored.0

abbrev pub stored_record : Option (ℕ × Record) → Record
stored_record None = zero_record
stored_record (Some stored) = stored.1

-- which kind of answer it is, the object that was sent or at which a step was given up, and its record if it was finished
abbrev pub kind_of : RoundAnswer → ℕ
kind_of round.Idle = 0
kind_of (round.Sent object finished) = 1
kind_of (round.Received stored) = 2
kind_of round.Passed = 3
kind_of round.Collision = 4
kind_of round.NoAck = 5
kind_of round.Fault = 6
kind_of (round.Looped object finished stored) = 7
kind_of (round.Busy object) = 8
kind_of (round.Spent object) = 9

abbrev pub object_of : RoundAnswer → ℕ
object_of (round.Sent object finished) = object
object_of (round.Looped object finished stored) = object
object_of (round.Busy object) = object
object_of (round.Spent object) = object
object_of reply = 0

abbrev pub finished_of : RoundAnswer → Record
finished_of (round.Sent object finished) = finished
finished_of (round.Looped object finished stored) = finished
finished_of reply = zero_record

-- the object that stored the frame, with its record
abbrev pub stored_of : RoundAnswer → Option (ℕ × Record)
stored_of (round.Received stored) = stored
stored_of (round.Looped object finished stored) = stored
stored_of reply = None

-- ---- its steps

-- the object that this round itself loaded, 0 if it loaded none
abbrev pub loaded_by : LoadAnswer → ℕ
loaded_by (load.Loaded object started) = object
loaded_by loading = 0

-- the step that was refused: the start of the load, the finish or the store
abbrev pub step_number : Option MemoryStep → ℕ
step_number None = 0
step_number (Some Start) = 1
step_number (Some Finish) = 2
step_number (Some Store) = 3

-- ---- the frame that was on the bus

-- the node and the frame that won the bus; there is none if the load was refused
abbrev pub winner_in : Option Decision → Option (ℕ × Frame)
winner_in None = None
winner_in (Some decided) = winner_of decided

-- the number that stands for no node
abbrev pub no_node : ℕ
no_node = 255

abbrev pub node_shown : Option (ℕ × Frame) → ℕ
node_shown None = no_node
node_shown (Some won) = won.0

-- a frame, whose switches are 1 if they are on
abbrev pub c_frame : Frame → ShownFrame
c_frame frame =
    record {
      id = frame.id;
      xtd = number_of frame.xtd;
      rtr = number_of frame.rtr;
      dlc = frame.dlc;
      bytes = frame.bytes;
    }

-- no frame, which C sees as zero
abbrev pub no_frame : ShownFrame
no_frame = record { id = 0; xtd = 0; rtr = 0; dlc = 0; bytes = replicate 8 0 }

abbrev pub frame_shown : Option (ℕ × Frame) → ShownFrame
frame_shown None = no_frame
frame_shown (Some won) = c_frame won.1

-- ---- what it was to the controller

-- the event of the round was to be made at the controller, and each try was lost
abbrev pub is_lost : Option (Result ControllerChanged ControllerBusy) → Bool
is_lost None = false
is_lost (Some (Ok made)) = false
is_lost (Some (Err lost)) = true

-- what was refused: the event at the controller, or else a step of the message RAM
abbrev pub refused_number : ChipReport → ℕ
refused_number told = if is_lost told.noted then 4 else step_number told.report.end.refused

-- the code of the call: busy, too, if the event at the controller was given up
abbrev pub code_of_round : ChipReport → ℕ
code_of_round told = if is_lost told.noted then busy else code_of (answer.Round told.report.end.answer)

-- ---- the whole

abbrev pub c_outcome : ChipReport → ShownOutcome
c_outcome told =
    let report = told.report in
    let reply = report.end.answer in
    let won = winner_in report.decision in
    record {
      kind = kind_of reply;
      object = object_of reply;
      finished = c_record (finished_of reply);
      stored = stored_object (stored_of reply);
      stored_record = c_record (stored_record (stored_of reply));
      loaded = loaded_by report.loading;
      refused = refused_number told;
      winner = node_shown won;
      frame = frame_shown won;
    }
