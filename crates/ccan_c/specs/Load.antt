-- How C sees what came of a load. Source: (own), over the definitions of a load; the frame is that of C_CAN User's Manual 1.2,
-- section 4.2 (what a message object sends).
use Rattle.std.specs.Prelude.{ℕ, Option, Some, None}
use Rattle.ccan_object.specs.declared.record.Record.{Record}
use Rattle.ccan_object.specs.Record.{zero_record}
use Rattle.ccan_accept.specs.Send.{frame_of}
use Rattle.ccan_bus.specs.declared.answer.LoadAnswer.{LoadAnswer}
use Rattle.ccan_bus.specs.declared.answer.LoadAnswer.TheVariants as load
use Rattle.ccan_c.specs.declared.shown_frame.ShownFrame.{ShownFrame}
use Rattle.ccan_c.specs.declared.shown_load.ShownLoad.{ShownLoad}
use Rattle.ccan_c.specs.Outcome.{c_frame, no_frame}
use Rattle.ccan_c.specs.Record.{c_record}

-- which kind of answer it is, and the object that it speaks of, 0 if there is none
abbrev pub load_kind : LoadAnswer → ℕ
load_kind load.Nothing = 0
load_kind (load.Loaded object started) = 1
load_kind (load.Held object) = 2
load_kind (load.Busy object) = 3
load_kind (load.Spent object) = 4

abbrev pub load_object : LoadAnswer → ℕ
load_object load.Nothing = 0
load_object (load.Loaded object started) = object
load_object (load.Held object) = object
load_object (load.Busy object) = object
load_object (load.Spent object) = object

-- the record of the object that is loaded afterwards, and the frame that is to be sent of it; zero if nothing is loaded
abbrev pub loaded_record : Option (ℕ × Record) → Record
loaded_record None = zero_record
loaded_record (Some loaded) = loaded.1

abbrev pub loaded_frame : Option (ℕ × Record) → ShownFrame
loaded_frame None = no_frame
loaded_frame (Some loaded) = c_frame (frame_of loaded.1)

-- what came of a load, after which this is loaded
abbrev pub c_load : LoadAnswer → Option (ℕ × Record) → ShownLoad
c_load loading loaded =
    record {
      kind = load_kind loading;
      object = load_object loading;
      held = c_record (loaded_record loaded);
      frame = loaded_frame loaded;
    }
