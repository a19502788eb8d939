-- The forms of the bus's lines. Source: this project's own, after the printed lines of `ccan_script`.
use Rattle.std.specs.Prelude.{ℕ, ◌||◌, Bool, List, ◌++◌, codes}
use Rattle.std.specs.List.{list_any}
use Rattle.ccan_object.specs.declared.profile.Profile.{Profile}
use Rattle.ccan_ram.specs.declared.port.PortName.TheVariants.{Bus}
use Rattle.ccan_bus.specs.declared.answer.LoadAnswer.TheVariants as load
use Rattle.ccan_line.specs.declared.bus_line.BusLine.{BusLine}
use Rattle.ccan_line.specs.declared.bus_line.BusLine.TheVariants as bus
use Rattle.ccan_line.specs.declared.controller_line.ControllerLine.{ControllerLine}
use Rattle.ccan_line.specs.declared.controller_line.ControllerLine.TheVariants as controller
use Rattle.ccan_line.specs.declared.line_answer.LineAnswer.TheVariants as answer
use Rattle.ccan_script.specs.Print.{line_text}
use Rattle.ccan_script.specs.PrintedLine.{verb_text}
use Rattle.ccan_lab.specs.Forms.{begins, flags_form, interrupt_begins, record_form, shown_form}

-- the objects that the controller sent and that stored the frame, and the record of the latter
unfoldable pub looped_form : ℕ → ℕ → List ℕ
looped_form object at = verb_text (verb_text (codes "bus looped") object) at ++ record_form

-- a load starts one of these objects, has one loaded already, gives one up, or finds none
unfoldable pub load_begins : List ℕ → ℕ → Bool
load_begins text object =
    begins text (shown_form (codes "bus loaded") object)
    || (begins text (line_text Bus (answer.Load (load.Held object)))
    || (begins text (line_text Bus (answer.Load (load.Busy object)))
    || begins text (line_text Bus (answer.Load (load.Spent object)))))

unfoldable pub loads_begin : List ℕ → List ℕ → Bool
loads_begin text objects = begins text (codes "bus loaded none\n") || list_any (load_begins text) objects

-- a round sends one of them, stores a frame in one, or gives one up
unfoldable pub sent_begins : List ℕ → ℕ → Bool
sent_begins text object =
    begins text (shown_form (codes "bus sent") object)
    || (begins text (shown_form (codes "bus received") object)
    || (begins text (line_text Bus (answer.Load (load.Busy object)))
    || begins text (line_text Bus (answer.Load (load.Spent object)))))

-- in loop back mode it sends one, and stores the frame in one or nowhere
unfoldable pub looped_begins : List ℕ → List ℕ → ℕ → Bool
looped_begins text objects object =
    begins text (verb_text (codes "bus looped") object ++ codes " none\n")
    || list_any (λ at. begins text (looped_form object at)) objects

-- a round that changes no object
unfoldable pub idle_begins : List ℕ → Bool
idle_begins text =
    begins text (codes "bus idle\n")
    || (begins text (codes "bus received none\n")
    || (begins text (codes "bus passed\n")
    || (begins text (codes "bus collision\n")
    || (begins text (codes "bus ack\n") || begins text (codes "bus fault\n")))))

-- a data frame with a standard identifier: of at most four bytes, of more, and of any number
unfoldable pub standard_short_begins : List ℕ → Bool
standard_short_begins text =
    begins text (codes "can0 ^^^=\n")
    || (begins text (codes "can0 ^^^=^^\n")
    || (begins text (codes "can0 ^^^=^^^^\n")
    || (begins text (codes "can0 ^^^=^^^^^^\n")
    || (begins text (codes "can0 ^^^=^^^^^^^^\n")))))

unfoldable pub standard_long_begins : List ℕ → Bool
standard_long_begins text =
    begins text (codes "can0 ^^^=^^^^^^^^^^\n")
    || (begins text (codes "can0 ^^^=^^^^^^^^^^^^\n")
    || (begins text (codes "can0 ^^^=^^^^^^^^^^^^^^\n")
    || (begins text (codes "can0 ^^^=^^^^^^^^^^^^^^^^\n")
    || (begins text (codes "can0 ^^^=^^^^^^^^^^^^^^^^_^\n")))))

unfoldable pub standard_data_begins : List ℕ → Bool
standard_data_begins text = standard_short_begins text || standard_long_begins text

-- a data frame with an extended identifier: of at most four bytes, of more, and of any number
unfoldable pub extended_short_begins : List ℕ → Bool
extended_short_begins text =
    begins text (codes "can0 ^^^^^^^^=\n")
    || (begins text (codes "can0 ^^^^^^^^=^^\n")
    || (begins text (codes "can0 ^^^^^^^^=^^^^\n")
    || (begins text (codes "can0 ^^^^^^^^=^^^^^^\n")
    || (begins text (codes "can0 ^^^^^^^^=^^^^^^^^\n")))))

unfoldable pub extended_long_begins : List ℕ → Bool
extended_long_begins text =
    begins text (codes "can0 ^^^^^^^^=^^^^^^^^^^\n")
    || (begins text (codes "can0 ^^^^^^^^=^^^^^^^^^^^^\n")
    || (begins text (codes "can0 ^^^^^^^^=^^^^^^^^^^^^^^\n")
    || (begins text (codes "can0 ^^^^^^^^=^^^^^^^^^^^^^^^^\n")
    || (begins text (codes "can0 ^^^^^^^^=^^^^^^^^^^^^^^^^_^\n")))))

unfoldable pub extended_data_begins : List ℕ → Bool
extended_data_begins text = extended_short_begins text || extended_long_begins text

-- a remote frame with a standard identifier
unfoldable pub standard_remote_begins : List ℕ → Bool
standard_remote_begins text =
    begins text (codes "can0 ^^^=R\n")
    || (begins text (codes "can0 ^^^=R^\n")
    || (begins text (codes "can0 ^^^=R8_^\n")))

-- a remote frame with an extended identifier
unfoldable pub extended_remote_begins : List ℕ → Bool
extended_remote_begins text =
    begins text (codes "can0 ^^^^^^^^=R\n")
    || (begins text (codes "can0 ^^^^^^^^=R^\n")
    || (begins text (codes "can0 ^^^^^^^^=R8_^\n")))

-- the line of a frame: its identifier, and the bytes of its data or the length of the data that it asks for
unfoldable pub frames_begin : List ℕ → Bool
frames_begin text =
    standard_data_begins text
    || (extended_data_begins text || (standard_remote_begins text || extended_remote_begins text))

-- a round answers so, or this is the frame that won the bus in it
unfoldable pub rounds_begin : List ℕ → List ℕ → Bool
rounds_begin text objects =
    idle_begins text
    || (list_any (sent_begins text) objects || (list_any (looped_begins text objects) objects || frames_begin text))

-- the controller's state
unfoldable pub recessive_begins : List ℕ → Bool
recessive_begins text =
    begins text (codes "bus recessive active\n")
    || (begins text (codes "bus recessive passive\n") || begins text (codes "bus recessive off\n"))

-- the answer to a line at the controller
abbrev pub controller_begins : List ℕ → ControllerLine → Bool
controller_begins text controller.Status = begins text (codes "bus status ####\n")
controller_begins text (controller.Control sie eie) = begins text (line_text Bus (answer.Control sie eie))
controller_begins text (controller.Counters node) = begins text (codes "bus counters ~~~~~~~~~~~~~~~~~~~~~~~~")
controller_begins text controller.Init = begins text (codes "bus init\n")
controller_begins text (controller.Recessive groups) = recessive_begins text
controller_begins text (controller.LoopBack on) = begins text (line_text Bus (answer.LoopBack on))

-- the answer to this line of the bus can begin so, if the transfers name these objects
abbrev pub bus_begins : List ℕ → Profile → List ℕ → BusLine → Bool
bus_begins text profile objects bus.Load = loads_begin text objects
bus_begins text profile objects (bus.Round line) = rounds_begin text objects
bus_begins text profile objects bus.Interrupt = interrupt_begins text Bus
bus_begins text profile objects (bus.Flags flag) = begins text (flags_form Bus profile flag)
bus_begins text profile objects (bus.Controller line) = controller_begins text line
