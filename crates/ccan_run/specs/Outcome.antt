-- The text of what a run without an order came to. Source: this project's own.
use Rattle.std.specs.Prelude.{ℕ, List, ◌++◌, map, take}
use Rattle.std.specs.List.{flat_map, enumerate_from}
use Rattle.ccan_object.specs.declared.record.Record.{Record}
use Rattle.ccan_object.specs.Profile.{objects_in}
use Rattle.ccan_ram.specs.declared.ending.Final.{Final}
use Rattle.ccan_ram.specs.declared.port.PortName.{PortName}
use Rattle.ccan_ram.specs.declared.port.PortName.TheVariants.{If1, If2, Bus}
use Rattle.ccan_line.specs.declared.line_answer.LineAnswer.{LineAnswer}
use Rattle.ccan_run.specs.declared.outcome.Outcome.{Outcome}
use Rattle.ccan_run.specs.Ordered.{answers_text, final_part}

-- a line for each answer of a port
unfoldable pub port_lines : PortName → List LineAnswer → List ℕ
port_lines port answers = answers_text (map (λ answer. (port, answer)) answers)

-- the lines of this many objects, with these records from object 1 on
unfoldable pub object_lines : ℕ → List Record → List ℕ
object_lines count records =
    flat_map (λ object. final_part object.0 object.1) (take count (enumerate_from 1 records))

-- the lines of the objects that a memory had as it was closed
abbrev pub last_lines : Final → List ℕ
last_lines last = object_lines (objects_in last.profile) last.records

-- the answers of IF1, of IF2 and of the bus, and then the objects
unfoldable pub outcome_text : Outcome → List ℕ
outcome_text outcome =
    port_lines If1 outcome.if1.items ++ port_lines If2 outcome.if2.items ++ port_lines Bus outcome.bus.items
    ++ last_lines outcome.last
