-- What is printed of a step of a history. Source: this project's own.
use Rattle.std.specs.Prelude.{ℕ, ◌-◌, ◌/◌, ◌%◌, ◌++◌, List, [], Option, Some, None, codes, decimal}
use Rattle.ccan_ram.specs.declared.port.PortName.{PortName}
use Rattle.ccan_ram.specs.Port.{port_text}
use Rattle.ccan_outcomes.specs.declared.history_kind.HistoryKind.{HistoryKind}
use Rattle.ccan_outcomes.specs.declared.history_kind.HistoryKind.TheVariants as kind
use Rattle.ccan_outcomes.specs.declared.history_step.HistoryStep.{HistoryStep}

abbrev pub kind_text : HistoryKind → List ℕ
kind_text kind.Reads = codes "read"
kind_text kind.Looks = codes "look"
kind_text kind.LooksAgain = codes "try lost, look"
kind_text kind.LooksLast = codes "last look"
kind_text kind.Writes = codes "write"
kind_text kind.Starts = codes "start"
kind_text kind.Finishes = codes "finish"
kind_text kind.Stores = codes "store"
kind_text kind.Resets = codes "reset"
kind_text kind.Decides = codes "decision"
kind_text kind.ReadsAndClears = codes "read"
kind_text kind.IsSpent = codes "spent"
kind_text kind.IsBusy = codes "busy"

-- the object in two digits, after a space
abbrev pub object_text : Option ℕ → List ℕ
object_text None = []
object_text (Some object) = codes " " ++ (decimal (object / 10) ++ decimal (object % 10))

-- `if2[0]`: a port and its line of this number, from 1. Lines are printed from 0, as jq counts them and as `ccan` reports faults
unfoldable pub line_name : PortName → ℕ → List ℕ
line_name port line = port_text port ++ (codes "[" ++ (decimal (line - 1) ++ codes "]"))

-- `  4 if2[0] look 01`: the step's number, the port and its line, what it did, and the object, if it has one
abbrev pub step_text : ℕ → HistoryStep → List ℕ
step_text number step =
    codes "  " ++ (decimal number ++ (codes " " ++ (line_name step.port step.line ++ (codes " " ++ (kind_text step.kind
    ++ (object_text step.object ++ codes "\n"))))))
