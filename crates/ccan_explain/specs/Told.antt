-- What is reported of a script: the lines in their order, over a plain memory. Source: this project's own, over the meaning of a
-- script.
use Rattle.std.specs.Prelude.{◌≡◌, List, [], map}
use Rattle.ccan_ram.specs.declared.port.PortName.{PortName}
use Rattle.ccan_ram.specs.declared.event.Event.{Event}
use Rattle.ccan_ram.specs.Access.{Passes}
use Rattle.ccan_line.specs.declared.line_answer.LineAnswer.{LineAnswer}
use Rattle.ccan_line.specs.Order.{times}
use Rattle.ccan_line.specs.Port.{count_of}
use Rattle.ccan_line.specs.Script.{ScriptFields}
use Rattle.ccan_line.specs.Lines.{Run}
use Rattle.ccan_line.specs.Turn.{opening}
use Rattle.ccan_run.specs.Ordered.{RunsInOrder, lines_of}
use Rattle.ccan_explain.specs.declared.step.Step.{Step}
use Rattle.ccan_explain.specs.Step.{TellsLine}

-- the script with another order
abbrev pub in_order : ScriptFields → List PortName → ScriptFields
in_order script order =
    record {
      profile = script.profile;
      quota = script.quota;
      tries = script.tries;
      nodes = script.nodes;
      if1 = script.if1;
      if2 = script.if2;
      bus = script.bus;
      order = order;
    }

-- the order names each port as often as the script has lines of it
abbrev pub IsOrderOf : ScriptFields → List PortName → Type 0
IsOrderOf script order = (port : PortName) → times port order ≡ count_of script port

-- the answers of the steps, each with its port
abbrev pub answers_of : List Step → List (PortName × LineAnswer)
answers_of steps = map (λ step. (step.port, step.answer)) steps

-- the steps report the lines of the script, one after another in their order, which stand for this history
abbrev pub TellLines : ScriptFields → List Event → List Step → Type 0
TellLines script history steps = Run (TellsLine script) (opening script.nodes) (lines_of script) [] history steps

-- the lines of the script have run in their order with the answers of these steps, which report them, and the memory has seen
-- exactly what they stand for
pub record AreStepsOf (script : ScriptFields) (steps : List Step) (memory : Passes) : Type 0 where
  pub history : List Event
  pub runs : RunsInOrder script history (answers_of steps)
  pub tell : TellLines script history steps
  pub seen : memory.has_seen history
