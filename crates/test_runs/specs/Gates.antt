-- Gates that the tests run ports with. Source: this project's own.
use Rattle.std.specs.Prelude.{ℕ, ◌≡◌, ◌≤◌, ◌<◌, Bool, true, false, List, length, Option, None}
use Rattle.ccan_ram.specs.declared.port.PortName.{PortName}
use Rattle.ccan_line.specs.declared.line_answer.LineAnswer.{LineAnswer}

-- a gate that holds this port from a line on, or every port if none is named
pub record HoldsFrom (named : Option PortName) (line : ℕ) (answers : List LineAnswer) (answer : Bool) : Type 0 where
  pub held : answer ≡ false → line ≤ length answers
  pub let_run : answer ≡ true → named ≡ None → length answers < line
