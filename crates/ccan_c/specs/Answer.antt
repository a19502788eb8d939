-- How C sees what calls answer. Source: this project's own.
use Rattle.std.specs.Prelude.{ℕ}
use Rattle.ccan_bus.specs.declared.answer.LoadAnswer.TheVariants as load
use Rattle.ccan_bus.specs.declared.answer.RoundAnswer.TheVariants as round
use Rattle.ccan_confine.specs.Counters.{Levels, state_of}
use Rattle.ccan_confine.specs.declared.node_state.NodeState.{NodeState}
use Rattle.ccan_confine.specs.declared.node_state.NodeState.TheVariants.{Active, Passive, Off}
use Rattle.ccan_line.specs.declared.line_answer.LineAnswer.{LineAnswer}
use Rattle.ccan_line.specs.declared.line_answer.LineAnswer.TheVariants as answer
use Rattle.ccan_c.specs.declared.shown_counters.ShownCounters.{ShownCounters}
use Rattle.ccan_c.specs.Codes.{done, busy, spent}

-- busy or spent if a step of the memory was, else done
abbrev pub code_of : LineAnswer → ℕ
code_of (answer.Busy object) = busy
code_of (answer.Spent object) = spent
code_of (answer.Load (load.Busy object)) = busy
code_of (answer.Load (load.Spent object)) = spent
code_of (answer.Round (round.Busy object)) = busy
code_of (answer.Round (round.Spent object)) = spent
code_of reply = done

-- ---- the controller and other nodes

abbrev pub state_number : NodeState → ℕ
state_number Active = 0
state_number Passive = 1
state_number Off = 2

-- the error counters of a node, and its state
abbrev pub c_counters : Levels → ShownCounters
c_counters levels = record { tec = levels.tec; rec = levels.rec; state = state_number (state_of levels) }
