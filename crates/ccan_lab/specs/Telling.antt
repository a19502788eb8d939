-- What holds of the outcomes of a script when they are reported. Source: this project's own.
use Rattle.std.specs.Prelude.{Bool}
use Rattle.ccan_line.specs.Script.{ScriptFields}
use Rattle.ccan_outcomes.specs.AnswerGraph.{IsOfMachine}
use Rattle.ccan_outcomes.specs.Ending.{AreAllEnds, AreOfRuns}
use Rattle.ccan_outcomes.specs.OutcomeWords.{AreComplete, AreOfLines, endings_in}
use Rattle.ccan_outcomes.specs.WordWays.{AreOfGraph}
use Rattle.ccan_lab.specs.declared.outcome_words.OutcomeList.{OutcomeList}

-- whether the outcomes are reported with the frames that won the bus
abbrev pub frames_in : OutcomeList → Bool
frames_in list = list.words.numbers.frames

-- the graph is of the script's machine, and the words are made of it; the outcomes are all ends of the machine, each that of a run,
-- and complete, and each word has a letter for each line
pub record CanBeTold (script : ScriptFields) (list : OutcomeList) : Type 0 where
  pub machine : IsOfMachine script list.graph
  pub made : AreOfGraph script list.graph list.words
  pub ends : AreAllEnds (frames_in list) script (endings_in list.words)
  pub runs : AreOfRuns script (endings_in list.words)
  pub complete : AreComplete script (endings_in list.words)
  pub letters : AreOfLines list.words
