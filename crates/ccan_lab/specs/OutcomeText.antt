-- The text of an outcome with a history. Source: this project's own.
use Rattle.std.specs.Prelude.{ℕ, Bool, List}
use Rattle.ccan_line.specs.Script.{ScriptFields}
use Rattle.ccan_outcomes.specs.declared.ending.Ending.{Ending}
use Rattle.ccan_outcomes.specs.History.{IsHistoryOf}
use Rattle.ccan_lab.specs.declared.history_form.HistoryForm.{HistoryForm}
use Rattle.ccan_lab.specs.Brief.{IsHistoryText}
use Rattle.ccan_lab.specs.Replay.{Replays}
use Rattle.ccan_lab.specs.Report.{IsTextWith}

-- the text is that of the outcome of this number, reported with frames or without, with a history in this form, and an order is
-- one in which whole lines give it
abbrev pub IsOutcomeText : Bool → HistoryForm → ScriptFields → List Ending → List ℕ → ℕ → List ℕ → Type 0
IsOutcomeText frames form script endings lines number text =
    IsTextWith (IsHistoryOf frames script) (IsHistoryText form script) (Replays frames script) endings number lines number text
