-- What is reported of an end of a line, or of an outcome, prints the very lines that it has. Source: this project's own.
use Rattle.std.specs.Prelude.{◌≡◌, ◌++◌, ◌∷◌, Bool, true, None, if◌then◌else◌}
use Rattle.ccan_line.specs.Script.{ScriptFields}
use Rattle.ccan_ram.specs.declared.port.PortName.{PortName}
use Rattle.ccan_line.specs.declared.line_end.LineEnd.{LineEnd}
use Rattle.ccan_line.specs.LineEnd.{told_end}
use Rattle.ccan_run.specs.declared.outcome.Outcome.{Outcome}
use Rattle.ccan_script.specs.Print.{line_text}
use Rattle.ccan_outcomes.specs.declared.ending.Ending.{Ending}
use Rattle.ccan_outcomes.specs.Ending.{Reports, Shows, told_ending}
use Rattle.ccan_lab.specs.Rows.{end_lines, frame_lines, frame_row, lines_of, row_text, rows_of}

-- what is reported of the end prints the line of its answer, byte by byte, and below it the frame that won the bus, if one did and
-- frames are reported
pub record PrintsItsLine (frames : Bool) (port : PortName) (end : LineEnd) : Type 0 where
  pub lines : end_lines port (told_end frames end)
      ≡ line_text port end.answer ∷ frame_lines (if frames then end.frame else None)
  pub row : row_text port (told_end frames end)
      ≡ line_text port end.answer ++ frame_row (if frames then end.frame else None)

-- this holds for each end
abbrev pub ToldEndsPrintTheirLines : Type 0
ToldEndsPrintTheirLines = (frames : Bool) (port : PortName) (end : LineEnd) → PrintsItsLine frames port end

-- and what is reported of an outcome, with its frames, prints all that the outcome would print
pub record PrintsAlike (ending : Ending) : Type 0 where
  pub lines : lines_of (told_ending true ending) ≡ lines_of ending
  pub rows : rows_of (told_ending true ending) ≡ rows_of ending

abbrev pub ToldOutcomesPrintAlike : Type 0
ToldOutcomesPrintAlike = (ending : Ending) → PrintsAlike ending

-- what reports an outcome prints all that an end of this outcome would print
pub record PrintsItsOutcome (script : ScriptFields) (told : Ending) (outcome : Outcome) : Type 0 where
  pub ending : Ending
  pub shows : Shows script ending outcome
  pub lines : lines_of told ≡ lines_of ending
  pub rows : rows_of told ≡ rows_of ending

abbrev pub ReportsPrintTheirOutcomes : Type 0
ReportsPrintTheirOutcomes =
    (script : ScriptFields) (told : Ending) (outcome : Outcome) → Reports script told outcome
    → PrintsItsOutcome script told outcome
