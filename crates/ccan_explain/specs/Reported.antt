-- The report of a round that a line of the bus plays. Source: this project's own, over the definitions of a round's steps.
use Rattle.std.specs.Prelude.{ℕ, ◌≡◌, List, Option, IsSome, IfSome}
use Rattle.ccan_ram.specs.declared.event.Event.{Event}
use Rattle.ccan_ram.specs.Terms.{Terms}
use Rattle.ccan_bus.specs.declared.round_line.RoundLine.{RoundLine}
use Rattle.ccan_bus.specs.declared.round_report.RoundReport.{RoundReport}
use Rattle.ccan_bus.specs.Past.{BusPast}
use Rattle.ccan_bus.specs.RoundReport.{RunsSteps}
use Rattle.ccan_line.specs.declared.bus_line.BusLine.{BusLine}
use Rattle.ccan_line.specs.declared.bus_line.BusLine.TheVariants as bus
use Rattle.ccan_line.specs.declared.line_answer.LineAnswer.{LineAnswer}
use Rattle.ccan_line.specs.declared.line_answer.LineAnswer.TheVariants as answer
use Rattle.ccan_line.specs.BusPort.{BusLineMeans}

-- the line is a round, this came of its steps, and its answer is how they ended
pub record IsReportOf (terms : Terms) (tries : ℕ) (line : BusLine) (past : BusPast) (seen added : List Event)
    (reply : LineAnswer) (report : RoundReport) (after : BusPast) : Type 0 where
  pub round : RoundLine
  pub is : line ≡ bus.Round round
  pub told : reply ≡ answer.Round report.end.answer
  pub steps : RunsSteps terms round tries seen added past after report

-- a round has a report, and if there is one it is that of this line
pub record HasReport (terms : Terms) (tries : ℕ) (line : BusLine) (past : BusPast) (seen added : List Event)
    (reply : LineAnswer) (report : Option RoundReport) (after : BusPast) : Type 0 where
  pub of_round : (round : RoundLine) → line ≡ bus.Round round → IsSome report
  pub its_own : IfSome report (λ told. IsReportOf terms tries line past seen added reply told after)

-- a line of the bus has run, with this answer and this report
pub record ReportsLine (terms : Terms) (tries : ℕ) (line : BusLine) (past : BusPast) (seen added : List Event)
    (reply : LineAnswer) (report : Option RoundReport) (after : BusPast) : Type 0 where
  pub means : BusLineMeans terms tries line past seen added reply after
  pub reports : HasReport terms tries line past seen added reply report after
