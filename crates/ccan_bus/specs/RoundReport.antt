-- A round as its steps: a load, a decision that needs no memory, and the memory steps that are due. The law says that these
-- make up a round and nothing else does. Source: this project's own, over the definitions of the steps.
use Rattle.std.specs.Prelude.{ℕ, ◌≡◌, ◌↔◌, List, [], ◌++◌, Option, Some, None}
use Rattle.ccan_ram.specs.declared.event.Event.{Event}
use Rattle.ccan_ram.specs.declared.sending.Sending.TheVariants.{UntilSent}
use Rattle.ccan_ram.specs.Terms.{Terms}
use Rattle.ccan_bus.specs.declared.answer.RoundAnswer.{RoundAnswer}
use Rattle.ccan_bus.specs.declared.decision.Decision.{Decision}
use Rattle.ccan_bus.specs.declared.memory_step.MemoryStep.TheVariants.{Start}
use Rattle.ccan_bus.specs.declared.round_end.RoundEnd.{RoundEnd}
use Rattle.ccan_bus.specs.declared.round_line.RoundLine.{RoundLine}
use Rattle.ccan_bus.specs.declared.round_report.RoundReport.{RoundReport}
use Rattle.ccan_bus.specs.Past.{BusPast, hears_itself}
use Rattle.ccan_bus.specs.Load.{Loads}
use Rattle.ccan_bus.specs.Decide.{Decides}
use Rattle.ccan_bus.specs.Complete.{Completes}
use Rattle.ccan_bus.specs.Round.{Round, refusal_of_round}

-- the end of a round whose load was refused
abbrev pub refused_start : RoundAnswer → RoundEnd
refused_start refusal = record { answer = refusal; refused = Some Start }

-- the load was refused: that is all
pub record StopsAtLoad (refusal : RoundAnswer) (added : List Event) (past after : BusPast) (end : RoundEnd) : Type 0 where
  pub told : end ≡ refused_start refusal
  pub quiet : added ≡ []
  pub same : after ≡ past

-- what follows the load
abbrev pub RunsOn : Option RoundAnswer → Terms → RoundLine → ℕ → List Event → List Event → BusPast → BusPast
    → Option Decision → RoundEnd → Type 0
RunsOn (Some refusal) terms line tries seen added past after None end = StopsAtLoad refusal added past after end
RunsOn (Some refusal) terms line tries seen added past after (Some decided) end = ⊥
RunsOn None terms line tries seen added past after (Some decided) end =
    Decides (hears_itself past) line past after decided × Completes terms UntilSent tries seen added decided end
RunsOn None terms line tries seen added past after None end = ⊥

-- a load, and what follows it, with this report
pub record RunsSteps (terms : Terms) (line : RoundLine) (tries : ℕ) (seen added : List Event) (past after : BusPast)
    (report : RoundReport) : Type 0 where
  pub between : BusPast
  pub first : List Event
  pub last : List Event
  pub whole : added ≡ last ++ first
  pub loads : Loads terms tries seen first past between report.loading
  pub runs : RunsOn (refusal_of_round report.loading) terms line tries (first ++ seen) last between after
      report.decision report.end

-- with this answer
abbrev pub RunsStepsTo : Terms → RoundLine → ℕ → List Event → List Event → BusPast → BusPast → RoundAnswer → Type 0
RunsStepsTo terms line tries seen added past after reply =
    (report : RoundReport) × RunsSteps terms line tries seen added past after report × (report.end.answer ≡ reply)

-- a round is its steps
abbrev pub RoundsAreTheirSteps : Type 0
RoundsAreTheirSteps =
    (terms : Terms) (line : RoundLine) (tries : ℕ) (seen added : List Event) (past after : BusPast) (reply : RoundAnswer)
    → Round terms line tries seen added past after reply ↔ RunsStepsTo terms line tries seen added past after reply
