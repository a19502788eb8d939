-- What the lines of all three ports work on over a plain memory, and what a turn of one of them makes of it. Source: this
-- project's own.
use Rattle.std.specs.Prelude.{ℕ, ◌≡◌, List, ◌∷◌, ◌++◌, All, drop, Option}
use Rattle.ccan_ram.specs.declared.port.PortName.{PortName}
use Rattle.ccan_ram.specs.declared.port.PortName.TheVariants.{If1, If2, Bus}
use Rattle.ccan_ram.specs.declared.event.Event.{Event}
use Rattle.ccan_ram.specs.Access.{Passes}
use Rattle.ccan_ram.specs.Terms.{Terms}
use Rattle.ccan_bus.specs.declared.round_report.RoundReport.{RoundReport}
use Rattle.ccan_bus.specs.Bus.{LedTo}
use Rattle.ccan_line.specs.declared.line_answer.LineAnswer.{LineAnswer}
use Rattle.ccan_line.specs.Script.{ScriptFields}
use Rattle.ccan_line.specs.BusPort.{TakesLine}
use Rattle.ccan_line.specs.Turn.{PortLine, Three, PortLineMeans, terms_of}
use Rattle.ccan_run.specs.Ordered.{joined}
use Rattle.ccan_explain.specs.declared.bench.Bench.{Bench}
use Rattle.ccan_explain.specs.declared.step.Step.{Step}
use Rattle.ccan_explain.specs.Step.{IsLineAt, ReportsTurn, TellsLine}

-- how many lines of a port have run
abbrev pub next_of : Bench → PortName → ℕ
next_of bench If1 = bench.next_if1
next_of bench If2 = bench.next_if2
next_of bench Bus = bench.next_bus

-- the lines that are left, in an order
abbrev pub rest : ScriptFields → Bench → List PortName → List PortLine
rest script bench order =
    joined order (drop bench.next_if1 script.if1) (drop bench.next_if2 script.if2) (drop bench.next_bus script.bus)

-- this may have led to the bench
pub record HaveLedTo (three : Three) (bench : Bench) : Type 0 where
  pub first : three.first ≡ bench.if1
  pub second : three.second ≡ bench.if2
  pub bus : LedTo three.bus bench.bus

-- the memory has the profile and the quota of the script, and the bus can run each of its lines
pub record Serves (terms : Terms) (script : ScriptFields) (bench : Bench) : Type 0 where
  pub profile_is : terms.profile ≡ script.profile
  pub quota_is : terms.quota ≡ script.quota
  pub takes : All (TakesLine script.profile bench.bus) script.bus

-- one line of a port has run, with this answer and this report: it was the next one, and what was seen and what the ports work
-- on go on by it
pub record TakesTurn (before after : Passes) (script : ScriptFields) (old new : Bench) (port : PortName) (reply : LineAnswer)
    (report : Option RoundReport) : Type 0 where
  pub line : PortLine
  pub next : (order : List PortName) → rest script old (port ∷ order) ≡ line ∷ rest script new order
  pub numbered : IsLineAt script port (next_of old port) line
  pub each : (three : Three) (seen : List Event) → HaveLedTo three old → before.has_seen seen
      → (added : List Event) × (left : Three) × after.has_seen (added ++ seen) × HaveLedTo left new
      × PortLineMeans (terms_of script) script.tries line three seen added (port, reply) left
      × ReportsTurn (terms_of script) script.tries line three seen added reply report left

-- the same, as a step reports it
pub record TakesStep (before after : Passes) (script : ScriptFields) (old new : Bench) (step : Step) : Type 0 where
  pub line : PortLine
  pub next : (order : List PortName) → rest script old (step.port ∷ order) ≡ line ∷ rest script new order
  pub each : (three : Three) (seen : List Event) → HaveLedTo three old → before.has_seen seen
      → (added : List Event) × (left : Three) × after.has_seen (added ++ seen) × HaveLedTo left new
      × TellsLine script line three seen added step left
