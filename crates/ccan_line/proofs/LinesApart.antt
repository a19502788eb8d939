-- A line during which nobody else acts is one over a one-thread memory, since its process is.
use Rattle.std.proofs.Common.{ℕ, ◌≤◌, List}
use Rattle.ccan_object.specs.Interface.{Registers}
use Rattle.ccan_ram.specs.declared.event.Event.{Event}
use Rattle.ccan_ram.specs.History.{NobodyElse}
use Rattle.ccan_ram.specs.Terms.{Terms}
use Rattle.ccan_ram.specs.Laws.{as_one_thread}
use Rattle.ccan_bus.specs.declared.choice.Choice.TheVariants.{InTurn}
use Rattle.ccan_bus.specs.Past.{BusPast}
use Rattle.ccan_process.proofs.RunsApart.{runs_apart}
use Rattle.ccan_line.specs.declared.host_line.HostLine.{HostLine}
use Rattle.ccan_line.specs.declared.bus_line.BusLine.{BusLine}
use Rattle.ccan_line.specs.declared.line_answer.LineAnswer.{LineAnswer}
use Rattle.ccan_line.specs.Host.{HostLineAdds, HostLineMeans}
use Rattle.ccan_line.specs.BusPort.{BusLineMeans}
use Rattle.ccan_line.specs.LineProcess.{host_process, bus_process}
use Rattle.ccan_line.proofs.HostLinesRun.{host_lines}
use Rattle.ccan_line.proofs.BusLinesRun.{means_by}
use Rattle.ccan_line.proofs.InTurn.{ChoosesInTurn}

module _ (terms : Terms) (tries : ℕ) (some : 1 ≤ tries) (seen added : List Event) (alone : NobodyElse terms.port added) where
  abbrev single : Terms
  single = as_one_thread terms

  pub host_apart : (line : HostLine) (registers : Registers) (reply : LineAnswer) (left : Registers)
      → HostLineMeans terms tries line registers seen added reply left
      → HostLineMeans single tries line registers seen added reply left
  host_apart line registers reply left means =
      runs_apart terms tries some (host_process terms.profile line registers) seen added (reply, left) alone means

  -- so is what it adds
  pub host_adds_apart : (line : HostLine) (registers : Registers) (reply : LineAnswer) (left : Registers)
      → HostLineAdds terms tries line registers seen added reply left
      → HostLineAdds single tries line registers seen added reply left
  host_adds_apart line registers reply left adds =
      (host_lines single tries line registers left seen added reply).1
      (host_apart line registers reply left ((host_lines terms tries line registers left seen added reply).0 adds))

  pub bus_apart : (line : BusLine) (past : BusPast) (reply : LineAnswer) (after : BusPast) → ChoosesInTurn past
      → BusLineMeans terms tries line past seen added reply after → BusLineMeans single tries line past seen added reply after
  bus_apart line past reply after in_turn means =
      let ran = (means_by terms tries line past after seen added reply InTurn in_turn).0 means in
      (means_by single tries line past after seen added reply InTurn in_turn).1 (
        ran.0,
        ran.1,
        runs_apart terms tries some (bus_process terms.profile line past) seen added (ran.0, after) alone ran.2,
      )
