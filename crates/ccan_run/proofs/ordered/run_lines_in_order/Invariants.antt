use Rattle.std.proofs.Common.{◌≡◌, ◌≤◌, ◌+◌, drop, length, vec_len, vec_capacity}
use Rattle.ccan_ram.specs.declared.port.PortName.{PortName}
use Rattle.ccan_ram.specs.SharedRam.{IsMemoryOf}
use Rattle.ccan_line.specs.Script.{fields_of}
use Rattle.ccan_line.specs.Order.{times}
use Rattle.ccan_line.specs.Port.{count_of}
use Rattle.ccan_run.specs.Ports.{CanRun, next_of}
use Rattle.ccan_run.specs.Trio.{seen_by}
use Rattle.ccan_run.proofs.TurnsSoFar.{SoFar}
use Rattle.ccan_run.proofs.ordered.run_lines_in_order.Given as goal

-- the lines so far have run, and each port has as many left as the rest of the order names it
abbrev pub invariant-loop-port : goal.invariant-loop-port
invariant-loop-port g l =
    let script = fields_of l.script in
    let pass = g.R.SharedRam.pass in
    let order = drop l.port-index script.order in
    record {
      count : vec_len l.log ≡ l.port-index;
      room : length script.order ≤ vec_capacity l.log;
      can_run : CanRun script l.ports;
      memory : IsMemoryOf script.profile script.quota (g.R.SharedRam.memory l.trio.ram);
      left : (name : PortName) → next_of l.ports name + times name order ≡ count_of script name;
      so_far : SoFar script (seen_by (pass l.trio.if1) (pass l.trio.if2) (pass l.trio.bus)) l.ports order l.log.items;
    }
