use Rattle.std.proofs.Common.{◌≡◌, ◌+◌, drop}
use Rattle.ccan_ram.specs.declared.port.PortName.{PortName}
use Rattle.ccan_ram.specs.Array.{passes_of}
use Rattle.ccan_line.specs.Script.{fields_of}
use Rattle.ccan_line.specs.Order.{times}
use Rattle.ccan_line.specs.Port.{count_of}
use Rattle.ccan_explain.specs.Bench.{Serves, next_of}
use Rattle.ccan_explain.specs.Told.{in_order}
use Rattle.ccan_explain.proofs.SoFar.{SoFar}
use Rattle.ccan_explain.proofs.told.run_all.Given as goal

-- the lines so far have run, and each port has as many left as the rest of the order names it
abbrev pub invariant-loop-port : goal.invariant-loop-port
invariant-loop-port l =
    let script = fields_of l.script in
    let ram = l.bench.ram in
    let memory = passes_of ram.profile ram.records ram.used ram.port ram.quota in
    let later = drop l.port-index l.order in
    record {
      serves : Serves memory.terms script l.bench;
      left : (name : PortName) → next_of l.bench name + times name later ≡ count_of script name;
      so_far : SoFar memory (in_order script l.order) l.bench later l.steps.items;
    }
