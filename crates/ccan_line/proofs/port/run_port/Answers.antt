use Rattle.ccan_object.specs.Interface.{zero_registers}
use Rattle.ccan_ram.specs.Terms.{Terms}
use Rattle.ccan_bus.specs.Past.{opened}
use Rattle.ccan_line.specs.Host.{HostLineMeans}
use Rattle.ccan_line.specs.BusPort.{BusLineMeans}
use Rattle.ccan_line.proofs.Rows.{same_lines}
use Rattle.ccan_line.proofs.port.run_port.Goals as goal

pub returns-in-If1-clause-runs : goal.returns-in-If1-clause-runs
returns-in-If1-clause-runs g c =
    let s = c.args.script.now in
    let means = λ (terms : Terms). HostLineMeans terms s.tries in
    rw c.in-If1.is (same_lines means zero_registers _ c.deref.result.now s.if1.items _ (search) c.run_host.ensures.runs)

pub returns-in-If2-clause-runs : goal.returns-in-If2-clause-runs
returns-in-If2-clause-runs g c =
    let s = c.args.script.now in
    let means = λ (terms : Terms). HostLineMeans terms s.tries in
    let ran = c.run_host-in-If2 in
    rw c.in-If2.is (same_lines means zero_registers _ c.deref-in-If2.result.now s.if2.items _ (search) ran.ensures.runs)

pub returns-in-Bus-clause-runs : goal.returns-in-Bus-clause-runs
returns-in-Bus-clause-runs g c =
    let s = c.args.script.now in
    let means = λ (terms : Terms). BusLineMeans terms s.tries in
    let ran = c.run_bus in
    rw c.in-Bus.is (same_lines means (opened s.nodes) _ c.deref-in-Bus.result.now s.bus.items _ (search) ran.ensures.runs)
