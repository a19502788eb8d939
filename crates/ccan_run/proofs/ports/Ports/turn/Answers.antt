use Rattle.ccan_line.specs.Script.{fields_of}
use Rattle.ccan_run.proofs.Turns.{by_if1, by_if2, by_bus}
use Rattle.ccan_run.proofs.ports.Ports.turn.Goals as goal

pub returns-in-If1-clause-runs : goal.returns-in-If1-clause-runs
returns-in-If1-clause-runs g c =
    let trio = c.args.trio in
    let run = c.run_next-answer in
    rw c.in-If1.is (by_if1 _ _ _ trio.if1_name trio.if2_name trio.bus_name _ _
    (fields_of c.args.script.now) _ _ _ _ _ _ c.catch_up.ensures
    trio.if1_memory run.new.self.side run.new.self.next _ c.deref.ensures.value run.ensures.runs)

pub returns-in-If2-clause-runs : goal.returns-in-If2-clause-runs
returns-in-If2-clause-runs g c =
    let trio = c.args.trio in
    let run = c.run_next-answer-in-If2 in
    rw c.in-If2.is (by_if2 _ _ _ trio.if1_name trio.if2_name trio.bus_name _ _
    (fields_of c.args.script.now) _ _ _ _ _ _ c.catch_up-in-If2.ensures
    trio.if2_memory run.new.self.side run.new.self.next _ c.deref-in-If2.ensures.value run.ensures.runs)

pub returns-in-Bus-clause-runs : goal.returns-in-Bus-clause-runs
returns-in-Bus-clause-runs g c =
    let trio = c.args.trio in
    let run = c.run_next-answer-in-Bus in
    rw c.in-Bus.is (by_bus _ _ _ trio.if1_name trio.if2_name trio.bus_name _ _
    (fields_of c.args.script.now) _ _ _ _ _ _ c.catch_up-in-Bus.ensures
    trio.bus_memory run.new.self.side run.new.self.next _ c.deref-in-Bus.ensures.value run.ensures.runs)
