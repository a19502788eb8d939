use Rattle.std.proofs.Common.{arith}
use Rattle.ccan_run.proofs.Printed.{names_of_all}
use Rattle.ccan_run.proofs.ordered.count_lines.Goals as goal

pub returns-clause-few : goal.returns-clause-few
returns-clause-few c =
    let s = c.args.script.now in
    omega (arith, names_of_all s.order.items, s.if1_times, s.if2_times, s.bus_times, s.if1_few, s.if2_few, s.bus_few)
