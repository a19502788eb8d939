use Rattle.std.proofs.Common.{◌≡◌, ◌++◌, replicate}
use Rattle.ccan_script.proofs.order.push_times.Given as goal

abbrev pub invariant-loop-named : goal.invariant-loop-named
invariant-loop-named l = l.order.items ≡ l.initial.order.items ++ replicate l._named l.port
