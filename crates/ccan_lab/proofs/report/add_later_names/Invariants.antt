use Rattle.std.proofs.Common.{◌≡◌, ◌++◌, drop, string_bytes}
use Rattle.ccan_lab.specs.Report.{later_names}
use Rattle.ccan_lab.proofs.report.add_later_names.Given as goal

-- the names so far, and those to come
abbrev pub invariant-loop-port : goal.invariant-loop-port
invariant-loop-port l =
    string_bytes l.text ++ later_names (drop l.port-index l.order) ≡ string_bytes l.initial.text ++ later_names l.order
