use Rattle.std.proofs.Common.{◌≡◌, ◌++◌, drop}
use Rattle.ccan_page.specs.Data.{later_names}
use Rattle.ccan_page.proofs.data.push_later_names.Given as goal

-- the names so far, and those to come
abbrev pub invariant-loop-port : goal.invariant-loop-port
invariant-loop-port l =
    l.data ++ later_names (drop l.port-index l.names) ≡ l.initial.data ++ later_names l.names
