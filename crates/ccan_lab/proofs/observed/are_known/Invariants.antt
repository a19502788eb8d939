use Rattle.std.proofs.Common.{◌≡◌, map, take}
use Rattle.ccan_outcomes.specs.RaceScript.{fields_of}
use Rattle.ccan_lab.specs.Observed.{is_known}
use Rattle.ccan_lab.proofs.observed.are_known.Given as goal

-- the names so far
abbrev pub invariant-loop-name : goal.invariant-loop-name
invariant-loop-name l =
    l.known.items ≡ map (λ name. is_known (fields_of l.race) name.now) (take l.name-index l.names)
