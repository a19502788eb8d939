use Rattle.std.proofs.Common.{◌≡◌, map, take, string_bytes}
use Rattle.ccan_lab.specs.Observed.{observed_lines}
use Rattle.ccan_lab.proofs.observed.observed_texts.Given as goal

-- the texts of the outcomes so far
abbrev pub invariant-loop-rows : goal.invariant-loop-rows
invariant-loop-rows l =
    map string_bytes l.texts.items ≡ map (observed_lines l.marks) (take l.rows-index l.all)
