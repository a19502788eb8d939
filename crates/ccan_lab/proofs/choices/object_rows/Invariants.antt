use Rattle.std.proofs.Common.{◌≡◌, map, take}
use Rattle.ccan_lab.specs.Choices.{final_of}
use Rattle.ccan_lab.proofs.choices.object_rows.Given as goal

-- the lines in the memories so far
abbrev pub invariant-loop-records : goal.invariant-loop-records
invariant-loop-records l = l.rows ≡ map (final_of l.object) (take l.records-index l.memories)
