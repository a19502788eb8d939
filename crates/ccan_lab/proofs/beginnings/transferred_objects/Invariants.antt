use Rattle.std.proofs.Common.{◌≡◌}
use Rattle.ccan_outcomes.specs.RaceScript.{fields_of}
use Rattle.ccan_lab.proofs.Formed.{objects_among}
use Rattle.ccan_lab.proofs.beginnings.transferred_objects.Given as goal

-- the objects so far
abbrev pub invariant-loop-index : goal.invariant-loop-index
invariant-loop-index l = l.objects.items ≡ objects_among (fields_of l.race) l.index
