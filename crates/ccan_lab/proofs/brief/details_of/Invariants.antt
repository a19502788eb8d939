use Rattle.std.proofs.Common.{◌≡◌, length, map, string_bytes}
use Rattle.ccan_outcomes.specs.RaceScript.{fields_of}
use Rattle.ccan_lab.proofs.Detailed.{AreSoFar}
use Rattle.ccan_lab.proofs.brief.details_of.Given as goal

-- the texts of the steps so far
abbrev pub invariant-loop-place : goal.invariant-loop-place
invariant-loop-place l = record {
  long : length l.details.items ≡ l.place;
  are : AreSoFar (fields_of l.race) l.states l.steps (map string_bytes l.details.items);
}
