use Rattle.std.proofs.Common.{◌≡◌, ◌++◌, map, string_bytes}
use Rattle.ccan_lab.specs.Brief.{first_at, group_text}
use Rattle.ccan_lab.specs.Report.{each}
use Rattle.ccan_lab.proofs.brief.add_groups.Given as goal

-- the lines of the places so far
abbrev pub invariant-loop-place : goal.invariant-loop-place
invariant-loop-place l = record {
  begins : l.first ≡ first_at l.steps l.place;
  told : string_bytes l.text ≡ string_bytes l.initial.text ++ each l.place (group_text l.steps (map string_bytes l.details));
}
