use Rattle.std.proofs.Common.{◌≡◌, drop}
use Rattle.serde_json.specs.View.{view}
use Rattle.ccan_script.specs.FirstFault.{shape_found, first_found}
use Rattle.ccan_script.proofs.check.member_checks.first_shape_found.Given as goal

-- nothing is found at the members so far, so what is found is found at those that are left
abbrev pub invariant-loop-member : goal.invariant-loop-member
invariant-loop-member l =
    first_found (shape_found (view l.line)) l.members ≡ first_found (shape_found (view l.line)) (drop l.member-index l.members)
