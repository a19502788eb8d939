use Rattle.std.proofs.Common.{◌≡◌, drop}
use Rattle.serde_json.specs.View.{view}
use Rattle.ccan_script.specs.FirstFault.{range_found, first_found}
use Rattle.ccan_script.proofs.check.member_checks.first_range_found.Given as goal

-- nothing is found at the members so far, so what is found is found at those that are left
abbrev pub invariant-loop-member : goal.invariant-loop-member
invariant-loop-member l =
    first_found (range_found l.context (view l.line)) l.numbers
    ≡ first_found (range_found l.context (view l.line)) (drop l.member-index l.numbers)
