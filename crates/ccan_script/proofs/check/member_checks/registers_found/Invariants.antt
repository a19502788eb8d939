use Rattle.std.proofs.Common.{◌≡◌}
use Rattle.serde_json.specs.View.{members_view}
use Rattle.ccan_script.specs.FirstFault.{registers_found}
use Rattle.ccan_script.proofs.check.member_checks.registers_found.Given as goal

-- nothing is found at the members so far, so what is found is found at those that are left
abbrev pub invariant-loop-name : goal.invariant-loop-name
invariant-loop-name l = registers_found (members_view l.set.entries) ≡ registers_found (members_view l.name-iterator)
