use Rattle.serde_json.specs.View.{view}
use Rattle.ccan_script.specs.FirstFault.{range_found}
use Rattle.ccan_script.proofs.Checks.{all_passed, member_found, member_passed}
use Rattle.ccan_script.proofs.check.member_checks.first_range_found.Goals as goal

pub returns-in-Some : goal.returns-in-Some
returns-in-Some c =
    member_found (range_found c.args.context (view c.args.line.now)) c.args.numbers.now c.loop-member.member-index _ c.in-Some.part
    c.loop-member-test.true c.loop-member.invariant c.in-Some.ensures

pub loop-member-preserved : goal.loop-member-preserved
loop-member-preserved c =
    member_passed (range_found c.args.context (view c.args.line.now)) c.args.numbers.now c.loop-member.member-index _
    c.loop-member-test.true c.loop-member.invariant c.in_default.ensures

pub returns : goal.returns
returns c =
    all_passed (range_found c.args.context (view c.args.line.now)) c.args.numbers.now c.loop-member.member-index
    c.loop-member-test.false c.loop-member.invariant
