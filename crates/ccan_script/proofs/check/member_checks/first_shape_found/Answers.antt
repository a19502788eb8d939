use Rattle.serde_json.specs.View.{view}
use Rattle.ccan_script.specs.FirstFault.{shape_found}
use Rattle.ccan_script.proofs.Checks.{all_passed, member_found, member_passed}
use Rattle.ccan_script.proofs.check.member_checks.first_shape_found.Goals as goal

pub returns-in-Some : goal.returns-in-Some
returns-in-Some c =
    member_found (shape_found (view c.args.line.now)) c.args.members.now c.loop-member.member-index _ c.in-Some.part
    c.loop-member-test.true c.loop-member.invariant c.in-Some.ensures

pub loop-member-preserved : goal.loop-member-preserved
loop-member-preserved c =
    member_passed (shape_found (view c.args.line.now)) c.args.members.now c.loop-member.member-index _
    c.loop-member-test.true c.loop-member.invariant c.in_default.ensures

pub returns : goal.returns
returns c =
    all_passed (shape_found (view c.args.line.now)) c.args.members.now c.loop-member.member-index
    c.loop-member-test.false c.loop-member.invariant
