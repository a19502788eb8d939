use Rattle.std.proofs.Common.{ap, sym, ◌∙◌, below_more}
use Rattle.ccan_wire.specs.Member.{member_at}
use Rattle.ccan_wire.specs.Sign.{shows}
use Rattle.ccan_wire.proofs.Members.{read_at}
use Rattle.ccan_wire.proofs.end.someone.Goals as goal

pub loop-place-preserved : goal.loop-place-preserved
loop-place-preserved c =
    let read = read_at c.args.members.now c.loop-place.place _ c.loop-place-test.true c.index-members-place.is in
    below_more _ _ c.loop-place.invariant
    (ap (λ p. shows c.args.sign p (member_at c.args.members.now c.loop-place.place)) (sym c.part.ensures)
    ∙ (sym (ap (shows c.args.sign c.part.result) read) ∙ (sym c.shows.ensures ∙ c.if-shows.false)))
