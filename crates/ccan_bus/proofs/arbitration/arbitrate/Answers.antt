use Rattle.std.proofs.Common.{arith, ◌≡◌, length, ◌∙◌}
use Rattle.ccan_bus.proofs.Leads.{Leads-more, Leads-first, key_at, outcome, wins, collide}
use Rattle.ccan_bus.proofs.arbitration.arbitrate.Goals as goal

pub loop-place-init : goal.loop-place-init
loop-place-init c = rw c.of-lead.ensures (Leads-first _ _ (key_at _ 0 _ c.requires.least c.index-frames-0.is))

pub loop-place-preserved : goal.loop-place-preserved
loop-place-preserved c =
    Leads-more _ _ _ (c.packed.ensures ∙ key_at _ _ _ c.loop-place-test.true c.index-frames-place.is) _ _
    c.next-lead.ensures c.loop-place.invariant

pub returns-then-lead : goal.returns-then-lead
returns-then-lead c =
    let all : c.loop-place.place ≡ length c.args.frames.now = omega arith in
    collide c.args.frames.now c.loop-place.lead c.if-lead.true (outcome _ _ _ all c.loop-place.invariant)

pub returns-else-lead : goal.returns-else-lead
returns-else-lead c =
    let all : c.loop-place.place ≡ length c.args.frames.now = omega arith in
    wins c.args.frames.now c.loop-place.lead c.if-lead.false (outcome _ _ _ all c.loop-place.invariant)
