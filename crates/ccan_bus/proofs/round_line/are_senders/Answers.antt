use Rattle.std.proofs.Common.{ℕ, ◌≡◌, false, refl, take_all, get_or, subst}
use Rattle.std.proofs.lemmas.List.{get_or-replicate}
use Rattle.ccan_accept.specs.declared.frame.Frame.{Frame}
use Rattle.ccan_bus.specs.RoundLine.{AreSenders}
use Rattle.ccan_bus.proofs.Senders.{marked_first, marked_more, none_so}
use Rattle.ccan_bus.proofs.round_line.are_senders.Goals as goal

pub loop-place-init : goal.loop-place-init
loop-place-init c = marked_first c.args.nodes c.args.sends.now _ refl (λ node within. get_or-replicate 9 node false false within)

pub loop-place-preserved : goal.loop-place-preserved
loop-place-preserved c =
    let sends = c.args.sends.now in
    let s = get_or sends c.loop-place.place c.index-sends-place.result in
    let is : s ≡ get_or sends c.loop-place.place s = subst (λ (t : ℕ × Frame). t ≡ get_or sends c.loop-place.place t)
    c.index-sends-place.is c.index-sends-place.is in
    let yes = c.may_send.ensures.yes c.if-not-may_send.false in
    rw c.from.ensures (marked_more c.args.nodes sends c.loop-place.place c.loop-place.sent c.requires s
    c.loop-place-test.true is c.loop-place.invariant yes.0 yes.1 yes.2)

pub returns : goal.returns
returns c = (
  λ t. subst (AreSenders c.args.nodes) (take_all c.loop-place.place c.args.sends.now c.loop-place-test.false)
      c.loop-place.invariant.senders,
  λ good. refl,
)

pub returns-then-not-may_send : goal.returns-then-not-may_send
returns-then-not-may_send c =
    let sends = c.args.sends.now in
    let s = get_or sends c.loop-place.place c.index-sends-place.result in
    let is : s ≡ get_or sends c.loop-place.place s = subst (λ (t : ℕ × Frame). t ≡ get_or sends c.loop-place.place t)
    c.index-sends-place.is c.index-sends-place.is in (
      λ t. absurd cc,
      λ good. absurd (none_so c.args.nodes sends c.loop-place.place c.loop-place.sent c.requires s
          c.loop-place-test.true is c.loop-place.invariant
          (c.may_send.ensures.no c.if-not-may_send.true) good),
    )
