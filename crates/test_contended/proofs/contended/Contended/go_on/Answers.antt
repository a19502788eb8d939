use Rattle.ccan_ram.proofs.Calls.{Goes-weaker}
use Rattle.test_contended.proofs.PlainCalls.{acts_for}
use Rattle.test_contended.proofs.contended.Contended.go_on.Goals as goal

pub returns-in-Some-clause-others : goal.returns-in-Some-clause-others
returns-in-Some-clause-others c =
    let self = c.args.self.now in
    Goes-weaker (acts_for _ _ self.profile self.quota self.made self.used _ _ self.for_bus c.interfere-number.ensures.acts
    c.in-Some.ensures.next.left) (λ seen added here after t. t.foreign)

pub returns-in-Some-clause-acts : goal.returns-in-Some-clause-acts
returns-in-Some-clause-acts c =
    let self = c.args.self.now in
    Goes-weaker (acts_for _ _ self.profile self.quota self.made self.used _ _ self.for_bus c.interfere-number.ensures.acts
    c.in-Some.ensures.next.left) (λ seen added here after t. (c.in-Some.theirs, c.in-Some.ensures.next, t.found, t.made))
