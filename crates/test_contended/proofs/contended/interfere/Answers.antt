use Rattle.std.proofs.Common.{arith}
use Rattle.test_contended.proofs.PlainCalls.{they_act}
use Rattle.test_contended.proofs.contended.interfere.Goals as goal

pub returns-clause-acts : goal.returns-clause-acts
returns-clause-acts c =
    let one = rw c.unwrap-one_try.ensures at c.new.ensures.number in
    rw c.number_of.ensures (they_act c.args.theirs _ _ (omega (arith, one))
    (rw c.change-change.ensures at c.change-outcome.ensures.attempts) c.at.ensures.terms c.at.ensures.same c.at-2.ensures.same)
