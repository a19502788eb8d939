use Rattle.std.proofs.Common.{arith}
use Rattle.test_contended.proofs.PlainCalls.{exchanges}
use Rattle.test_contended.proofs.contended.Contended.exchange.Goals as goal

pub returns-clause-exchanges : goal.returns-clause-exchanges
returns-clause-exchanges c =
    rw c.changes_of.ensures.value
    (exchanges _ _ _ _ c.args.object c.args.change.now c.args.tries _
    (omega (arith, c.get-tries.ensures.number, c.get-tries.ensures.range)) c.requires.room c.args.self.now.for_bus
    c.change-outcome.ensures.attempts)
