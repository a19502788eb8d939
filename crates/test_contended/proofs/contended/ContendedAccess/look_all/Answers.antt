use Rattle.ccan_ram.proofs.Calls.{Goes-weaker}
use Rattle.test_contended.proofs.PlainCalls.{pictures}
use Rattle.test_contended.proofs.contended.ContendedAccess.look_all.Goals as goal

pub returns-clause-pictures : goal.returns-clause-pictures
returns-clause-pictures c =
    let s = c.args.self.now in
    Goes-weaker (pictures s.profile s.quota s.made s.used c.look_all.result s.for_bus c.look_all.ensures.pictures)
    (λ seen added here after p. p.0)

pub returns-clause-alone : goal.returns-clause-alone
returns-clause-alone c =
    let s = c.args.self.now in
    Goes-weaker (pictures s.profile s.quota s.made s.used c.look_all.result s.for_bus c.look_all.ensures.pictures)
    (λ seen added here after p. p.1)
