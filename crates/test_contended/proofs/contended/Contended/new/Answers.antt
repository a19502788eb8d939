use Rattle.std.proofs.Common.{refl}
use Rattle.test_contended.proofs.contended.Contended.new.Goals as goal

pub returns-clause-opens : goal.returns-clause-opens
returns-clause-opens c = record { seen_below = (c.at.ensures.same _).0 c.new-ram.ensures.opens; theirs = refl; own = refl }
