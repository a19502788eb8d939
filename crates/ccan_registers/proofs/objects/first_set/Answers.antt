use Rattle.std.proofs.Common.{refl, arith}
use Rattle.ccan_handler.proofs.Moments.{some_set}
use Rattle.ccan_registers.proofs.objects.first_set.Goals as goal

pub returns-else-word-eq0 : goal.returns-else-word-eq0
returns-else-word-eq0 c =
    let other = c.if-word-eq0.false in some_set c.args.word _ (omega arith) c.ranges.word.fits refl
