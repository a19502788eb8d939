use Rattle.std.proofs.Common.{decimal}
use Rattle.ccan_lab.proofs.Most.{read_if_given}
use Rattle.ccan_lab.proofs.drawing.outcome_of.Goals as goal

pub returns : goal.returns
returns c = (
  c.get_one.ensures.none,
  λ n small word.
      read_if_given n small c.get_one.result (c.get_one.ensures.value (decimal n) word),
)
