use Rattle.std.proofs.Common.{decimal, ◌∙◌}
use Rattle.ccan_lab.proofs.Most.{read_as_given}
use Rattle.ccan_lab.proofs.paging.limit_of.Goals as goal

pub returns : goal.returns
returns c = λ n small word.
    c.unwrap_or.ensures ∙ read_as_given n small c.get_one.result (c.get_one.ensures.value (decimal n) word) _
