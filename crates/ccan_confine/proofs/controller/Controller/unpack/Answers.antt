use Rattle.std.proofs.Common.{◌∙◌}
use Rattle.ccan_confine.proofs.Controllers.{read_back}
use Rattle.ccan_confine.proofs.controller.Controller.unpack.Goals as goal

pub returns : goal.returns
returns c d is word = c.unpacked.ensures ∙ read_back d c.args.word is word
