use Rattle.ccan_confine.proofs.Controllers.{one_word}
use Rattle.ccan_confine.proofs.laws.one_word_tells_its_controller.Goals as goal

pub returns : goal.returns
returns c = one_word
