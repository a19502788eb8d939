use Rattle.ccan_script.proofs.ReadMeaning.{read_meaning}
use Rattle.ccan_script.proofs.laws.what_was_read_has_a_meaning.Goals as goal

pub returns : goal.returns
returns c = read_meaning
