use Rattle.ccan_ram.proofs.UndisturbedPictures.{pictures_change_nothing}
use Rattle.ccan_ram.proofs.laws.pictures_make_no_change.Goals as goal

pub returns : goal.returns
returns c = pictures_change_nothing
