use Rattle.ccan_ram.proofs.UndisturbedPictures.{pictures_undisturbed}
use Rattle.ccan_ram.proofs.laws.undisturbed_pictures_are_one_thread.Goals as goal

pub returns : goal.returns
returns c = pictures_undisturbed
