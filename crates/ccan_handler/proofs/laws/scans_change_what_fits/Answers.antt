use Rattle.ccan_handler.proofs.Fitting.{made_law}
use Rattle.ccan_handler.proofs.laws.scans_change_what_fits.Goals as goal

pub returns : goal.returns
returns c = made_law
