use Rattle.ccan_station.proofs.Leaving.{frames_cut_off}
use Rattle.ccan_station.proofs.laws.frames_of_who_left_are_cut_off.Goals as goal

pub returns : goal.returns
returns c = frames_cut_off
