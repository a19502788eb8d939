use Rattle.std.proofs.Common.{length}
use Rattle.ccan_lab.proofs.rows.+starts_literally.Given as goal

-- each call has less of the beginning
abbrev pub decreases-starts_literally : goal.decreases-starts_literally
decreases-starts_literally l = length l.begin.now
