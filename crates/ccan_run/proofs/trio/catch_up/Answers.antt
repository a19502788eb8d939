use Rattle.ccan_run.proofs.Meetings.{two_meetings}
use Rattle.ccan_run.proofs.trio.catch_up.Goals as goal

pub returns : goal.returns
returns g c = two_meetings _ _ _ _ _ _ _ c.meet.ensures c.meet-2.ensures
