use Rattle.std.proofs.Common.{◌∙◌, sym}
use Rattle.ccan_outcomes.specs.RaceScript.{fields_of}
use Rattle.ccan_lab.proofs.Told.{replays_equal}
use Rattle.ccan_lab.proofs.replay.leads_to.Goals as goal

pub returns-in-Some : goal.returns-in-Some
returns-in-Some c equal =
    replays_equal c.args.frames (fields_of c.args.race.now) c.args.ending.now c.in-Some.shown c.args.order.now
    (sym c.eq.ensures ∙ equal) (rw c.in-Some.is at c.in_ok-shown.ensures)
