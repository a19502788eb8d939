use Rattle.ccan_outcomes.specs.RaceScript.{fields_of}
use Rattle.ccan_lab.proofs.ShownOf.{shown_of}
use Rattle.ccan_lab.proofs.seen.shown_of.Goals as goal

pub returns-clause-shown : goal.returns-clause-shown
returns-clause-shown g c =
    let words = c.args.telling.now.list.now.words in
    shown_of (fields_of c.args.telling.now.query.now.race.now) words c.requires.can.complete c.args.marks.now c.in-Some.observed
    (rw c.in-Some.is at c.in_ok-observed.ensures.images) (rw c.in-Some.is at c.in_ok-observed.ensures.alike)
    c.in_ok-all_shown.field-0.endings.items c.in_ok-all_shown.ensures.shown
