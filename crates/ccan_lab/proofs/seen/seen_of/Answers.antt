use Rattle.ccan_lab.proofs.seen.seen_of.Goals as goal

pub returns-clause-text : goal.returns-clause-text
returns-clause-text g c =
    (c.in_ok-shown.shown.endings.items, c.in_ok-shown.ensures.shown, c.in_ok-seen_listing.ensures)
