use Rattle.ccan_ram.proofs.Calls.{Goes-weaker}
use Rattle.ccan_handler.proofs.Scans.{started_there}
use Rattle.ccan_handler.proofs.scan.choose_from.Goals as goal

pub returns-in-Ok-Some-clause-adds : goal.returns-in-Ok-Some-clause-adds
returns-in-Ok-Some-clause-adds g c =
    Goes-weaker (rw c.in-Ok-Some.field-0-is at c.in-Ok-Some.ensures.adds)
    (λ seen added here after t. (c.in-Ok-Some.stored.before, t.0, t.1))

pub returns-in-Ok-Some-clause-made : goal.returns-in-Ok-Some-clause-made
returns-in-Ok-Some-clause-made g c = started_there _ _ c.in-Ok-Some.stored
    (rw c.in-Ok-Some.field-0-is at c.in-Ok-Some.ensures.made)

pub returns-in-Ok-None-clause-adds : goal.returns-in-Ok-None-clause-adds
returns-in-Ok-None-clause-adds g c = rw c.in-Ok-None.field-0-is at c.in-Ok-None.ensures.adds
