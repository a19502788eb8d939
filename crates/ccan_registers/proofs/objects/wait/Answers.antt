use Rattle.ccan_handler.specs.Watch.{Watches}
use Rattle.ccan_registers.proofs.Going.{on_objects}
use Rattle.ccan_registers.proofs.objects.wait.Goals as goal

pub returns-clause-goes : goal.returns-clause-goes
returns-clause-goes c =
    on_objects c.args.chip.now.port c.watched.new.chip.port
    (λ terms s a. Watches terms c.args.object c.args.flag c.args.turns a c.watched.result) c.watched.ensures.none
    c.watched.ensures.goes
