use Rattle.ccan_handler.specs.Moment.{InterruptAtOnce}
use Rattle.ccan_registers.proofs.Going.{on_objects}
use Rattle.ccan_registers.proofs.objects.interrupt.Goals as goal

pub returns-clause-goes : goal.returns-clause-goes
returns-clause-goes c =
    on_objects c.args.chip.now.port c.interrupt_shown.new.chip.port
    (λ terms s a. InterruptAtOnce terms c.args.pending s a c.interrupt_shown.result)
    c.interrupt_shown.ensures.none c.interrupt_shown.ensures.goes
