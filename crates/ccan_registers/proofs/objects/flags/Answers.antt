use Rattle.ccan_handler.specs.Moment.{FlagsAtOnce}
use Rattle.ccan_registers.proofs.Going.{on_objects}
use Rattle.ccan_registers.proofs.objects.flags.Goals as goal

pub returns-clause-goes : goal.returns-clause-goes
returns-clause-goes c =
    on_objects c.args.chip.now.port c.flags_shown.new.chip.port (λ terms s a. FlagsAtOnce terms c.args.flag s a c.flags_shown.result)
    c.flags_shown.ensures.none c.flags_shown.ensures.goes
