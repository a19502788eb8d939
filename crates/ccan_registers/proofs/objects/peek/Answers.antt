use Rattle.ccan_ram.specs.Attempt.{IsLook}
use Rattle.ccan_registers.proofs.Going.{on_objects}
use Rattle.ccan_registers.proofs.objects.peek.Goals as goal

pub returns-clause-goes : goal.returns-clause-goes
returns-clause-goes c =
    on_objects c.args.chip.now.port c.look.new.self.port (λ terms s a. IsLook terms c.args.object c.look.result a) c.look.ensures.chip
    c.look.ensures.looks
