use Rattle.ccan_ram.specs.Attempt.{IsLook}
use Rattle.ccan_registers.proofs.Going.{on_objects}
use Rattle.ccan_registers.proofs.saved.look.look.Goals as goal

pub returns : goal.returns
returns c =
    on_objects c.args.port.now c.look.new.port (λ terms s a. IsLook terms c.args.object c.look.result a)
    c.look.ensures.chip c.look.ensures.looks
