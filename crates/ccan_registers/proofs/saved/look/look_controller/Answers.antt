use Rattle.ccan_endless.specs.declared.chip.ControllerStep.TheVariants.{Look}
use Rattle.ccan_registers.proofs.Going.{at_controller}
use Rattle.ccan_registers.proofs.saved.look.look_controller.Goals as goal

pub returns-clause-goes : goal.returns-clause-goes
returns-clause-goes c =
    at_controller c.args.port.now c.look_controller.new.port Look c.look_controller.result c.look_controller.ensures.looks
    c.look_controller.ensures.objects
