use Rattle.ccan_bus.proofs.bus.Bus.last_error.Goals as goal

pub returns-clause-listed : goal.returns-clause-listed
returns-clause-listed c past led = c.lec.ensures.listed past.steps led.status
