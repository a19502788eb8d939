use Rattle.ccan_time.specs.Transmitter.{transmitter_with}
use Rattle.ccan_time.proofs.transmitter.Transmitter.send.Goals as goal

pub returns-clause-value : goal.returns-clause-value
unfolding transmitter_with
returns-clause-value c = λ i. record { register = c.register_with-self.ensures.value i; stuffing = c.with-self.ensures.value i }
