use Rattle.ccan_ram.specs.declared.port.PortName.TheVariants.{If1}
use Rattle.ccan_words.proofs.steps.exchange.Given as goal

abbrev pub ghosts-exchange_as : goal.ghosts-exchange_as
ghosts-exchange_as g a = record { profile = a.words.now.profile; port = If1; object = 0; word = 0; version = a.version.now }
