use Rattle.ccan_ram.specs.declared.port.PortName.TheVariants.{If1}
use Rattle.ccan_words.specs.Plays.{no_version}
use Rattle.ccan_words.proofs.steps.watch.Given as goal

abbrev pub ghosts-watch_as : goal.ghosts-watch_as
ghosts-watch_as g a = record { profile = a.words.now.profile; port = If1; object = 0; word = 0; version = no_version }
