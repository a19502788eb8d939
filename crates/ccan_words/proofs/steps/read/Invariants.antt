use Rattle.ccan_ram.specs.declared.port.PortName.TheVariants.{If1}
use Rattle.ccan_words.specs.Plays.{no_version}
use Rattle.ccan_words.proofs.steps.read.Given as goal

abbrev pub ghosts-read_as : goal.ghosts-read_as
ghosts-read_as g a = record { profile = a.words.now.profile; port = If1; object = 0; word = 0; version = no_version }
