use Rattle.ccan_ram.specs.declared.port.PortName.TheVariants.{If1}
use Rattle.ccan_words.specs.Plays.{no_version}
use Rattle.ccan_words.proofs.steps.head.Given as goal

abbrev pub ghosts-head_as : goal.ghosts-head_as
ghosts-head_as g a = record { profile = a.words.now.profile; port = If1; object = a.object; word = 0; version = no_version }
