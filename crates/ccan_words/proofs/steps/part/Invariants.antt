use Rattle.ccan_words.specs.Plays.{no_version}
use Rattle.ccan_words.proofs.steps.part.Given as goal

abbrev pub ghosts-part_as : goal.ghosts-part_as
ghosts-part_as g a = record { profile = a.words.now.profile; port = a._port; object = 0; word = 0; version = no_version }
