use Rattle.ccan_words.specs.Plays.{no_version}
use Rattle.ccan_words.proofs.steps.look.Given as goal

abbrev pub ghosts-look_as : goal.ghosts-look_as
ghosts-look_as g a = record { profile = a.words.now.profile; port = a._port; object = a.object; word = 0; version = no_version }
