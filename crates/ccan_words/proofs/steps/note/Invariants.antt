use Rattle.ccan_words.specs.Plays.{no_version}
use Rattle.ccan_words.proofs.steps.note.Given as goal

abbrev pub ghosts-note_as : goal.ghosts-note_as
ghosts-note_as g a = record { profile = a.words.now.profile; port = a._port; object = 0; word = a.word; version = no_version }
