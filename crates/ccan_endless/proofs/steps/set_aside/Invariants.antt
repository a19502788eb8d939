use Rattle.ccan_endless.specs.Plays.{no_version}
use Rattle.ccan_endless.proofs.steps.set_aside.Given as goal

abbrev pub ghosts-set_aside_as : goal.ghosts-set_aside_as
ghosts-set_aside_as a = record {
  profile = a.words.now.profile;
  port = a._port;
  object = 0;
  word = 0;
  version = no_version;
  change = a.change.now;
  before = a.before.now;
}
