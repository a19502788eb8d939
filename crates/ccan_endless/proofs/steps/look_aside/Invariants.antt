use Rattle.ccan_confine.specs.Controller.{new_controller}
use Rattle.ccan_confine.specs.declared.controller_change.ControllerChange.TheVariants.{ReadStatus}
use Rattle.ccan_endless.specs.Plays.{no_version}
use Rattle.ccan_endless.proofs.steps.look_aside.Given as goal

abbrev pub ghosts-look_aside_as : goal.ghosts-look_aside_as
ghosts-look_aside_as a = record {
  profile = a.words.now.profile;
  port = a._port;
  object = 0;
  word = 0;
  version = no_version;
  change = ReadStatus;
  before = new_controller;
}
