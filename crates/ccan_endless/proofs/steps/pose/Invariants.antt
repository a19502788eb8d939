use Rattle.ccan_confine.specs.Controller.{new_controller}
use Rattle.ccan_confine.specs.declared.controller_change.ControllerChange.TheVariants.{ReadStatus}
use Rattle.ccan_endless.specs.Plays.{no_version}
use Rattle.ccan_endless.proofs.steps.pose.Given as goal

abbrev pub ghosts-pose_as : goal.ghosts-pose_as
ghosts-pose_as a = record {
  profile = a.words.now.profile;
  port = a._port;
  object = 0;
  word = 0;
  version = no_version;
  change = ReadStatus;
  before = new_controller;
}
