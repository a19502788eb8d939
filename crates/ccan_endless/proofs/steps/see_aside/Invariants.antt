use Rattle.ccan_confine.specs.Controller.{new_controller}
use Rattle.ccan_confine.specs.declared.controller_change.ControllerChange.TheVariants.{ReadStatus}
use Rattle.ccan_ram.specs.declared.port.PortName.TheVariants.{If1}
use Rattle.ccan_endless.specs.Plays.{no_version}
use Rattle.ccan_endless.proofs.steps.see_aside.Given as goal

abbrev pub ghosts-see_aside_as : goal.ghosts-see_aside_as
ghosts-see_aside_as a = record {
  profile = a.words.now.profile;
  port = If1;
  object = 0;
  word = 0;
  version = no_version;
  change = ReadStatus;
  before = new_controller;
}
