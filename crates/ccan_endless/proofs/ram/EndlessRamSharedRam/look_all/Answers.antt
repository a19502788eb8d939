use Rattle.ccan_endless.proofs.Ports.{pass_is}
use Rattle.ccan_endless.proofs.ChipPorts.{goes_none}
use Rattle.ccan_endless.proofs.PortPictures.{can_picture, picture_after, picture_adds}
use Rattle.ccan_endless.proofs.ram.EndlessRamSharedRam.look_all.Goals as goal

pub picture-requires-clause-held : goal.picture-requires-clause-held
picture-requires-clause-held c = can_picture c.port.inside c.port.invariant (pass_is c.port.view_is) c.requires.memory

pub invariant_of-port : goal.invariant_of-port
invariant_of-port c =
    picture_after c.port.inside c.port.invariant (pass_is c.port.view_is) c.requires.memory c.picture.new.seat
    c.picture.ensures.same
    c.picture.result c.picture.ensures.told (c.picture.ensures.onward.seated c.port.invariant.seated)

pub returns-clause-chip : goal.returns-clause-chip
returns-clause-chip c =
    goes_none c.port.inside c.port.invariant c.port.view_is c.picture.new.seat c.port.inside.used
    (picture_after c.port.inside c.port.invariant (pass_is c.port.view_is) c.requires.memory c.picture.new.seat
    c.picture.ensures.same c.picture.result c.picture.ensures.told (c.picture.ensures.onward.seated c.port.invariant.seated))
    c.picture.ensures.same c.picture.ensures.onward

pub returns-clause-pictures : goal.returns-clause-pictures
returns-clause-pictures c =
    picture_adds c.port.inside c.port.invariant (pass_is c.port.view_is) c.requires.memory c.picture.new.seat
    c.picture.ensures.same
    c.picture.result c.picture.ensures.told
