use Rattle.ccan_words.proofs.Looking.{look_after, look_prepares, look_draws}
use Rattle.ccan_words.proofs.ram.RamSharedRam.prepare.Goals as goal

pub invariant_of-port : goal.invariant_of-port
invariant_of-port g c =
    look_after g.L.Layout.form c.port.inside c.port.invariant c.port.view_is c.requires.memory c.number_of.ensures
    c.found-number.new.seat c.found-number.ensures.same c.found-number.result c.found-number.ensures.told

pub returns-clause-drawn : goal.returns-clause-drawn
returns-clause-drawn g c =
    look_draws g.L.Layout.form c.port.inside c.port.invariant c.port.view_is c.requires.memory c.number_of.ensures
    c.found-number.new.seat c.found-number.ensures.same c.found-number.result c.found-number.ensures.told
    c.new.result c.new.ensures

pub returns-clause-looks : goal.returns-clause-looks
returns-clause-looks g c =
    look_prepares g.L.Layout.form c.port.inside c.port.invariant c.port.view_is c.requires.memory c.number_of.ensures
    c.found-number.new.seat c.found-number.ensures.same c.found-number.result c.found-number.ensures.told
    c.new.result c.new.ensures
