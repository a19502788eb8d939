-- The port takes in the note, which leaves it what it has seen. Its next step shows it a history that goes on from that and from
-- what the note tells.
use Rattle.std.proofs.Common.{◌≡◌, refl, sym, ap, ◌∙◌, subst}
use Rattle.ccan_endless.specs.declared.port.Port.TheInside.{Inside}
use Rattle.ccan_endless.specs.Chip.{ChipHistory, GoesFrom}
use Rattle.ccan_endless.specs.Note.{Told}
use Rattle.ccan_endless.proofs.ChipPorts.{KnowsChip, knows_chip}
use Rattle.ccan_endless.proofs.ControllerCalls.{stepped_after, adds_no_event, adds_none, new_whole}
use Rattle.ccan_endless.proofs.Notes.{joined_port, joined_pass}
use Rattle.ccan_endless.proofs.Ports.{IsPortOf, chip_pass, with_seat}
use Rattle.ccan_endless.proofs.ram.EndlessRam.heed.Goals.{After-see_aside}
use Rattle.ccan_endless.proofs.ram.EndlessRam.heed.Goals as goal

-- the port with the seat that took in the note
abbrev between : After-see_aside → Inside
between c = with_seat c.port.inside c.join.new.seat

port : (c : After-see_aside) → IsPortOf (between c)
port c =
    let j = c.join.ensures in
    joined_port c.port.inside c.port.invariant c.note.inside.seat c.join.new.seat c.note.invariant j.told j.chip j.same j.seated

pass : (c : After-see_aside) → chip_pass (between c) ≡ c.args.port.now
pass c =
    let j = c.join.ensures in
    joined_pass c.port.inside c.port.invariant c.note.inside.seat c.join.new.seat c.note.invariant j.told j.chip j.same j.seated
    ∙ c.port.view_is

knows : (c : After-see_aside) → KnowsChip (between c) (port c).held
knows c = knows_chip (between c) (port c)

pub invariant_of-port : goal.invariant_of-port
invariant_of-port all =
    let c = (goal.at.invariant_of-port all).After-see_aside in
    let t = c.see_aside.ensures.told in
    let k = knows c in
    stepped_after (between c) (port c) (pass c) c.requires.memory c.see_aside.new.seat c.see_aside.ensures.same
    c.see_aside.ensures.seated k.whole k.had t.log t.log refl t.finds.ram (t.finds.goes_on c.port.inside.name k.whole k.had)
    t.view

pub returns-clause-none : goal.returns-clause-none
returns-clause-none all =
    let c = (goal.at.returns-clause-none all).After-see_aside in
    let t = c.see_aside.ensures.told in
    let k = knows c in
    adds_none (between c) (port c) (pass c) c.requires.memory c.see_aside.new.seat c.see_aside.ensures.same
    c.see_aside.ensures.seated k.whole k.had t.log t.log refl t.finds.ram (t.finds.goes_on c.port.inside.name k.whole k.had)
    t.view refl

pub returns-clause-objects : goal.returns-clause-objects
returns-clause-objects all =
    let c = (goal.at.returns-clause-objects all).After-see_aside in
    let t = c.see_aside.ensures.told in
    let k = knows c in
    adds_no_event (between c) (port c) (pass c) c.requires.memory c.see_aside.new.seat c.see_aside.ensures.same
    c.see_aside.ensures.seated k.whole k.had t.log t.log refl t.finds.ram (t.finds.goes_on c.port.inside.name k.whole k.had)
    t.view

pub returns-clause-heeds : goal.returns-clause-heeds
returns-clause-heeds all =
    let c = (goal.at.returns-clause-heeds all).After-see_aside in
    let t = c.see_aside.ensures.told in
    let k = knows c in
    let whole =
    new_whole (between c) (port c) (pass c) c.requires.memory c.see_aside.new.seat c.see_aside.ensures.same
    c.see_aside.ensures.seated k.whole k.had t.log t.log refl t.finds.ram (t.finds.goes_on c.port.inside.name k.whole k.had)
    t.view in
    let told = c.join.ensures.note ∙ ap (λ (n : Told). n.whole) c.note.view_is in
    subst (λ (h : ChipHistory). GoesFrom h c.args.note.whole) (sym whole) (subst (GoesFrom t.log) told t.finds.told)
