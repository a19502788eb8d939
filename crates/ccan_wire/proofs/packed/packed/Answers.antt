use Rattle.std.proofs.Common.{ap, sym, ◌∙◌}
use Rattle.ccan_object.specs.Bits.{flag}
use Rattle.ccan_wire.proofs.Order.{number_standard, number_extended}
use Rattle.ccan_wire.proofs.packed.packed.Goals as goal

pub returns-then-xtd : goal.returns-then-xtd
returns-then-xtd c =
    number_extended c.args.frame.now _ _ c.id-id.ensures.id (c.flag-rtr.ensures.value ∙ ap flag c.rtr.ensures)
    (sym c.xtd.ensures ∙ c.if-xtd.true) c.id-id.ensures.is_frame.id

pub returns-else-xtd : goal.returns-else-xtd
returns-else-xtd c =
    number_standard c.args.frame.now _ _ c.id-id.ensures.id (c.flag-rtr.ensures.value ∙ ap flag c.rtr.ensures)
    (sym c.xtd.ensures ∙ c.if-xtd.false) c.id-id.ensures.is_frame.id
