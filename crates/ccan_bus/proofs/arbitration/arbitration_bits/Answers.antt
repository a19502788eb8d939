use Rattle.std.proofs.Common.{sym, ◌∙◌}
use Rattle.ccan_bus.proofs.Order.{field_standard, field_extended}
use Rattle.ccan_bus.proofs.arbitration.arbitration_bits.Goals as goal

pub returns-then-xtd : goal.returns-then-xtd
returns-then-xtd c =
    field_extended c.args.frame.now _ _ _ _ _ _ _ _ (sym c.xtd.ensures ∙ c.if-xtd.true) c.id-id.ensures.id
    c.rtr.ensures c.new-bits.ensures
    c.push_lowest.ensures.items c.push.ensures.items c.push-then-xtd.ensures.items c.push_lowest-then-xtd.ensures.items
    c.push-then-xtd-2.ensures.items

pub returns-else-xtd : goal.returns-else-xtd
returns-else-xtd c =
    field_standard c.args.frame.now _ _ _ _ _ _ (sym c.xtd.ensures ∙ c.if-xtd.false) c.id-id.ensures.id
    c.rtr-else-xtd.ensures c.new-bits.ensures
    c.push_lowest-else-xtd.ensures.items c.push-else-xtd.ensures.items c.push-else-xtd-2.ensures.items
