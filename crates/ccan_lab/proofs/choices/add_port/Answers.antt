use Rattle.ccan_lab.proofs.Added.{port_more, port_none}
use Rattle.ccan_lab.proofs.choices.add_port.Goals as goal

pub loop-line-init : goal.loop-line-init
loop-line-init g c = port_none (g.T.ByLine.is_outcome c.args.outcomes.now) c.args.port c.args.all.now.items

pub loop-line-preserved : goal.loop-line-preserved
loop-line-preserved g c =
    port_more (g.T.ByLine.is_outcome c.args.outcomes.now) c.args.port c.loop-line.line c.args.all.now.items c.loop-line.all.items
    c.push.new.self.items c.in_ok-end_rows.field-0 c.loop-line.invariant c.in_ok-end_rows.ensures
    c.in_ok-push.ensures.items
