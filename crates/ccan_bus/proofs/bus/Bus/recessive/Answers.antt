use Rattle.std.proofs.Common.{refl, arith}
use Rattle.ccan_bus.proofs.RecessiveGroups.{recovered}
use Rattle.ccan_bus.proofs.bus.Bus.recessive.Goals as goal

pub returns-clause-goes_on : goal.returns-clause-goes_on
returns-clause-goes_on c =
    let grouped = c.grouped-self.ensures in
    recovered c.args.groups c.args.self.now _ c.recovering.result c.recovery_of-event.result c.index-self-0.result
    c.index-self-0-2.result
    record {
      others = refl;
      each = λ node within. grouped.each node (omega arith);
      loaded = refl;
      loops_back = refl;
      choice = refl;
    } grouped.all
    c.recovering.ensures.listed c.recovery_of-event.ensures.value c.after.ensures.listed
