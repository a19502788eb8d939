use Rattle.std.proofs.Common.{◌<◌, ◌∙◌, sym, ap, slice_index, arith}
use Rattle.ccan_ram.specs.Port.{port_index}
use Rattle.ccan_ram.proofs.Arrays.{not_now, makes}
use Rattle.ccan_ram.proofs.array.ArrayAccess.change.Goals as goal

pub returns-then-not-fits-clause-attempts : goal.returns-then-not-fits-clause-attempts
returns-then-not-fits-clause-attempts c =
    let a = c.args.self.now in
    let unspent = rw c.index-port.ensures.value at c.if-used-self.false in
    let room : slice_index a.used (port_index a.port) < a.quota = omega (arith, a.within_quota a.port) in
    let some = c.get-tries.ensures.range.least in
    not_now a.profile a.records a.used a.port c.args.object c.requires.held a.quota c.args.change.now c.args.tries
    _ (omega arith) room c.at_place-before.ensures (sym c.fits.ensures ∙ c.if-not-fits.true)

pub returns-clause-attempts : goal.returns-clause-attempts
returns-clause-attempts c =
    let a = c.args.self.now in
    let unspent = rw c.index-port.ensures.value at c.if-used-self.false in
    let room : slice_index a.used (port_index a.port) < a.quota = omega (arith, a.within_quota a.port) in
    let held = c.place_of.ensures.within in
    let at_place = c.place_of.ensures.place in
    rw c.done.ensures (makes a.profile a.records a.used a.port c.args.object c.requires.held a.quota c.args.change.now
    c.args.tries
    _ _ _ _ _ record {
      some = omega (arith, c.get-tries.ensures.range.least);
      all = omega (arith, a.all_records);
      ports = a.all_ports;
      room = room;
      is = c.at_place-before.ensures;
      left = c.applied-after.ensures;
      fit = sym c.fits.ensures ∙ c.if-not-fits.false;
      numbered = omega (arith, ap (λ i. slice_index a.used i) c.index-port.ensures.value);
      at_place = omega arith;
      at_index = c.index-port.ensures.value;
    })
