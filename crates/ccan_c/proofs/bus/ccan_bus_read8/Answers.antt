use Rattle.std.proofs.Common.{refl}
use Rattle.ccan_registers.specs.Register.{at_register}
use Rattle.ccan_c.specs.BusCall as bus_call
use Rattle.ccan_c.proofs.Calls.{bus_looked, on_open}
use Rattle.ccan_c.proofs.bus.ccan_bus_read8.Goals as goal

pub returns-clause-call : goal.returns-clause-call
returns-clause-call c =
    let run = c.read_byte-told in
    let held = c.as_mut.result.now in
    on_open _ _ _ _ _ c.as_mut.ensures.value
    (bus_looked (bus_call.read8 c.args.offset c.read_byte_out.result c.read_byte_out.new.out) held run.new.self _ run.ensures
    refl (λ past seen added led h. (held.own, (at_register run.result, h, c.read_byte_out.ensures.code, c.read_byte_out.ensures.read), refl)))
