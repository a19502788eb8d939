use Rattle.std.proofs.Common.{refl}
use Rattle.ccan_registers.specs.Register.{at_register}
use Rattle.ccan_c.specs.BusCall as bus_call
use Rattle.ccan_c.proofs.Calls.{bus_wrote, on_open}
use Rattle.ccan_c.proofs.bus.ccan_bus_write32.Goals as goal

pub returns : goal.returns
returns c =
    let run = c.write_word-told in
    let held = c.as_mut.result.now in
    on_open _ _ _ _ _ c.as_mut.ensures.value
    (bus_wrote (bus_call.write32 c.args.offset c.args.value c.code_of_offset.result) held run.new.self _ run.ensures.steps
    (run.ensures.bus (c.args.bus.now.named held c.as_mut.ensures.value))
    refl (λ past seen added h. (held.own, (at_register run.result, h, c.code_of_offset.ensures), refl)))
