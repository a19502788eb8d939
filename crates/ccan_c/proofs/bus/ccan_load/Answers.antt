use Rattle.std.proofs.Common.{ap, ◌∙◌}
use Rattle.std.specs.Prelude.{is_some}
use Rattle.ccan_c.specs.BusCall as bus_call
use Rattle.ccan_c.specs.Bus.{held_on}
use Rattle.ccan_c.specs.Load.{c_load}
use Rattle.ccan_c.proofs.Calls.{bus_did, on_open, still_named}
use Rattle.ccan_c.proofs.bus.ccan_load.Goals as goal

pub invariant_of-bus : goal.invariant_of-bus
invariant_of-bus c = (
  (c.args.bus.now.handle.tells ∙ ap is_some c.as_mut.ensures.value, tt),
  (
    still_named (held_on c.args.bus.now) c.as_mut.result.now c.load-loading.new.self c.args.bus.now.named c.as_mut.ensures.value
        c.load-loading.ensures.steps.same.port,
    tt,
  ),
)

pub returns-clause-call : goal.returns-clause-call
returns-clause-call c =
    let run = c.load-loading in
    on_open _ _ _ _ _ c.as_mut.ensures.value
    (bus_did (bus_call.load c.code_of_load.result c.of.result) c.as_mut.result.now run.new.self _ run.ensures.steps
    run.ensures.rests (λ past after seen added h.
    (run.result.0, run.result.1, h.0, c.code_of_load.ensures, c.of.ensures ∙ ap (c_load run.result.1) h.1)))
