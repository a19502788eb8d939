use Rattle.std.proofs.Common.{refl, ap, ◌∙◌}
use Rattle.std.specs.Prelude.{is_some}
use Rattle.ccan_c.specs.Bus.{held_on}
use Rattle.ccan_c.specs.FrameCall as frame_call
use Rattle.ccan_c.proofs.Calls.{frame_began, on_open, still_named}
use Rattle.ccan_c.proofs.frame.ccan_begin.Goals as goal

pub invariant_of-bus : goal.invariant_of-bus
invariant_of-bus c = (
  (c.args.bus.now.handle.tells ∙ ap is_some c.as_mut.ensures.value, tt),
  (
    still_named (held_on c.args.bus.now) c.as_mut.result.now c.begin-begun.new.self c.args.bus.now.named c.as_mut.ensures.value
        c.begin-begun.ensures.port,
    tt,
  ),
)

pub returns-clause-call : goal.returns-clause-call
returns-clause-call c =
    let run = c.begin-begun in
    on_open _ _ _ _ _ c.as_mut.ensures.value
    (frame_began (frame_call.begin c.code_of_load.result c.of.result) c.as_mut.result.now run.new.self _ run.ensures.steps
    run.ensures.drops (λ past seen added h. (run.result, h, c.code_of_load.ensures, c.of.ensures, refl)))
