use Rattle.std.proofs.Common.{refl, sym, subst, ℕ}
use Rattle.ccan_c.specs.BusCall as bus_call
use Rattle.ccan_c.specs.BusCall.{LoopsBack}
use Rattle.ccan_c.specs.Bus.{is_on}
use Rattle.ccan_registers.specs.ChipSteps.{terms_at}
use Rattle.ccan_c.specs.Held.{port_of}
use Rattle.ccan_c.proofs.Calls.{bus_looked, on_open}
use Rattle.ccan_c.proofs.bus.ccan_loop_back.Goals as goal

pub returns : goal.returns
returns c =
    let run = c.loop_back-told in
    let held = c.as_mut.result.now in
    on_open _ _ _ _ _ c.as_mut.ensures.value
    (bus_looked (bus_call.loop_back c.args.on c.code_of_access.result) held run.new.self _ run.ensures
    refl (λ past seen added led h. (
      subst (λ (code : ℕ). LoopsBack (terms_at (port_of held)) held.chip.settings.tries (is_on c.args.on) seen added code)
          (sym c.code_of_access.ensures) h,
      refl,
    )))
