use Rattle.std.proofs.Common.{inl, inr, refl}
use Rattle.ccan_c.specs.BusCall as bus_call
use Rattle.ccan_c.specs.Note.{told_by}
use Rattle.ccan_c.proofs.Calls.{bus_rests_as, on_open}
use Rattle.ccan_c.proofs.telling.ccan_bus_tell.Goals as goal

pub returns-in_default-clause-call : goal.returns-in_default-clause-call
returns-in_default-clause-call c =
    on_open _ _ _ _ _ c.as_mut.ensures.value
    (bus_rests_as (bus_call.tell (told_by c.args.note.now) 4) c.as_mut.result.now c.tell.new.self c.tell.ensures.kept
    refl (λ past led. inr (record { code_is = refl; quiet = refl; leaves = refl })))

pub returns-clause-call : goal.returns-clause-call
returns-clause-call c =
    on_open _ _ _ _ _ c.as_mut.ensures.value
    (bus_rests_as (bus_call.tell (told_by c.told.result) 0) c.as_mut.result.now c.tell.new.self c.tell.ensures.kept
    refl (λ past led. inl (
      (c.in-Some.told.value, c.told.ensures, c.in-Some.ensures.told),
      record { code_is = refl; quiet = refl; leaves = refl },
    )))
