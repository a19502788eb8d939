use Rattle.std.proofs.Common.{Some, refl, sym, ap, ◌∙◌}
use Rattle.ccan_endless.specs.Note.{Told}
use Rattle.ccan_c.specs.declared.note_handle.NoteHandle.{NoteHandle}
use Rattle.ccan_c.specs.BusCall as bus_call
use Rattle.ccan_c.specs.Bus.{held_on}
use Rattle.ccan_c.specs.Note.{told_by}
use Rattle.ccan_c.proofs.Calls.{bus_looked, bus_refused, none_there, on_known, on_open, on_unknown}
use Rattle.ccan_c.proofs.telling.ccan_bus_heed.Goals as goal

pub returns-then-not-is_told-clause-call : goal.returns-then-not-is_told-clause-call
returns-then-not-is_told-clause-call c =
    bus_refused (bus_call.heed (told_by c.args.note.now) 25) (held_on c.args.bus.now)
    (sym c.is_open.ensures ∙ c.if-not-is_open.false)
    (λ old. refl) (λ held past led. on_unknown _ _ _ (none_there (told_by c.args.note.now) (sym c.is_told.ensures ∙ c.if-not-is_told.true))
    (record { code_is = refl; quiet = refl; leaves = refl }))

pub returns-clause-call : goal.returns-clause-call
returns-clause-call c =
    let told = ap (λ (n : NoteHandle). told_by n) (sym c.replace.ensures.value) ∙ c.in-Some.ensures
    ∙ ap (λ (t : Told). Some t) (sym c.into_inner.ensures) in
    on_open _ _ _ _ _ c.as_mut.ensures.value
    (bus_looked (bus_call.heed (told_by c.args.note.now) 0) c.as_mut.result.now c.heed.new.self _ c.heed.ensures
    refl (λ past seen added led h. on_known _ _ _ _ (sym told) (refl, h, refl)))
