use Rattle.std.proofs.Common.{sym, ap, subst, ◌∙◌}
use Rattle.ccan_c.specs.declared.chip.Chip.{Chip}
use Rattle.ccan_c.specs.declared.handle.Handle.{Handle}
use Rattle.ccan_c.specs.declared.held.Held.{Held}
use Rattle.ccan_c.specs.Saving.{SavesHeld}
use Rattle.ccan_c.proofs.saving.ccan_save.Goals as goal

pub returns-clause-done : goal.returns-clause-done
returns-clause-done c _ =
    let taken = c.in-Some-Some-Some in
    let was = c.replace-if1.ensures.value in
    let new = c.save_held-saved.new in
    let saved = c.save_held-saved.result in
    let first =
    subst (λ (h : Held). SavesHeld h c.deref_mut-2.result.now c.deref_mut-3.result.now new.if1 new.if2 new.bus saved)
    c.deref_mut.ensures.value c.save_held-saved.ensures.saves in
    let second = subst (λ (h : Held). SavesHeld taken.if1.value h c.deref_mut-3.result.now new.if1 new.if2 new.bus saved)
    c.deref_mut-2.ensures.value first in
    let all = subst (λ (h : Held). SavesHeld taken.if1.value taken.if2.value h new.if1 new.if2 new.bus saved)
    c.deref_mut-3.ensures.value second in (
      taken.if1.value,
      taken.if2.value,
      taken.bus.value,
      sym (ap (λ (r : Chip). r.if1.handle.seal.value) was) ∙ taken.ensures,
      sym (ap (λ (r : Chip). r.if2.handle.seal.value) was) ∙ taken.ensures',
      sym (ap (λ (r : Chip). r.bus.handle.seal.value) was) ∙ taken.ensures'',
      (
        new.if1,
        new.if2,
        new.bus,
        ap (λ (h : Handle). h.seal.value) c.of.ensures.if1 ∙ c.open.ensures,
        ap (λ (h : Handle). h.seal.value) c.of.ensures.if2 ∙ c.open-2.ensures,
        ap (λ (h : Handle). h.seal.value) c.of.ensures.bus ∙ c.open-3.ensures,
        (saved, c.to_bytes-out.ensures.text, all),
      ),
    )
