use Rattle.std.proofs.Common.{Some, sym, ap, ◌∙◌}
use Rattle.ccan_c.specs.declared.chip.Chip.{Chip}
use Rattle.ccan_c.proofs.ending.ccan_end.Goals as goal

pub returns-in-Some-clause-done : goal.returns-in-Some-clause-done
returns-in-Some-clause-done c _ =
    let taken = c.in-Some-Some-Some in
    let was = c.replace-if1.ensures.value in (
      c.into_inner.result,
      c.into_inner-2.result,
      c.into_inner-3.result,
      sym (ap (λ (r : Chip). r.if1.handle.seal.value) was) ∙ taken.ensures ∙ ap Some (sym c.into_inner.ensures),
      sym (ap (λ (r : Chip). r.if2.handle.seal.value) was) ∙ taken.ensures' ∙ ap Some (sym c.into_inner-2.ensures),
      sym (ap (λ (r : Chip). r.bus.handle.seal.value) was) ∙ taken.ensures'' ∙ ap Some (sym c.into_inner-3.ensures),
      (c.in-Some.last, c.in-Some.ensures, c.of.ensures),
    )

pub ended-requires : goal.ended-requires
ended-requires c =
    let taken = c.in-Some-Some-Some in
    let was = c.replace-if1.ensures.value in
    let chip = c.args.chip.now in
    let if1 = sym (ap (λ (r : Chip). r.if1.handle.seal.value) was) ∙ taken.ensures ∙ ap Some (sym c.into_inner.ensures) in
    let if2 = sym (ap (λ (r : Chip). r.if2.handle.seal.value) was) ∙ taken.ensures' ∙ ap Some (sym c.into_inner-2.ensures) in
    let bus = sym (ap (λ (r : Chip). r.bus.handle.seal.value) was) ∙ taken.ensures'' ∙ ap Some (sym c.into_inner-3.ensures) in
    record {
      second = chip.second _ _ if1 if2;
      third = chip.third _ _ if1 bus;
      named_if1 = chip.named_if1 _ if1;
      named_if2 = chip.named_if2 _ if2;
      named_bus = chip.named_bus _ bus;
    }
