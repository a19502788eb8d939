use Rattle.std.proofs.Common.{refl, sym, subst, inl, inr}
use Rattle.ccan_object.specs.declared.profile.Profile.{Profile}
use Rattle.ccan_registers.specs.Register.{AreControl, AreTiming}
use Rattle.ccan_registers.proofs.Going.{weaker}
use Rattle.ccan_registers.proofs.words.write_aligned.Goals as goal

pub returns-then-is_timing-clause-goes : goal.returns-then-is_timing-clause-goes
returns-then-is_timing-clause-goes c =
    let same = c.profile.ensures in
    weaker c.args.chip.now.port _ _ _ c.write_timing.ensures.goes
    (λ seen added h. inl (record {
      are =
          subst (λ (p : Profile). AreTiming c.args.chip.now.settings.map p c.args.offset) same
          (c.is_timing.ensures.yes c.if-is_timing.true);
      ended = c.write_timing.result;
      writes = record { makes = h; left_is = refl };
      told_is = c.at_offset.ensures;
    }))

pub returns-then-is_control-clause-goes : goal.returns-then-is_control-clause-goes
returns-then-is_control-clause-goes c =
    let same = c.profile-2.ensures in
    weaker c.args.chip.now.port _ _ _ c.write_control.ensures.goes
    (λ seen added h. inr (inl (record {
      are =
          subst (λ (p : Profile). AreControl c.args.chip.now.settings.map p c.args.offset) same
          (c.is_control.ensures.yes c.if-is_control.true);
      ended = c.write_control.result;
      writes = h;
      told_is = c.at_offset-then-is_control.ensures;
    })))

pub returns-clause-goes : goal.returns-clause-goes
returns-clause-goes c =
    weaker c.args.chip.now.port _ _ _ c.write_halves.ensures.goes
    (λ seen added h. inr (inr (record {
      no_timing = λ are. c.is_timing.ensures.no c.if-is_timing.false
          (subst (λ (p : Profile). AreTiming c.args.chip.now.settings.map p c.args.offset) (sym c.profile.ensures) are);
      no_control = λ are. c.is_control.ensures.no c.if-is_control.false
          (subst (λ (p : Profile). AreControl c.args.chip.now.settings.map p c.args.offset) (sym c.profile-2.ensures) are);
      halves = h;
    })))
