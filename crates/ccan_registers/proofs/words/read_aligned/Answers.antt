use Rattle.std.proofs.Common.{ap, sym, subst, inl, inr, ◌∙◌, Some, Ok, ℕ}
use Rattle.ccan_object.specs.declared.profile.Profile.{Profile}
use Rattle.ccan_registers.specs.Register.{AreFlags}
use Rattle.ccan_registers.proofs.Going.{weaker}
use Rattle.ccan_registers.proofs.Halves.{put_together}
use Rattle.ccan_registers.proofs.words.read_aligned.Goals as goal

pub returns-in-Some-clause-goes : goal.returns-in-Some-clause-goes
returns-in-Some-clause-goes c =
    let found = c.in-Some in
    let same = c.profile.ensures in
    weaker c.args.chip.now.port _ _ _ c.flags-word.ensures.goes
    (λ seen added h. inl (record {
      flag = found.flag;
      low = found.low;
      high = found.high;
      are =
          subst (λ (p : Profile). AreFlags c.args.chip.now.settings.map p c.args.offset found.flag found.low found.high) same found.ensures.some;
      word = c.flags-word.result;
      shows = h;
      told_is =
          ap (λ (value : ℕ). Some (Ok value))
          (put_together c.from.result c.from-in-Some.result _ _ (c.from.ensures ∙ c.of.ensures)
          (c.from-in-Some.ensures ∙ c.of-in-Some.ensures));
    }))

pub returns-in-None-clause-goes : goal.returns-in-None-clause-goes
returns-in-None-clause-goes c =
    weaker c.args.chip.now.port _ _ _ c.read_other.ensures.goes (λ seen added h. inr h)

pub read_other-requires-clause-other : goal.read_other-requires-clause-other
read_other-requires-clause-other c = λ flag low high are. c.in-None.ensures.none flag low high
    (subst (λ (p : Profile). AreFlags c.args.chip.now.settings.map p c.args.offset flag low high) (sym c.profile.ensures) are)
