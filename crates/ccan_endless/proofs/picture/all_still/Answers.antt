use Rattle.std.proofs.Common.{refl, sym, ◌∙◌, arith}
use Rattle.ccan_endless.specs.Picture.{HasNumber}
use Rattle.ccan_endless.proofs.Picturing.{swept_none, swept_more, swept_moved}
use Rattle.ccan_endless.proofs.Onward.{on_again, on_through}
use Rattle.ccan_endless.proofs.picture.all_still.Goals as goal

pub loop-i-init : goal.loop-i-init
loop-i-init c = record { table = refl; onward = on_again _; told = λ p x view sound. swept_none HasNumber p x _ _ view sound }

pub returns-then-number_in-clause-no : goal.returns-then-number_in-clause-no
returns-then-number_in-clause-no c e p x view sound =
    let count = c.requires.count in
    let test = c.loop-i-test.true in
    swept_moved HasNumber (c.loop-i.invariant.told p x view sound) c.watch-now.ensures.told (omega arith)
    (λ equal. c.if-number_in.true (c.number_in.ensures ∙ (equal ∙ sym c.number_in-in-loop-i.ensures)))

pub loop-i-preserved : goal.loop-i-preserved
loop-i-preserved c =
    let i = c.loop-i.invariant in
    let t = c.watch-now.ensures.told in
    record {
      table = c.watch-now.ensures.same ∙ i.table;
      onward = on_through i.onward c.watch-now.ensures.onward;
      told = λ p x view sound.
          swept_more HasNumber (i.told p x view sound) t c.args.values.now (λ k l. refl)
          (sym c.number_in-in-loop-i.ensures ∙ (sym c.if-number_in.false ∙ (c.number_in.ensures ∙ t.head.number_is)));
    }

pub returns-then-number_in-clause-onward : goal.returns-then-number_in-clause-onward
returns-then-number_in-clause-onward c = on_through c.loop-i.invariant.onward c.watch-now.ensures.onward
