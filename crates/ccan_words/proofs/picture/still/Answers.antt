use Rattle.std.proofs.Common.{refl, sym, ap, ◌∙◌, arith}
use Rattle.ccan_object.specs.Profile.{objects_in}
use Rattle.ccan_words.proofs.Picturing.{counted_none, counted_more, counted_moved}
use Rattle.ccan_words.proofs.picture.still.Goals as goal

pub loop-i-init : goal.loop-i-init
loop-i-init g c = record {
  table = refl;
  told = λ p x view sound. counted_none (g.L.Layout.form c.args.words.now.profile) p x _ _ view sound;
}

pub returns-then-head-numbers-clause-no : goal.returns-then-head-numbers-clause-no
returns-then-head-numbers-clause-no g c e p x view sound =
    let number = c.objects.ensures.number in
    counted_moved (g.L.Layout.form c.args.words.now.profile) (c.loop-i.invariant.told p x view sound) c.head.ensures.told
    (let test = c.loop-i-test.true in let same = ap objects_in c.key.ensures.profile in omega arith) c.if-head-numbers.true

pub loop-i-preserved : goal.loop-i-preserved
loop-i-preserved g c =
    let i = c.loop-i.invariant in
    record {
      table = c.head.ensures.same ∙ i.table;
      told = λ p x view sound.
          counted_more (g.L.Layout.form c.args.words.now.profile) (i.told p x view sound) c.head.ensures.told c.args.numbers.now
          (λ k l. refl) (sym c.if-head-numbers.false);
    }
