use Rattle.std.proofs.Common.{◌≡◌, length, refl, length-set, ◌∙◌, arith}
use Rattle.std.proofs.lemmas.List.{get_or-set_same, get_or-set_other}
use Rattle.ccan_words.proofs.Picturing.{counted_none, counted_more}
use Rattle.ccan_words.proofs.picture.collect.Goals as goal

pub loop-i-init : goal.loop-i-init
loop-i-init g c = record {
  table = refl;
  count = let size : length c.args.numbers.now ≡ 64 = search in size;
  told = λ p x view sound. counted_none (g.L.Layout.form c.args.words.now.profile) p x _ _ view sound;
}

pub loop-i-preserved : goal.loop-i-preserved
loop-i-preserved g c =
    let i = c.loop-i.invariant in
    let most = c.objects.ensures.most in
    let test = c.loop-i-test.true in
    record {
      table = c.head.ensures.same ∙ i.table;
      count = length-set c.loop-i.numbers c.loop-i.i c.head.result ∙ i.count;
      told = λ p x view sound.
          counted_more (g.L.Layout.form c.args.words.now.profile) (i.told p x view sound) c.head.ensures.told _
          (λ k l. get_or-set_other c.loop-i.numbers c.loop-i.i k c.head.result 0 (λ e. absurd (omega arith)))
          (let n = i.count in get_or-set_same c.loop-i.numbers c.loop-i.i c.head.result 0 (omega arith));
    }
