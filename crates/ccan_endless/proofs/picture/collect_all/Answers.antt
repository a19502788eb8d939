use Rattle.std.proofs.Common.{◌≡◌, length, refl, length-set, ◌∙◌, sym, subst, ℕ, ◌+◌, arith}
use Rattle.std.proofs.lemmas.List.{get_or-set_same, get_or-set_other}
use Rattle.ccan_endless.specs.Rule.{IsHead}
use Rattle.ccan_endless.proofs.Picturing.{swept_none, swept_more}
use Rattle.ccan_endless.proofs.Onward.{on_again, on_through}
use Rattle.ccan_endless.proofs.picture.collect_all.Goals as goal

pub loop-i-init : goal.loop-i-init
loop-i-init c = record {
  table = refl;
  onward = on_again _;
  count = let size : length c.args.values.now ≡ 64 = search in size;
  told = λ p x view sound. swept_none IsHead p x _ _ view sound;
}

pub loop-i-preserved : goal.loop-i-preserved
loop-i-preserved c =
    let i = c.loop-i.invariant in
    let most = c.requires.most in
    let test = c.loop-i-test.true in
    let t = c.watch.ensures.told in
    record {
      table = c.watch.ensures.same ∙ i.table;
      onward = on_through i.onward c.watch.ensures.onward;
      count = length-set c.loop-i.values c.loop-i.i c.watch.result ∙ i.count;
      told = λ p x view sound.
          swept_more IsHead (i.told p x view sound) t _
          (λ k l. get_or-set_other c.loop-i.values c.loop-i.i k c.watch.result 0 (λ e. absurd (omega arith)))
          (subst (λ (v : ℕ). IsHead (c.loop-i.i + 1) v t.log)
          (sym (let n = i.count in get_or-set_same c.loop-i.values c.loop-i.i c.watch.result 0 (omega arith))) t.head);
    }
