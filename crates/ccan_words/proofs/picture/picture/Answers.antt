-- Each turn of the loop adds turns that were lost, with a change of another port in each; the turn that is not lost adds the
-- picture.
use Rattle.std.proofs.Common.{◌++◌, ◌≤◌, sym, refl, subst, ◌∙◌, arith}
use Rattle.ccan_words.specs.Plays.{Knows}
use Rattle.ccan_words.specs.Picture.{Added}
use Rattle.ccan_words.specs.View.{see}
use Rattle.ccan_words.proofs.Turns.{added_none, added_more, lost_more, pictured_by, few_turns, last}
use Rattle.ccan_words.proofs.picture.picture.Goals as goal

pub overflow_mul-most : goal.overflow_mul-most
overflow_mul-most g c =
    let few = (g.met.L.Layout.lies c.args.words.now.profile).few in let within = c.key.ensures.within in omega arith

pub overflow_add-most : goal.overflow_add-most
overflow_add-most g c =
    let few = (g.met.L.Layout.lies c.args.words.now.profile).few in let within = c.key.ensures.within in omega arith

pub loop-turn-init : goal.loop-turn-init
loop-turn-init g c = record {
  table = refl;
  told = λ x view sound quota. added_none g.L.Layout.contends c.args.words.now c.args.port x _ view sound;
}

pub loop-turn-preserved : goal.loop-turn-preserved
loop-turn-preserved g c =
    let contends = g.L.Layout.contends in
    let memory = c.args.words.now in
    let p = c.args.port in
    let F = g.L.Layout.form memory.profile in
    let h = c.requires.held in
    record {
      table = c.pose_once.ensures.same ∙ c.loop-turn.invariant.table;
      told = λ x view sound quota.
          let i = c.loop-turn.invariant.told x view sound quota in
          let within = c.key.ensures.within in
          let same = c.key.ensures.quota in
          let top : x.quota ≤ g.L.Layout.MOST = omega arith in
          let t = (rw c.if-pose_once.false at c.pose_once.ensures.told) (see _ x) i.1.view i.1.sound top in (
            _,
            added_more contends memory p F x i.0 _ _ i.1 t.turn,
            lost_more contends memory p F x i.0 _ _ i.1 c.loop-turn.turn t i.2,
          );
    }

pub returns-then-pose_once-clause-told : goal.returns-then-pose_once-clause-told
returns-then-pose_once-clause-told g c x view sound quota =
    let contends = g.L.Layout.contends in
    let memory = c.args.words.now in
    let p = c.args.port in
    let F = g.L.Layout.form memory.profile in
    let i = c.loop-turn.invariant.told x view sound quota in
    let within = c.key.ensures.within in
    let same = c.key.ensures.quota in
    let less = c.loop-turn-test.true in
    let t = (rw c.if-pose_once.true at c.pose_once.ensures.told) (see _ x) i.1.view i.1.sound (omega arith) in (
      _,
      subst (λ (m : Knows). Added memory.profile p x (last contends memory p F (see _ x) _ t.turn ++ i.0) m)
          (sym c.registers.ensures.same.1)
          (added_more contends memory p F x i.0 _ _ i.1 t.turn),
      pictured_by contends memory p F x i.0 _ _ i.1 c.loop-turn.turn _ c.registers.result t i.2 (omega arith)
          c.registers.ensures.shown,
    )

pub returns-clause-told : goal.returns-clause-told
returns-clause-told g c x view sound quota =
    let i = c.loop-turn.invariant.told x view sound quota in
    let few = few_turns g.L.Layout.contends c.args.words.now c.args.port x c.loop-turn.turn i.0 _ i.1 i.2 in
    let same = c.key.ensures.quota in
    let more = c.loop-turn-test.false in
    absurd (omega arith)
