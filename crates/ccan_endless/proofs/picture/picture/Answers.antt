-- Each turn of the loop adds turns that were lost, with a change of another port in each; the turn that is not lost adds the
-- picture.
use Rattle.std.proofs.Common.{refl, subst, ◌∙◌, arith}
use Rattle.ccan_object.specs.declared.profile.Profile.{Profile}
use Rattle.ccan_endless.specs.Picture.{ShowsAll}
use Rattle.ccan_endless.specs.View.{see}
use Rattle.ccan_endless.proofs.Turns.{added_none, added_more, lost_more, pictured_by, few_turns}
use Rattle.ccan_endless.proofs.Onward.{on_again, on_through}
use Rattle.ccan_endless.proofs.picture.picture.Goals as goal

pub loop-turn-init : goal.loop-turn-init
loop-turn-init c = record {
  table = refl;
  onward = on_again _;
  told = λ x view sound quota. added_none c.args.words.now c.args.port x _ view sound;
}

pub loop-turn-preserved : goal.loop-turn-preserved
loop-turn-preserved c =
    let memory = c.args.words.now in
    let p = c.args.port in
    record {
      table = c.pose_once.ensures.same ∙ c.loop-turn.invariant.table;
      onward = on_through c.loop-turn.invariant.onward c.pose_once.ensures.onward;
      told = λ x view sound quota.
          let i = c.loop-turn.invariant.told x view sound quota in
          let t = (rw c.if-pose_once.false at c.pose_once.ensures.told) (see _ x) i.1.view i.1.sound in (
            _,
            added_more memory p x i.0 _ _ i.1 t.turn,
            lost_more memory p x i.0 _ _ i.1 c.loop-turn.turn t i.2,
          );
    }

pub returns-then-pose_once-clause-told : goal.returns-then-pose_once-clause-told
returns-then-pose_once-clause-told c x view sound quota =
    let memory = c.args.words.now in
    let p = c.args.port in
    let i = c.loop-turn.invariant.told x view sound quota in
    let same = c.key-key.ensures.quota in
    let less = c.loop-turn-test.true in
    let t = (rw c.if-pose_once.true at c.pose_once.ensures.told) (see _ x) i.1.view i.1.sound in (
      _,
      added_more memory p x i.0 _ _ i.1 t.turn,
      pictured_by memory p x i.0 _ _ i.1 c.loop-turn.turn _ c.registers.result t i.2 (omega arith)
          (subst (λ (u : Profile). ShowsAll u c.pose_once.new.values c.registers.result) c.key-key.ensures.profile
          c.registers.ensures.shown),
    )

pub returns-clause-told : goal.returns-clause-told
returns-clause-told c x view sound quota =
    let i = c.loop-turn.invariant.told x view sound quota in
    let few = few_turns c.args.words.now c.args.port x c.loop-turn.turn i.0 _ i.1 i.2 in
    let same = c.key-key.ensures.quota in
    let more = c.loop-turn-test.false in
    absurd (omega arith)

pub returns-then-pose_once-clause-onward : goal.returns-then-pose_once-clause-onward
returns-then-pose_once-clause-onward c = on_through c.loop-turn.invariant.onward c.pose_once.ensures.onward
