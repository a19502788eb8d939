use Rattle.std.proofs.Common.{◌∙◌, arith}
use Rattle.ccan_ram.proofs.Attempts.{lost_more, unspent, committed}
use Rattle.ccan_ram.proofs.NeverBusy.{few_so_far}
use Rattle.test_memories.proofs.shared.contended.ContendedAccess.change.Goals as goal

pub loop-turn-preserved : goal.loop-turn-preserved
loop-turn-preserved g c =
    let so_far = c.loop-turn.invariant in
    let drafted = c.prepare-draft.ensures in
    record {
      mine = c.commit.ensures.memory ∙ (drafted.memory ∙ so_far.mine);
      theirs = c.change.ensures.memory ∙ so_far.theirs;
      same = so_far.same;
      quota = so_far.quota;
      lost =
          lost_more _ _ _ _ c.prepare-draft.result drafted.object so_far.lost drafted.looks _
          (rw c.in-Err-Lost.field-0-is at c.in-Err-Lost.ensures.commits);
    }

pub returns-in-Ok-clause-attempts : goal.returns-in-Ok-clause-attempts
returns-in-Ok-clause-attempts g c =
    let drafted = c.prepare-draft.ensures in
    committed _ _ _ _ c.prepare-draft.result drafted.object c.loop-turn.invariant.lost drafted.looks _ c.in-Ok.changed
    (omega arith)
    c.in-Ok.ensures.commits

pub returns-in-Err-Spent-clause-attempts : goal.returns-in-Err-Spent-clause-attempts
returns-in-Err-Spent-clause-attempts g c =
    let drafted = c.prepare-draft.ensures in
    unspent _ _ _ _ c.prepare-draft.result drafted.object c.loop-turn.invariant.lost drafted.looks
    (rw c.in-Err-Spent.field-0-is at c.in-Err-Spent.ensures.commits)

pub returns-clause-few : goal.returns-clause-few
returns-clause-few g c =
    let ram = g.R.SharedRam in
    let few =
    few_so_far ram.contends (ram.pass c.args.self.now.port) (ram.pass c.loop-turn.self.port) c.args.object
    c.args.change.now c.loop-turn.turn
    c.loop-turn.last c.used.ensures.possible c.loop-turn.invariant.lost in
    omega arith
