-- The loop has lost as many tries as it has turns behind it; each turn is a prepare and a commit, which ends the attempt or
-- adds one lost try.
use Rattle.std.proofs.Common.{◌∙◌, ap, subst, arith}
use Rattle.ccan_ram.specs.SharedRam.{Memory, CanSee}
use Rattle.ccan_ram.proofs.Attempts.{lost_more, unspent, committed, told}
use Rattle.ccan_ram.proofs.NeverBusy.{few_so_far}
use Rattle.ccan_words.proofs.Ports.{seen_within}
use Rattle.ccan_words.proofs.ram.RamSharedRam.change.Goals as goal

pub loop-turn-preserved : goal.loop-turn-preserved
loop-turn-preserved g c =
    let so_far = c.loop-turn.invariant in
    let drafted = c.prepare-draft.ensures in
    record {
      memory = c.commit.ensures.memory ∙ (drafted.memory ∙ so_far.memory);
      lost =
          lost_more _ _ _ _ c.prepare-draft.result drafted.object so_far.lost drafted.looks _
          (rw c.in-Err-Lost.field-0-is at c.in-Err-Lost.ensures.commits);
    }

pub returns-in-Ok-clause-attempts : goal.returns-in-Ok-clause-attempts
returns-in-Ok-clause-attempts g c =
    let drafted = c.prepare-draft.ensures in
    committed _ _ _ _ c.prepare-draft.result drafted.object c.loop-turn.invariant.lost drafted.looks _ c.in-Ok.changed
    (omega arith)
    c.in-Ok.ensures.commits

pub returns-in-Ok-clause-tells : goal.returns-in-Ok-clause-tells
returns-in-Ok-clause-tells g c = told c.prepare-draft.result c.args.change.now c.args.tries c.in-Ok.changed c.in-Ok.ensures.tells

pub returns-in-Err-Spent-clause-attempts : goal.returns-in-Err-Spent-clause-attempts
returns-in-Err-Spent-clause-attempts g c =
    let drafted = c.prepare-draft.ensures in
    unspent _ _ _ _ c.prepare-draft.result drafted.object c.loop-turn.invariant.lost drafted.looks
    (rw c.in-Err-Spent.field-0-is at c.in-Err-Spent.ensures.commits)

pub returns-clause-few : goal.returns-clause-few
returns-clause-few g c =
    let here = subst CanSee c.port.view_is (seen_within c.port.inside c.port.invariant) in
    let few =
    few_so_far g.L.Layout.contends c.args.port.now c.loop-turn.port c.args.object c.args.change.now c.loop-turn.turn
    c.loop-turn.last
    here c.loop-turn.invariant.lost in
    let mine = ap (λ (m : Memory). m.quota) c.requires.memory in
    omega arith
