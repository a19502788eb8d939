use Rattle.std.proofs.Common.{◌≡◌, ◌+◌, ℕ, map, ap, ◌∙◌, rules}
use Rattle.ccan_lab.specs.Choices.{final_of}
use Rattle.ccan_lab.proofs.Added.{objects_more, objects_none}
use Rattle.ccan_lab.proofs.choices.add_objects.Goals as goal

pub loop-index-init : goal.loop-index-init
loop-index-init c = objects_none c.args.memories.now c.args.all.now.items

pub loop-index-preserved : goal.loop-index-preserved
loop-index-preserved c =
    let memories = c.args.memories.now in
    let here : c.unwrap-object.result ≡ c.loop-index.index + 1 = search rules in
    objects_more memories c.loop-index.index c.args.all.now.items c.loop-index.all.items c.push.new.self.items
    c.in_ok-object_rows.field-0 c.loop-index.invariant
    (c.in_ok-object_rows.ensures ∙ ap (λ (n : ℕ). map (final_of n) memories) here) c.in_ok-push.ensures.items
