use Rattle.std.proofs.Common.{◌≡◌, ◌+◌, ◌++◌, ◌∷◌, [], ap, sym, ◌∙◌, rules}
use Rattle.ccan_outcomes.specs.RaceScript.{fields_of}
use Rattle.ccan_lab.specs.Beginnings.{has_transfer_of}
use Rattle.ccan_lab.proofs.Formed.{object_added, object_passed}
use Rattle.ccan_lab.proofs.beginnings.transferred_objects.Goals as goal
use Rattle.ccan_lab.proofs.beginnings.transferred_objects.Goals.{then-has_transfer_of+in_ok-push, else-has_transfer_of}

pub loop-index-preserved : goal.loop-index-preserved
loop-index-preserved c =
    let script = fields_of c.args.race.now in
    let count = c.loop-index.index in
    let here : c.unwrap-object.result ≡ count + 1 = search rules in
    let named : c.has_transfer_of.result ≡ has_transfer_of script (count + 1) =
    c.has_transfer_of.ensures ∙ ap (has_transfer_of script) here in
    elim c.if-has_transfer_of.branch [
      | then-has_transfer_of+in_ok-push w ↦
          (let pushed : c.if-has_transfer_of.objects.items ≡ c.loop-index.objects.items ++ c.unwrap-object.result ∷ [] = search rules in
          object_added script count c.unwrap-object.result c.loop-index.objects.items c.if-has_transfer_of.objects.items here
          (sym named ∙ w.if-has_transfer_of.true) c.loop-index.invariant pushed)
      | else-has_transfer_of w ↦
          (let kept : c.if-has_transfer_of.objects.items ≡ c.loop-index.objects.items = search rules in
          object_passed script count c.loop-index.objects.items c.if-has_transfer_of.objects.items
          (sym named ∙ w.if-has_transfer_of.false) c.loop-index.invariant kept)
    ]
