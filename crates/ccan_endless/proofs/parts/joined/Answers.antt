use Rattle.std.proofs.Common.{◌∙◌, ◌/◌, ap, sym}
use Rattle.std.specs.Option.{unwrap_or}
use Rattle.ccan_endless.proofs.Marks.{packs, packed_from, unmarked, unmarked_is, to_valid}
use Rattle.ccan_endless.proofs.MarkedFlags.{is_set}
use Rattle.ccan_endless.proofs.parts.joined.Goals as goal

pub returns : goal.returns
returns c object is m b =
    let packed = packs object is ∙ (λ i. packed_from (m i) (b i)) in
    let held = c.unpack.ensures.every (unmarked object) (unmarked_is object is) packed in
    let found = c.unwrap_or-unmarked.ensures ∙ ap (λ some. unwrap_or some c.zero.result) held in
    let valid = is_set object.valid (c.args.marks / 8192) (ap (λ n. n / 8192) (sym m) ∙ to_valid object is.dlc) in
    λ i. record (found i) { valid = valid i }
