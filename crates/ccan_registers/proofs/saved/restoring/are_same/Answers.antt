use Rattle.std.proofs.Common.{◌<◌, length, ◌∙◌, arith}
use Rattle.std.proofs.lemmas.List.{get_or_default, take_more_same}
use Rattle.ccan_registers.proofs.saved.restoring.are_same.Goals as goal

pub loop-k-preserved : goal.loop-k-preserved
loop-k-preserved c =
    let k = c.loop-k.k in
    let a = c.args.first.now in
    let b = c.args.second.now in
    let x = c.index-first-k.result in
    let y = c.index-second-k.result in
    let low : k < length a = omega arith in
    let high : k < length b = omega arith in
    take_more_same a b k x low high c.loop-k.invariant
    (c.is_same.ensures.0 c.if-not-is_same.false ∙ get_or_default b k y x high)
