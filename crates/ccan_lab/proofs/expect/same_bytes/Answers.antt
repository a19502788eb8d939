use Rattle.std.proofs.Common.{◌≡◌, ◌<◌, ◌≤◌, ◌+◌, length, get_or, arith, rules}
use Rattle.std.proofs.lemmas.List.{take_more_same}
use Rattle.ccan_lab.proofs.expect.same_bytes.Goals as goal

pub loop-offset-preserved : goal.loop-offset-preserved
loop-offset-preserved c =
    let xs = c.args.expected.now in
    let ys = c.args.printed.now in
    let i = c.loop-offset.offset in
    let within : i < length xs = omega arith in
    let within_too : i < length ys = omega arith in
    let next : i + 1 ≤ length ys = omega arith in
    let same : get_or xs i 0 ≡ get_or ys i 0 = search rules in
    (next, take_more_same xs ys i 0 within within_too c.loop-offset.invariant.1 same)
