use Rattle.std.proofs.Common.{◌+◌, ◌*◌, ◌∙◌, ap, get_or, length, arith}
use Rattle.std.specs.Char.{digit_value}
use Rattle.ccan_script.proofs.DataBytes.{all_bytes, digit_at, one_more}
use Rattle.ccan_script.proofs.frame_data.eight_bytes.Goals as goal

pub two_digits-requires-clause-high : goal.two_digits-requires-clause-high
two_digits-requires-clause-high c =
    let same = ap length c.as_bytes-digits.ensures.value in
    rw c.as_bytes-digits.ensures.value (digit_at c.args.text.now (2 * c.loop-place.place) c.requires.digits
    (omega (arith, same, c.loop-place-test.true)))

pub two_digits-requires-clause-low : goal.two_digits-requires-clause-low
two_digits-requires-clause-low c =
    let same = ap length c.as_bytes-digits.ensures.value in
    rw c.as_bytes-digits.ensures.value (digit_at c.args.text.now (2 * c.loop-place.place + 1) c.requires.digits
    (omega (arith, same, c.loop-place-test.true)))

pub loop-place-preserved : goal.loop-place-preserved
loop-place-preserved c =
    let same = ap length c.as_bytes-digits.ensures.value in
    let n = c.loop-place.place in
    let read = c.two_digits.ensures
    ∙ ap (λ t. digit_value (get_or t (2 * n) 0) * 16 + digit_value (get_or t (2 * n + 1) 0)) c.as_bytes-digits.ensures.value in
    one_more n c.two_digits.result c.args.text.now c.loop-place.bytes
    (omega (arith, same, c.loop-place-test.true, c.requires.short)) (omega (arith, same, c.loop-place-test.true))
    read c.loop-place.invariant

pub returns : goal.returns
returns c =
    let same = ap length c.as_bytes-digits.ensures.value in
    all_bytes c.loop-place.place c.args.text.now c.loop-place.bytes c.requires.digits c.requires.short
    (omega (arith, same, c.loop-place-test.false, c.loop-place.auto.place-end)) c.loop-place.invariant
