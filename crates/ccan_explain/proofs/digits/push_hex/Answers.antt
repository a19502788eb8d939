use Rattle.std.proofs.Common.{◌++◌, ◌∙◌, ap, arith, string_bytes}
use Rattle.ccan_explain.proofs.Capitals.{hex_pushed}
use Rattle.ccan_explain.proofs.digits.push_hex.Goals as goal

pub loop-place-preserved : goal.loop-place-preserved
loop-place-preserved c =
    let pushed = c.in_ok-push.ensures.bytes
    ∙ ap (λ t. string_bytes c.loop-place.text ++ t) (c.in_ok-push.ensures.ascii c.digit.ensures.ascii) in
    hex_pushed _ _ _ c.loop-place.place c.args.value _ (omega arith) pushed c.digit.ensures.glyph c.loop-place.invariant
