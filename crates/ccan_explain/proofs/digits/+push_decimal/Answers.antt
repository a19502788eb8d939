use Rattle.std.proofs.Common.{ℕ, List, [], ◌∷◌, ◌++◌, ◌∙◌, ap, arith, string_bytes}
use Rattle.ccan_explain.proofs.Decimals.{decimal_pushed, digit_pushed}
use Rattle.ccan_explain.proofs.digits.+push_decimal.Goals as goal

pub returns-then-value-lt10 : goal.returns-then-value-lt10
returns-then-value-lt10 t c =
    let pushed = c.in_ok-push.ensures.bytes
    ∙ ap (λ (ds : List ℕ). string_bytes c.args.text.now ++ ds) (c.in_ok-push.ensures.ascii c.digit.ensures.ascii)
    ∙ ap (λ (d : ℕ). string_bytes c.args.text.now ++ d ∷ []) c.digit.ensures.glyph in
    digit_pushed _ _ c.args.value c.if-value-lt10.true pushed

pub returns : goal.returns
returns t c =
    let pushed = c.in_ok-push-2.ensures.bytes
    ∙ ap (λ (ds : List ℕ). string_bytes c.push_decimal.new.text ++ ds) (c.in_ok-push-2.ensures.ascii c.digit-2.ensures.ascii)
    ∙ ap (λ (d : ℕ). string_bytes c.push_decimal.new.text ++ d ∷ []) c.digit-2.ensures.glyph in
    decimal_pushed _ _ _ c.args.value c.if-value-lt10.false (omega arith) c.in_ok-push_decimal.ensures pushed
