use Rattle.std.proofs.Common.{◌≡◌, ◌+◌, ◌*◌, ◌∙◌, ap, ap₂, Some, length, arith, sym, true}
use Rattle.std.specs.Char.{is_ascii_hexdigit}
use Rattle.std.specs.List.{list_all}
use Rattle.ccan_script.specs.Json.{is_four_digits}
use Rattle.ccan_script.proofs.Words.{four_value, pair_at}
use Rattle.ccan_script.proofs.json.four_digits.Goals as goal

pub returns : goal.returns
unfolding is_four_digits
returns c =
    let text = c.args.text.now in
    let same = c.as_bytes-digits.ensures.value in
    let four : length text ≡ 4 = omega (arith, ap length same, c.in-len4.len_at_least, c.in-len4.len_below) in
    let hex : list_all is_ascii_hexdigit text ≡ true = ap (list_all is_ascii_hexdigit) (sym same) ∙ sym c.are_hexadecimal.ensures
    ∙ c.if-not-are_hexadecimal.false in
    let high = c.from.ensures ∙ c.two_digits-high.ensures ∙ ap (λ t. pair_at t 0) same in
    let low = c.from-2.ensures ∙ c.two_digits-low.ensures ∙ ap (λ t. pair_at t 2) same in
    rw (four, hex) (ap Some (ap₂ (λ h l. h * 256 + l) high low ∙ four_value text four))
