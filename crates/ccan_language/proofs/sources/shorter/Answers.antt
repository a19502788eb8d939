use Rattle.std.proofs.Common.{◌≡◌, ap, ◌∙◌, sym}
use Rattle.ccan_language.specs.Images.{without_letter}
use Rattle.ccan_language.specs.Words.{with_letter}
use Rattle.ccan_language.proofs.Decided.{without_with}
use Rattle.ccan_language.proofs.Sourced.{unlike_by, word_tells}
use Rattle.ccan_language.proofs.sources.shorter.Goals as goal

pub returns-then-eq-clause-right : goal.returns-then-eq-clause-right
returns-then-eq-clause-right c =
    let longer = c.in_ok-with_letter.ensures in
    ap (with_letter c.args.letter) (sym c.as_slice.ensures.value)
    ∙ (sym longer ∙ (sym c.as_slice-2.ensures.value
    ∙ (word_tells c.as_slice-2.result.now c.args.word.now c.eq.result c.eq.ensures).0 c.if-eq.true))

pub returns-else-eq-clause-complete : goal.returns-else-eq-clause-complete
returns-else-eq-clause-complete c = λ shorter is.
    let letter = c.args.letter in
    let word = c.args.word.now in
    let left : c.as_slice.result.now ≡ shorter =
    c.as_slice.ensures.value ∙ (c.in_ok-shorter.ensures
    ∙ (ap (without_letter letter) (sym is) ∙ without_with letter shorter)) in
    unlike_by c.as_slice-2.result.now word c.eq.result c.eq.ensures c.if-eq.false
    (c.as_slice-2.ensures.value ∙ (c.in_ok-with_letter.ensures ∙ (ap (with_letter letter) left ∙ is)))
