use Rattle.std.proofs.Common.{◌≡◌, ◌++◌, ◌∷◌, [], List, Some, take, slice_get, sym, ap, ◌∙◌, arith}
use Rattle.std.proofs.lemmas.List.{take_more}
use Rattle.std.proofs.lemmas.Option.{get_or_from_slice_get, slice_get_within}
use Rattle.ccan_outcomes.specs.declared.ending.Ending.{Ending}
use Rattle.ccan_outcomes.specs.OutcomeWords.{endings_in}
use Rattle.ccan_lab.proofs.outcome_words.all_endings.Goals as goal

pub loop-number-preserved : goal.loop-number-preserved
loop-number-preserved c =
    let endings = endings_in c.args.words.now in
    let number = c.loop-number.number in
    let ending = c.in-Some.ending in
    let at : slice_get endings number ≡ Some ending = sym c.in_ok-ending.ensures ∙ c.in-Some.is in
    let low = slice_get_within endings number ending at in
    record {
      within = omega (arith, low);
      are = c.in_ok-push.ensures.items ∙ ap (λ (l : List Ending). l ++ ending ∷ []) c.loop-number.invariant.are
          ∙ sym (take_more endings number ending low
          ∙ ap (λ (e : Ending). take number endings ++ e ∷ []) (get_or_from_slice_get endings number ending ending at));
    }
