use Rattle.std.proofs.Common.{ℕ, ◌≡◌, ◌+◌, ◌-◌, ◌<◌, List, get_or, length, take, sym, ap, ◌∙◌, arith}
use Rattle.ccan_language.specs.declared.letter.Letter.{Letter}
use Rattle.ccan_language.specs.Words.{with_letter, with_letters}
use Rattle.ccan_language.proofs.Sourced.{last_added, with_tells}
use Rattle.ccan_language.proofs.sources.shorter_by.Goals as goal

abbrev none : Letter
none = record { place = 0; answer = 0 }

pub loop-count-preserved : goal.loop-count-preserved
loop-count-preserved c =
    let letters = c.args.letters.now in
    let i = c.loop-count.count - 1 in
    let letter : Letter = get_or letters i none in
    let some = c.loop-count-test.true in
    let many = c.loop-count.invariant.few in
    let count_is : i + 1 ≡ c.loop-count.count = omega (arith, some) in
    let low : i < length letters = omega (arith, some, many) in
    let right = rw c.in-Some.is at c.in_ok-shorter.ensures.right in
    let left_is = right ∙ c.as_slice.ensures.value in
    let added = λ (word : List Letter). ap (λ (n : ℕ). with_letters (take n letters) word) (sym count_is)
    ∙ last_added letters i none word low in
    record {
      few = omega (arith, many);
      right = λ (shorter : List Letter) is.
          c.loop-count.invariant.right shorter
          (added shorter ∙ (ap (with_letter letter) is ∙ left_is));
      complete = λ (shorter : List Letter) is.
          with_tells letter (with_letters (take i letters) shorter) c.in-Some.shorter.items
          (sym (added shorter) ∙ (c.loop-count.invariant.complete shorter is ∙ sym left_is));
    }

pub returns-in-None-clause-complete : goal.returns-in-None-clause-complete
returns-in-None-clause-complete c = λ shorter is.
    let letters = c.args.letters.now in
    let i = c.loop-count.count - 1 in
    let some = c.loop-count-test.true in
    let many = c.loop-count.invariant.few in
    let count_is : i + 1 ≡ c.loop-count.count = omega (arith, some) in
    let low : i < length letters = omega (arith, some, many) in
    let never = rw c.in-None.is at c.in_ok-shorter.ensures.complete in
    never (with_letters (take i letters) shorter)
    (sym (ap (λ (n : ℕ). with_letters (take n letters) shorter) (sym count_is) ∙ last_added letters i none shorter low)
    ∙ (c.loop-count.invariant.complete shorter is ∙ sym c.as_slice.ensures.value))
