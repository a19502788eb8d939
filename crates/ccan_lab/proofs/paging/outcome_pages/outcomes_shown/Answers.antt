use Rattle.std.proofs.Common.{◌≡◌, ◌∙◌, ℕ, Some, None, length, min, slice_get, sym, subst, add-one, arith}
use Rattle.std.proofs.lemmas.Option.{slice_get_within}
use Rattle.ccan_outcomes.specs.RaceScript.{fields_of}
use Rattle.ccan_outcomes.specs.OutcomeWords.{endings_in}
use Rattle.ccan_lab.specs.Paging.{AreShown}
use Rattle.ccan_lab.specs.Sorted.{all_texts}
use Rattle.ccan_lab.specs.Telling.{frames_in}
use Rattle.ccan_lab.proofs.Listed.{past_all}
use Rattle.ccan_lab.proofs.paging.outcome_pages.outcomes_shown.Goals as goal

-- one more, behind those so far
pub loop-place-preserved : goal.loop-place-preserved
loop-place-preserved g c =
    let place = c.loop-place.place in
    let script = fields_of c.args.telling.now.query.now.race.now in
    let frames = frames_in c.args.telling.now.list.now in
    let endings = endings_in c.args.telling.now.list.now.words in
    let ending = c.in-Some.ending in
    let at : slice_get endings place ≡ Some ending = sym c.in_ok-ending.ensures ∙ c.in-Some.is in
    let low = slice_get_within endings place ending at in
    record {
      within = omega (arith, low);
      are = subst (λ (count : ℕ). AreShown frames script endings (all_texts c.args.choices.now) count c.add_shown.new.shown.items)
          (sym (add-one place)) (
            c.loop-place.shown.items,
            c.in_ok-outcome.outcome,
            c.in_ok-add_shown.ensures,
            c.loop-place.invariant.are,
            c.in_ok-outcome.ensures,
          );
    }

-- behind the last of all
pub returns-in_default : goal.returns-in_default
returns-in_default g c =
    let place = c.loop-place.place in
    let endings = endings_in c.args.telling.now.list.now.words in
    let low = c.loop-place-test.true in
    let within = c.loop-place.invariant.within in
    let none : slice_get endings place ≡ None = sym c.in_ok-ending.ensures ∙ c.in_default.is in
    let past = past_all endings place none in
    let same : place ≡ min c.args.limit (length endings) = omega (arith, low, within, past) in
    subst (λ (n : ℕ). AreShown (frames_in c.args.telling.now.list.now) (fields_of c.args.telling.now.query.now.race.now) endings
    (all_texts c.args.choices.now) n
    c.loop-place.shown.items) same c.loop-place.invariant.are

-- behind as many as are to be shown
pub returns : goal.returns
returns g c =
    let place = c.loop-place.place in
    let endings = endings_in c.args.telling.now.list.now.words in
    let high = c.loop-place-test.false in
    let end = c.loop-place.auto.place-end in
    let within = c.loop-place.invariant.within in
    let same : place ≡ min c.args.limit (length endings) = omega (arith, high, end, within) in
    subst (λ (n : ℕ). AreShown (frames_in c.args.telling.now.list.now) (fields_of c.args.telling.now.query.now.race.now) endings
    (all_texts c.args.choices.now) n
    c.loop-place.shown.items) same c.loop-place.invariant.are
