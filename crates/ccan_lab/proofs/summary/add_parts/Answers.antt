use Rattle.std.proofs.Common.{◌≡◌, ◌++◌, ◌∙◌, List, ℕ, append_assoc, string_bytes, subst}
use Rattle.ccan_outcomes.specs.RaceScript.{fields_of}
use Rattle.ccan_lab.specs.Place.{place_name}
use Rattle.ccan_lab.specs.Sorted.{AreAllInOrder, all_texts}
use Rattle.ccan_lab.specs.Summary.{choice_parts, name_in, same_parts}
use Rattle.ccan_lab.proofs.Listed.{has_choices}
use Rattle.ccan_lab.proofs.summary.add_parts.Goals as goal

pub returns : goal.returns
returns g c =
    let script = fields_of c.args.race.now in
    let IsOutcome = g.T.ByLine.is_outcome c.args.outcomes.now in
    let rows = c.in_ok-choices.choices.items in
    let choices = all_texts c.in_ok-sorted.sorted.items in
    let ordered : AreAllInOrder rows choices =
    subst (λ (l : List (List (List ℕ))). AreAllInOrder l choices) c.as_slice.ensures.value c.in_ok-sorted.ensures in
    let same = same_parts choices in
    let others = choice_parts choices (name_in script) in
    let named : choice_parts (all_texts c.as_slice-3.result.now)
    (place_name c.counts_of.result.if1 c.counts_of.result.if2 c.counts_of.result.bus) ≡ others =
    (λ i. choice_parts (all_texts (c.as_slice-3.ensures.value i))
    (place_name (c.counts_of.ensures.if1 i) (c.counts_of.ensures.if2 i) (c.counts_of.ensures.bus i))) in
    record {
      choices = choices;
      has_choices = has_choices script IsOutcome rows choices c.in_ok-choices.ensures.places c.in_ok-choices.ensures.lines ordered;
      new_is =
          c.in_ok-add_choice_parts.ensures ∙ (λ i. (c.in_ok-add_same_parts.ensures
          ∙ (λ j. string_bytes c.args.text.now ++ same_parts (all_texts (c.as_slice-2.ensures.value j)))) i ++ named i)
          ∙ append_assoc (string_bytes c.args.text.now) same others;
    }
