use Rattle.std.proofs.Common.{◌≡◌, ◌++◌, List, ℕ, string_bytes, sym, ap, ◌∙◌}
use Rattle.ccan_lab.specs.Place.{place_name}
use Rattle.ccan_lab.specs.Sorted.{all_texts, texts_of}
use Rattle.ccan_lab.specs.Summary.{choice_part, choices_at}
use Rattle.ccan_lab.proofs.Parts.{choices_read}
use Rattle.ccan_lab.proofs.Texts.{each_begins, each_goes_on}
use Rattle.ccan_lab.proofs.summary.add_choice_parts.Goals as goal

pub loop-place-init : goal.loop-place-init
loop-place-init c =
    each_begins (string_bytes c.args.text.now) (λ place. choice_part
    (place_name c.args.counts.now.if1 c.args.counts.now.if2 c.args.counts.now.bus place)
    (choices_at (all_texts c.args.all.now) place))

pub loop-place-preserved : goal.loop-place-preserved
loop-place-preserved c =
    let place = c.loop-place.place in
    let counts = c.args.counts.now in
    let all = c.args.all.now in
    let name = place_name counts.if1 counts.if2 counts.bus in
    let here : choices_at (all_texts all) place ≡ texts_of c.index-all-place.result.items =
    choices_read all place c.index-all-place.result c.loop-place-test.true c.index-all-place.is in
    each_goes_on (string_bytes c.loop-place.text) (string_bytes c.add_choices.new.text) (string_bytes c.args.text.now)
    (λ place. choice_part (name place) (choices_at (all_texts all) place)) place c.loop-place.invariant
    (c.in_ok-add_choices.ensures ∙ ap (λ (l : List (List ℕ)). string_bytes c.loop-place.text ++ choice_part (name place) l)
    (ap texts_of c.as_slice.ensures.value ∙ sym here))
