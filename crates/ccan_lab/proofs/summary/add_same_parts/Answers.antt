use Rattle.std.proofs.Common.{◌≡◌, ◌++◌, Bor, List, ℕ, string_bytes, take, length, ap, ◌∙◌, le_refl, arith}
use Rattle.std.proofs.lemmas.List.{take_all}
use Rattle.std.specs.List.{flat_map}
use Rattle.ccan_lab.specs.Sorted.{texts_of}
use Rattle.ccan_lab.specs.Summary.{same_part}
use Rattle.ccan_lab.proofs.Parts.{Lines, flat_map-map}
use Rattle.ccan_lab.proofs.Texts.{flat_goes_on}
use Rattle.ccan_lab.proofs.summary.add_same_parts.Goals as goal

pub loop-lines-preserved : goal.loop-lines-preserved
loop-lines-preserved c =
    let f : Lines → List ℕ = λ lines. same_part (texts_of lines.items) in
    let old = string_bytes c.loop-lines.text in
    flat_goes_on f old (string_bytes c.add_same.new.text) (string_bytes c.args.text.now) c.args.all.now
    c.loop-lines.lines-index c.lines-item.result c.loop-lines-test.true c.loop-lines.invariant
    (c.in_ok-add_same.ensures ∙ ap (λ (l : List (Bor (List ℕ))). old ++ same_part (texts_of l)) c.as_slice.ensures.value
    ∙ ap (λ (v : Lines). old ++ f v) c.lines-item.is)

pub returns : goal.returns
returns c =
    let text = string_bytes c.args.text.now in
    let all = c.args.all.now in
    let f : Lines → List ℕ = λ lines. same_part (texts_of lines.items) in
    let past = c.loop-lines-test.false in
    let before = c.loop-lines.auto.lines-index-end in
    let end : c.loop-lines.lines-index ≡ length all = omega (arith, past, before) in
    c.loop-lines.invariant ∙ ap (λ (n : ℕ). text ++ flat_map f (take n all)) end
    ∙ ap (λ (l : List Lines). text ++ flat_map f l) (take_all (length all) all (le_refl (length all)))
    ∙ ap (λ (t : List ℕ). text ++ t) (flat_map-map same_part (λ (lines : Lines). texts_of lines.items) all)
