use Rattle.std.proofs.Common.{◌≡◌, ◌++◌, Bor, List, ℕ, string_bytes, take, length, ap, ◌∙◌, le_refl, arith}
use Rattle.std.proofs.lemmas.List.{take_all}
use Rattle.std.specs.List.{flat_map}
use Rattle.ccan_lab.specs.Summary.{choice_text}
use Rattle.ccan_lab.proofs.Parts.{flat_map-map}
use Rattle.ccan_lab.proofs.Texts.{flat_goes_on}
use Rattle.ccan_lab.proofs.summary.add_choice_lines.Goals as goal

pub loop-line-preserved : goal.loop-line-preserved
loop-line-preserved c =
    flat_goes_on (λ (line : Bor (List ℕ)). choice_text line.now) (string_bytes c.loop-line.text)
    (string_bytes c.add_choice.new.text) (string_bytes c.args.text.now) c.args.lines.now c.loop-line.line-index _
    c.loop-line-test.true c.loop-line.invariant c.in_ok-add_choice.ensures

pub returns : goal.returns
returns c =
    let text = string_bytes c.args.text.now in
    let lines = c.args.lines.now in
    let f : Bor (List ℕ) → List ℕ = λ line. choice_text line.now in
    let past = c.loop-line-test.false in
    let before = c.loop-line.auto.line-index-end in
    let end : c.loop-line.line-index ≡ length lines = omega (arith, past, before) in
    c.loop-line.invariant ∙ ap (λ (n : ℕ). text ++ flat_map f (take n lines)) end
    ∙ ap (λ (l : List (Bor (List ℕ))). text ++ flat_map f l) (take_all (length lines) lines (le_refl (length lines)))
    ∙ ap (λ (t : List ℕ). text ++ t) (flat_map-map choice_text (λ (line : Bor (List ℕ)). line.now) lines)
