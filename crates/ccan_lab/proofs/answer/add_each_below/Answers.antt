use Rattle.std.proofs.Common.{◌≡◌, ◌++◌, Bor, List, ℕ, codes, string_bytes, take, length, ap, ◌∙◌, le_refl, arith}
use Rattle.std.proofs.lemmas.List.{take_all}
use Rattle.std.specs.List.{flat_map}
use Rattle.ccan_lab.proofs.Parts.{flat_map-map}
use Rattle.ccan_lab.proofs.Texts.{flat_goes_on}
use Rattle.ccan_lab.proofs.answer.add_each_below.Goals as goal

pub loop-begin-preserved : goal.loop-begin-preserved
loop-begin-preserved c =
    flat_goes_on (λ (begin : Bor (List ℕ)). codes "  " ++ (begin.now ++ codes "\n")) (string_bytes c.loop-begin.text)
    (string_bytes c.add_below.new.text) (string_bytes c.args.text.now) c.args.begins.now c.loop-begin.begin-index _
    c.loop-begin-test.true c.loop-begin.invariant c.in_ok-add_below.ensures

pub returns : goal.returns
returns c =
    let text = string_bytes c.args.text.now in
    let begins = c.args.begins.now in
    let f : Bor (List ℕ) → List ℕ = λ begin. codes "  " ++ (begin.now ++ codes "\n") in
    let past = c.loop-begin-test.false in
    let before = c.loop-begin.auto.begin-index-end in
    let end : c.loop-begin.begin-index ≡ length begins = omega (arith, past, before) in
    c.loop-begin.invariant ∙ ap (λ (n : ℕ). text ++ flat_map f (take n begins)) end
    ∙ ap (λ (l : List (Bor (List ℕ))). text ++ flat_map f l) (take_all (length begins) begins (le_refl (length begins)))
    ∙ ap (λ (t : List ℕ). text ++ t) (flat_map-map (λ (begin : List ℕ). codes "  " ++ (begin ++ codes "\n"))
    (λ (begin : Bor (List ℕ)). begin.now) begins)
