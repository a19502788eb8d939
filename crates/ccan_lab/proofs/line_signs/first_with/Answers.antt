use Rattle.std.proofs.Common.{◌≡◌, ◌∙◌, Bor, List, ℕ, length, sym, ap}
use Rattle.std.specs.List.{range_with_len}
use Rattle.std.proofs.lemmas.List.{length-map}
use Rattle.ccan_language.specs.Count.{all_words}
use Rattle.ccan_language.specs.Signs.{first_with as first_with_signs}
use Rattle.ccan_language.proofs.Keys.{ok_on}
use Rattle.ccan_lab.specs.LineSigns.{tells_line}
use Rattle.ccan_lab.specs.Sorted.{texts_of}
use Rattle.ccan_lab.proofs.Sought.{first_is}
use Rattle.ccan_lab.proofs.line_signs.first_with.Goals as goal

pub returns-clause-first : goal.returns-clause-first
returns-clause-first c =
    let words = c.args.words.now in
    let begins = texts_of c.args.begins.now in
    let sought : c.as_slice.result.now ≡ range_with_len 0 (length begins) =
    c.as_slice.ensures.value ∙ c.in_ok-sought.ensures
    ∙ ap (range_with_len 0) (sym (length-map c.args.begins.now (λ (begin : Bor (List ℕ)). begin.now))) in
    ok_on c.first_with.result _ _ (λ found is.
    is ∙ ap (λ (l : List ℕ). first_with_signs (tells_line words begins) l (all_words words.graph.nodes.keys words.start)) sought
    ∙ first_is words c.requires begins) c.first_with.ensures.first
