use Rattle.std.proofs.Common.{◌≡◌, List, true, false, get_or, sym, ap, subst, ◌∙◌}
use Rattle.std.proofs.lemmas.Option.{slice_get-get_or}
use Rattle.ccan_language.specs.declared.letter.Letter.{Letter}
use Rattle.ccan_language.specs.Images.{image_of, word_image}
use Rattle.ccan_language.specs.Words.{IsWordFrom, with_letters}
use Rattle.ccan_language.proofs.Sourced.{with_all_tells}
use Rattle.ccan_language.proofs.sources.left_behind.Goals as goal

pub returns-else-contains-clause-complete : goal.returns-else-contains-clause-complete
returns-else-contains-clause-complete c = λ left image is.
    let to = c.args.edge.to in
    let into = c.args.into.now.nodes.keys in
    let found = c.in-Some.left.items in
    let right = rw c.in-Some.is at c.in_ok-left.ensures.right in
    let letters = image_of c.args.images.now c.args.edge.letter in
    let found_is : with_letters letters found ≡ c.args.word.now =
    ap (λ (l : List Letter). with_letters l found) (sym c.of.ensures) ∙ right in
    let same : left ≡ found = with_all_tells letters left found (is ∙ sym found_is) in
    let at = slice_get-get_or c.args.made.now to 0 c.requires.to in
    let image_is : word_image c.args.images.now image.0 ≡ c.as_slice.result.now =
    sym image.2 ∙ (same ∙ sym c.as_slice.ensures.value) in
    let stands = subst (λ (w : List Letter). IsWordFrom into (get_or c.args.made.now to 0) w) image_is
    (c.requires.images.complete to (get_or c.args.made.now to 0) image.0 at image.1) in
    let so : true ≡ false = sym (c.contains.ensures.complete stands) ∙ c.if-contains.false in
    cc
