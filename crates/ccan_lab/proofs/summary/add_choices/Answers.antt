use Rattle.std.proofs.Common.{◌++◌, ℕ, List, string_bytes, append-nil, append_assoc, codes, sym, ap, ◌∙◌}
use Rattle.std.specs.List.{flat_map}
use Rattle.ccan_lab.specs.Place.{place_name}
use Rattle.ccan_lab.specs.Sorted.{texts_of}
use Rattle.ccan_lab.specs.Summary.{choice_text}
use Rattle.ccan_lab.proofs.Parts.{choices_none, choices_several}
use Rattle.ccan_lab.proofs.summary.add_choices.Goals as goal

pub returns-in_ok-add_choice_lines : goal.returns-in_ok-add_choice_lines
returns-in_ok-add_choice_lines c =
    let name = place_name c.args.counts.now.if1 c.args.counts.now.if2 c.args.counts.now.bus c.args.place in
    let text = string_bytes c.args.text.now in
    let lines = c.args.lines.now in
    let later = flat_map choice_text (texts_of lines) in
    c.in_ok-add_choice_lines.ensures
    ∙ ap (λ (t : List ℕ). t ++ later)
    (c.in_ok-push_str.ensures.bytes ∙ ap (λ (t : List ℕ). t ++ codes "\n") c.in_ok-add_place_name.ensures)
    ∙ append_assoc (text ++ name) (codes "\n") later ∙ append_assoc text name (codes "\n" ++ later)
    ∙ ap (λ (t : List ℕ). text ++ t) (sym (choices_several name lines c.if-lines-gt1.true))

pub returns-else-lines-gt1 : goal.returns-else-lines-gt1
returns-else-lines-gt1 c =
    let text = string_bytes c.args.text.now in
    let name = place_name c.args.counts.now.if1 c.args.counts.now.if2 c.args.counts.now.bus c.args.place in
    sym (ap (λ (t : List ℕ). text ++ t) (choices_none name c.args.lines.now c.if-lines-gt1.false) ∙ append-nil text)
