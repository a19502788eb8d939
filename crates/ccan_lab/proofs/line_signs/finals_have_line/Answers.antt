use Rattle.std.proofs.Common.{◌∙◌, ℕ, List, ap}
use Rattle.std.specs.List.{enumerate_from, list_any}
use Rattle.clap.proofs.WalkLemmas.{list_any-map}
use Rattle.ccan_object.specs.declared.record.Record.{Record}
use Rattle.ccan_lab.specs.Rows.{begins_so, final_row, final_rows, has_line}
use Rattle.ccan_lab.proofs.line_signs.finals_have_line.Goals as goal

pub returns : goal.returns
unfolding has_line final_rows
returns c =
    let row : ℕ × Record → List ℕ = λ object. final_row object.0 object.1 in
    c.any_final_begins.ensures
    ∙ ap (λ (l : List Record). list_any (λ (object : ℕ × Record). begins_so c.args.begin.now (row object)) (enumerate_from 1 l))
    c.first_records.ensures.records
    ∙ list_any-map (begins_so c.args.begin.now) row _
