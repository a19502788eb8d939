use Rattle.std.proofs.Common.{◌≡◌, map, subst, sym, rules}
use Rattle.ccan_lab.specs.Choices.{AreLinesOf}
use Rattle.ccan_lab.specs.Rows.{row_text}
use Rattle.ccan_lab.proofs.Chosen.{lines_printed}
use Rattle.ccan_lab.proofs.choices.end_rows.Goals as goal

pub returns : goal.returns
returns g c =
    let IsOutcome = g.T.ByLine.is_outcome c.args.outcomes.now in
    let ends = c.in_ok-ends.ends.items in
    let is : c.add_ends.new.rows ≡ map (row_text c.args.port) ends = search rules in
    subst (AreLinesOf IsOutcome c.args.port c.args.line) (sym is)
    (lines_printed IsOutcome c.args.port c.args.line ends c.in_ok-ends.ensures.ends)
