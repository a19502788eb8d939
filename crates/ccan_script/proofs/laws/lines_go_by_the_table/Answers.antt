use Rattle.ccan_script.proofs.MemberRows.{go_by_table}
use Rattle.ccan_script.proofs.laws.lines_go_by_the_table.Goals as goal

pub returns : goal.returns
returns c = go_by_table
