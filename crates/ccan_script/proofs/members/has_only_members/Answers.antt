use Rattle.std.proofs.Common.{◌∙◌, sym}
use Rattle.ccan_script.specs.Json.{has_only}
use Rattle.ccan_script.specs.Member.{text_of}
use Rattle.ccan_script.proofs.Names.{names_known}
use Rattle.ccan_script.proofs.members.has_only_members.Goals as goal

pub returns-in-Some : goal.returns-in-Some
unfolding has_only
returns-in-Some c = rw (sym c.in-Some.ensures)
    (c.are_among.ensures ∙ names_known text_of c.args.row.now c.in-Some.object.now.entries)
