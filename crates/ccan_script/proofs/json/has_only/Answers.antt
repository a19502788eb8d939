use Rattle.std.proofs.Common.{◌∙◌, sym}
use Rattle.ccan_script.specs.Json.{has_only}
use Rattle.ccan_script.proofs.Names.{names_known}
use Rattle.ccan_script.proofs.json.has_only.Goals as goal

pub returns-in-Some : goal.returns-in-Some
unfolding has_only
returns-in-Some c = rw (sym c.in-Some.ensures)
    (c.are_among.ensures ∙ names_known (λ word. word.now) c.args.known.now c.in-Some.members.now.entries)
