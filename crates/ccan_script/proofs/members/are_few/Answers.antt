use Rattle.std.proofs.Common.{sym}
use Rattle.serde_json.specs.View.{view}
use Rattle.ccan_script.proofs.Frames.{few_values}
use Rattle.ccan_script.proofs.members.are_few.Goals as goal

pub returns-in-Some : goal.returns-in-Some
returns-in-Some c =
    rw c.as_slice.ensures.value
    (few_values (view c.args.value.now) c.in-Some.frames.now.items (sym c.in-Some.ensures))
