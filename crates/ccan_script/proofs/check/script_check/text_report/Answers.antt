use Rattle.std.proofs.Common.{[]}
use Rattle.ccan_script.specs.ScriptCheck.{first_fault}
use Rattle.ccan_script.proofs.Told.{first_of_text}
use Rattle.ccan_script.proofs.check.script_check.text_report.Goals as goal

pub returns : goal.returns
returns c =
    first_of_text c.args.bytes.now c.args.error []
    (first_fault c.in_ok-told.told.items) (c.requires c.in_ok-faults.ensures) c.in_ok-told.ensures
