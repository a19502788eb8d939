use Rattle.std.proofs.Common.{◌∙◌}
use Rattle.serde_json.specs.View.{view}
use Rattle.ccan_script.specs.ScriptCheck.{first_fault}
use Rattle.ccan_script.proofs.Told.{first_of_value}
use Rattle.ccan_script.proofs.check.script_check.value_report.Goals as goal

pub returns : goal.returns
returns c =
    first_of_value c.args.bytes.now c.args.error c.as_str.result.now
    (view c.args.value.now) (first_fault c.in_ok-told.told.items) c.requires
    (c.as_str.ensures.value ∙ c.in_ok-path.ensures) c.in_ok-told.ensures
