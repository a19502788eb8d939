-- Each return is one case of the definition: the script is at fault, its member `before` is, or neither.
use Rattle.serde_json.specs.View.{view}
use Rattle.ccan_line.specs.Script.{fields_of}
use Rattle.ccan_script.proofs.Races.{bad_before, bad_script, no_race_fault, race_told}
use Rattle.ccan_script.proofs.Unless.{unless_weaker}
use Rattle.ccan_script.proofs.race.race_of.Goals as goal

pub returns-in_err-script : goal.returns-in_err-script
returns-in_err-script c =
    let e = c.in_err-script.field-0.0 in
    race_told _ _ _ c.from_residual.ensures.1
    (unless_weaker e (bad_script (view c.args.value.now) e) c.in_err-script.ensures)

pub returns-in_err-before : goal.returns-in_err-before
returns-in_err-before c =
    let e = c.in_err-before.field-0.0 in
    let script = c.in_ok-script.ensures in
    race_told _ _ _ c.from_residual-in_err-before.ensures.1
    (unless_weaker e (bad_before (view c.args.value.now) (fields_of c.in_ok-script.script) script.1 script.0 e)
    c.in_err-before.ensures.reads)

pub returns : goal.returns
returns c =
    let script = c.in_ok-script.ensures in
    let read = c.in_ok-before.ensures.reads in (
      no_race_fault (view c.args.value.now) (fields_of c.in_ok-script.script) script.1 script.0 read.0,
      record { script_says = script.1; before_is = read.1 },
    )
