use Rattle.std.proofs.lemmas.Result.{err_from_is_err_and}
use Rattle.serde_json.specs.View.{view}
use Rattle.ccan_script.proofs.Races.{reads_race, refuses_race}
use Rattle.ccan_script.proofs.race.read_race.Goals as goal

pub returns-in_err-value : goal.returns-in_err-value
returns-in_err-value c =
    let p = err_from_is_err_and c.from_residual.result c.from_residual.ensures.1 in
    rw p.1 (refuses_race c.args.bytes.now c.in_err-value.field-0.0 p.0 c.in_err-value.ensures.err p.2)

pub returns : goal.returns
returns c = reads_race c.args.bytes.now
    (view c.in_ok-value.value) c.race_of.result c.in_ok-value.ensures.ok.0 c.in_ok-value.ensures.ok.1 c.race_of.ensures
