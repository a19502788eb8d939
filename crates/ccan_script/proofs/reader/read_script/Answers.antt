use Rattle.std.proofs.lemmas.Result.{err_from_is_err_and}
use Rattle.serde_json.specs.View.{view}
use Rattle.ccan_script.proofs.Texts.{reads_value, refuses_text}
use Rattle.ccan_script.proofs.reader.read_script.Goals as goal

pub returns-in_err-value : goal.returns-in_err-value
returns-in_err-value c =
    let p = err_from_is_err_and c.from_residual.result c.from_residual.ensures.1 in
    rw p.1 (refuses_text c.args.bytes.now c.in_err-value.field-0.0 p.0 c.in_err-value.ensures.err p.2)

pub returns : goal.returns
returns c = reads_value c.args.bytes.now
    (view c.in_ok-value.value) c.script_among.result c.in_ok-value.ensures.ok.0 c.in_ok-value.ensures.ok.1 c.script_among.ensures
