use Rattle.std.proofs.Common.{◌∙◌, ap}
use Rattle.serde_json.specs.View.{view}
use Rattle.ccan_script.specs.ScriptCheck.{place_in}
use Rattle.ccan_script.proofs.Told.{path_of_line, path_of_list}
use Rattle.ccan_script.proofs.check.fault_path.line_path.Goals as goal

pub returns-in-None : goal.returns-in-None
returns-in-None c =
    path_of_list _ (view c.args.value.now) c.args.list c.args.index c.list_text-name.result.now c.list_text-name.ensures
    c.format.result c.in-None.ensures c.format.ensures.ok

pub returns-in_ok-path-in-Some : goal.returns-in_ok-path-in-Some
returns-in_ok-path-in-Some c =
    let line = view c.in-Some.line.now in
    path_of_line _ (view c.args.value.now) c.args.list c.args.index c.list_text-name.result.now c.list_text-name.ensures
    c.place_path.result line c.as_str.result.now c.place_in-place.result c.in-Some.ensures
    (c.as_str.ensures.value ∙ c.in_ok-path-in-Some.ensures)
    (c.place_in-place.ensures ∙ ap (λ context. place_in c.args.list context line) c.context_of.ensures.context)
    c.place_path.ensures
