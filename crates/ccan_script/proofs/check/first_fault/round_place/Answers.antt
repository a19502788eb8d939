use Rattle.std.proofs.Common.{◌≡◌, ◌≤◌, ◌∙◌, Some, ap, length, refl, sym}
use Rattle.std.specs.List.{slice_get}
use Rattle.std.proofs.lemmas.Bool.{ltb-false, ltb-true}
use Rattle.std.proofs.lemmas.Option.{slice_get_read}
use Rattle.serde_json.specs.View.{view}
use Rattle.ccan_script.specs.declared.check.line_path.LinePath.{LinePath}
use Rattle.ccan_script.specs.declared.check.line_path.Part.{Part}
use Rattle.ccan_script.proofs.Checks.{as_frames, frame_gone, frame_there, no_frame, none_past}
use Rattle.ccan_script.proofs.check.first_fault.round_place.Goals as goal

pub returns-in_default : goal.returns-in_default
returns-in_default c =
    let d = view c.args.line.now in
    let vs = c.items_in-frames.result.now in
    c.in_line.ensures ∙ no_frame c.args.context d vs (as_frames d vs c.items_in-frames.ensures) (sym c.in_default.ensures)

pub returns-in-Some-get : goal.returns-in-Some-get
returns-in-Some-get c =
    let d = view c.args.line.now in
    let vs = c.items_in-frames.result.now in
    let i = c.in-Some.index in
    let frame = c.in-Some-get.frame.now in
    let lookup = c.in-Some-get.ensures.lookup in
    let is : slice_get vs i ≡ Some frame =
    slice_get_read vs (length vs) i frame refl (ltb-true i (length vs) (sym lookup.0)) lookup.1 in
    ap (λ (p : Part). let place : LinePath = record { frame = Some i; part = p } in place) c.frame_part.ensures
    ∙ frame_there c.args.context d vs (as_frames d vs c.items_in-frames.ensures) i frame (sym c.in-Some.ensures) is

pub returns-in-None : goal.returns-in-None
returns-in-None c =
    let d = view c.args.line.now in
    let vs = c.items_in-frames.result.now in
    let i = c.in-Some.index in
    let past : length vs ≤ i = ltb-false i (length vs) (sym c.in-None.ensures.lookup.0) in
    frame_gone c.args.context d vs (as_frames d vs c.items_in-frames.ensures) i (sym c.in-Some.ensures) (none_past vs i past)
