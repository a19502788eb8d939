-- Each return is one case of the definition of a round: where a check failed, all before it had passed.
use Rattle.std.proofs.Common.{◌∙◌, ap, sym, refl, true≢false}
use Rattle.std.proofs.lemmas.Result.{err_from_is_err_and}
use Rattle.serde_json.specs.View.{view}
use Rattle.ccan_script.specs.Round.{frames_fault}
use Rattle.ccan_script.proofs.Rounds.{bad_frames, frames_read, made, refused}
use Rattle.ccan_script.proofs.round.read_round.Goals as goal

pub returns-in_err-sends-clause-reads : goal.returns-in_err-sends-clause-reads
returns-in_err-sends-clause-reads c =
    let d = view c.args.line.now in
    let p = err_from_is_err_and c.from_residual.result c.from_residual.ensures.1 in
    rw (p.1, p.2) (bad_frames c.args.context.nodes d c.requires.members c.in_err-sends.field-0.0
    (ap (frames_fault c.args.context.nodes) (sym c.frame_values.ensures.are) ∙ c.in_err-sends.ensures.reads))

pub returns-in-Some-clause-reads : goal.returns-in-Some-clause-reads
returns-in-Some-clause-reads c =
    let read = frames_read c.args.context.nodes (view c.args.line.now) c.in_ok-sends.sends.items _ c.requires.members
    c.frame_values.ensures.are c.in_ok-sends.ensures.reads c.in_ok-sends.ensures.senders in
    let new = c.in-Some.ensures in
    made _ _ _ read c.in-Some.round (new.known.0 refl) new.value.0 (new.value.1 ∙ c.fault_of.ensures)

pub returns-in-None-clause-reads : goal.returns-in-None-clause-reads
returns-in-None-clause-reads c =
    let read = frames_read c.args.context.nodes (view c.args.line.now) c.in_ok-sends.sends.items _ c.requires.members
    c.frame_values.ensures.are c.in_ok-sends.ensures.reads c.in_ok-sends.ensures.senders in
    refused _ _ _ read (λ senders. true≢false (sym (c.in-None.ensures.known.1 senders)))
