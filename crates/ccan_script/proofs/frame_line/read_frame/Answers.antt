-- The members are those of the row, and behind them the length of the data is left.
use Rattle.std.proofs.Common.{◌≡◌, ◌∙◌, ap, ap₂, sym, subst}
use Rattle.std.proofs.lemmas.Result.{err_from_is_err_and}
use Rattle.serde_json.specs.View.{view}
use Rattle.ccan_script.specs.FrameLine.{frame_of, has_its_length, is_in_range, sending_of}
use Rattle.ccan_script.specs.LineFault.{ReadsLine, shape_check}
use Rattle.ccan_script.specs.Members.{members_fault}
use Rattle.ccan_script.proofs.MemberRows.{frame_passed, frame_refused}
use Rattle.ccan_script.proofs.frame_line.read_frame.Goals as goal

pub returns-in_err-check_members-clause-reads : goal.returns-in_err-check_members-clause-reads
returns-in_err-check_members-clause-reads c =
    let d = view c.args.value.now in
    let p = err_from_is_err_and c.from_residual.result c.from_residual.ensures.1 in
    rw (p.1, p.2) (frame_refused c.args.context d c.in_err-check_members.field-0.0
    (ap₂ (λ row numbers. members_fault c.args.context row numbers d) (sym c.frame_row.ensures) (sym c.frame_numbers.ensures)
    ∙ c.in_err-check_members.ensures))

pub sending_of-requires-clause-range : goal.sending_of-requires-clause-range
sending_of-requires-clause-range c =
    let d = view c.args.value.now in
    let passed = frame_passed c.args.context d
    (ap₂ (λ row numbers. members_fault c.args.context row numbers d) (sym c.frame_row.ensures) (sym c.frame_numbers.ensures)
    ∙ c.in_ok-check_members.ensures.0) in
    ap (is_in_range c.args.context.nodes) c.frame_parts.ensures.words ∙ passed.1

pub returns-clause-reads : goal.returns-clause-reads
unfolding sending_of
returns-clause-reads c =
    let d = view c.args.value.now in
    let passed = frame_passed c.args.context d
    (ap₂ (λ row numbers. members_fault c.args.context row numbers d) (sym c.frame_row.ensures) (sym c.frame_numbers.ensures)
    ∙ c.in_ok-check_members.ensures.0) in
    subst (λ fault. ReadsLine fault (λ sending. sending ≡ sending_of d) c.sending_of.result) (sym passed.0)
    (subst (λ w. ReadsLine (shape_check (has_its_length w)) (λ sending. sending ≡ (w.node, frame_of w)) c.sending_of.result)
    c.frame_parts.ensures.words c.sending_of.ensures.reads)
