use Rattle.std.proofs.Common.{◌∙◌, ap, sym}
use Rattle.std.proofs.lemmas.Result.{err_from_is_err_and}
use Rattle.serde_json.specs.View.{view}
use Rattle.ccan_script.specs.HostLine.{host_fault_by, host_line_by}
use Rattle.ccan_script.specs.Members.{members_fault}
use Rattle.ccan_script.proofs.MemberKinds.{host_named}
use Rattle.ccan_script.proofs.MemberRows.{host_by_row}
use Rattle.ccan_script.proofs.host_line.HostLineScriptLine.read.Goals as goal

pub returns-in_err-check_members-clause-reads : goal.returns-in_err-check_members-clause-reads
returns-in_err-check_members-clause-reads c =
    let d = view c.args.value.now in
    let op = sym c.in-Some.ensures in
    let p = err_from_is_err_and c.from_residual.result c.from_residual.ensures.1 in
    rw (p.1, p.2) (ap (λ o. host_fault_by c.args.context.profile o d) op
    ∙ sym (host_by_row c.args.context d (host_named d c.in-Some.op op) c.in-Some.op)
    ∙ ap (λ row. members_fault c.args.context row row d) (sym c.host_row-row.ensures) ∙ c.in_err-check_members.ensures)

pub host_line-requires : goal.host_line-requires
host_line-requires c =
    let d = view c.args.value.now in
    sym (host_by_row c.args.context d (host_named d c.in-Some.op (sym c.in-Some.ensures)) c.in-Some.op)
    ∙ ap (λ row. members_fault c.args.context row row d) (sym c.host_row-row.ensures) ∙ c.in_ok-check_members.ensures.0

pub returns-clause-reads : goal.returns-clause-reads
returns-clause-reads c =
    let d = view c.args.value.now in
    let op = sym c.in-Some.ensures in (
      ap (λ o. host_fault_by c.args.context.profile o d) op
          ∙ sym (host_by_row c.args.context d (host_named d c.in-Some.op op) c.in-Some.op)
          ∙ ap (λ row. members_fault c.args.context row row d) (sym c.host_row-row.ensures) ∙ c.in_ok-check_members.ensures.0,
      c.host_line.ensures.says ∙ ap (λ o. host_line_by o d) (sym op),
    )
