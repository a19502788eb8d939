use Rattle.std.proofs.Common.{◌∙◌, ap, sym}
use Rattle.std.proofs.lemmas.Result.{err_from_is_err_and}
use Rattle.serde_json.specs.View.{view}
use Rattle.ccan_script.specs.BusLine.{bus_fault_by}
use Rattle.ccan_script.specs.Members.{members_fault}
use Rattle.ccan_script.proofs.MemberKinds.{bus_named}
use Rattle.ccan_script.proofs.MemberRows.{bus_by_row, round_refused}
use Rattle.ccan_script.proofs.bus_line.BusLineScriptLine.read.Goals as goal

pub returns-in_err-check_members-clause-reads : goal.returns-in_err-check_members-clause-reads
returns-in_err-check_members-clause-reads c =
    let d = view c.args.value.now in
    let op = sym c.in-Some.ensures in
    let p = err_from_is_err_and c.from_residual.result c.from_residual.ensures.1 in
    let fault = sym (bus_by_row c.args.context d (bus_named d c.in-Some.op op) c.in-Some.op)
    ∙ ap (λ row. members_fault c.args.context row row d) (sym c.bus_row-row.ensures) ∙ c.in_err-check_members.ensures in
    rw (p.1, p.2) (ap (λ o. bus_fault_by c.args.context.nodes o d) op
    ∙ round_refused c.args.context.nodes c.in-Some.op d c.in_err-check_members.field-0.0 fault)

pub bus_line-requires-clause-members : goal.bus_line-requires-clause-members
bus_line-requires-clause-members c =
    let d = view c.args.value.now in
    sym (bus_by_row c.args.context d (bus_named d c.in-Some.op (sym c.in-Some.ensures)) c.in-Some.op)
    ∙ ap (λ row. members_fault c.args.context row row d) (sym c.bus_row-row.ensures) ∙ c.in_ok-check_members.ensures.0
