-- One return for each case of the definition: a name is bad, a port is named too often, or all is in order.
use Rattle.std.proofs.Common.{◌∙◌, sym}
use Rattle.std.proofs.lemmas.Result.{err_from_is_err_and}
use Rattle.ccan_line.specs.Port.{count_of}
use Rattle.ccan_line.specs.Script.{fields_of}
use Rattle.ccan_script.proofs.Befores.{bad_names_before, bad_share_of, names_few, no_share_fault}
use Rattle.ccan_script.proofs.Orders.{named_are}
use Rattle.ccan_script.proofs.Unless.{unless_memory, unless_weaker}
use Rattle.ccan_script.proofs.race.read_before.Goals as goal

pub returns-in_err-before-clause-reads : goal.returns-in_err-before-clause-reads
returns-in_err-before-clause-reads c =
    let p = err_from_is_err_and c.from_residual.result c.from_residual.ensures.1 in
    let e = c.in_err-before.field-0.0 in
    rw (sym c.get-member.ensures, p.1, p.2)
    (unless_weaker e (bad_names_before (count_of (fields_of c.args.script.now)) _ e) c.in_err-before.ensures.reads)

pub returns-in_err-check_shares-clause-reads : goal.returns-in_err-check_shares-clause-reads
returns-in_err-check_shares-clause-reads c =
    let r = c.from_residual-in_err-check_shares in
    let p = err_from_is_err_and r.result r.ensures.1 in
    let e = c.in_err-check_shares.field-0.0 in
    let read = c.in_ok-before.ensures.reads in
    let named = named_are _ c.in_ok-before.before.items read.1 in
    rw (sym c.get-member.ensures, p.1, p.2) (unless_memory e (bad_share_of (count_of (fields_of c.args.script.now)) _
    c.deref.result.now (c.deref.ensures.value ∙ named) read.0 e c.in_err-check_shares.ensures))

pub returns-clause-reads : goal.returns-clause-reads
returns-clause-reads c =
    let read = c.in_ok-before.ensures.reads in
    let named = named_are _ c.in_ok-before.before.items read.1 in
    rw (sym c.get-member.ensures) (
      no_share_fault (count_of (fields_of c.args.script.now)) _
          c.deref.result.now (c.deref.ensures.value ∙ named) read.0 c.in_ok-check_shares.ensures,
      named,
    )

pub returns-clause-few : goal.returns-clause-few
returns-clause-few c =
    rw (sym c.deref.ensures.value)
    (names_few (fields_of c.args.script.now) c.deref.result.now c.in_ok-check_shares.ensures)
