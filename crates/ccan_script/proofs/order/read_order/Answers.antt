-- One return for each case of the definition: no order is given, its names are bad, its counts are not those of the lists, or
-- it is in order.
use Rattle.std.proofs.Common.{◌≡◌, ◌∙◌, Some, ap, sym, option_map}
use Rattle.std.proofs.lemmas.Result.{err_from_is_err_and}
use Rattle.serde_json.specs.View.{view}
use Rattle.ccan_script.specs.LineCounts.{count_of}
use Rattle.ccan_script.specs.Order.{named_ports}
use Rattle.ccan_script.proofs.Orders.{bad_check, bad_names, named_are, named_is, no_share, read_default, share_default}
use Rattle.ccan_script.proofs.Unless.{unless_weaker}
use Rattle.ccan_script.proofs.order.read_order.Goals as goal

pub returns-in_default-clause-reads : goal.returns-in_default-clause-reads
returns-in_default-clause-reads c =
    let absent = sym c.get.ensures ∙ ap (option_map (λ v. view v.now)) c.in_default.is in
    rw absent (read_default (count_of c.args.counts) c.default_order.result c.default_order.ensures)

pub returns-in_default-clause-times : goal.returns-in_default-clause-times
returns-in_default-clause-times c = share_default (count_of c.args.counts) c.default_order.result c.default_order.ensures

pub returns-in_err-order-clause-reads : goal.returns-in_err-order-clause-reads
returns-in_err-order-clause-reads c =
    let there = sym c.get.ensures ∙ ap (option_map (λ v. view v.now)) c.in-Some.is in
    let p = err_from_is_err_and c.from_residual.result c.from_residual.ensures.1 in
    let e = c.in_err-order.field-0.0 in
    rw (there, p.1, p.2) (unless_weaker e (bad_names (count_of c.args.counts) _ e) c.in_err-order.ensures.reads)

pub returns-in_err-check_all_times-clause-reads : goal.returns-in_err-check_all_times-clause-reads
returns-in_err-check_all_times-clause-reads c =
    let there = sym c.get.ensures ∙ ap (option_map (λ v. view v.now)) c.in-Some.is in
    let r = c.from_residual-in_err-check_all_times in
    let p = err_from_is_err_and r.result r.ensures.1 in
    let e = c.in_err-check_all_times.field-0.0 in
    let read = c.in_ok-order.ensures.reads in
    let order : c.deref.result.now ≡ named_ports (Some _) =
    c.deref.ensures.value ∙ named_are _ c.in_ok-order.order.items read.1 in
    rw (there, p.1, p.2)
    (bad_check (count_of c.args.counts) _ c.deref.result.now order read.0 e c.in_err-check_all_times.ensures)

pub returns-clause-reads : goal.returns-clause-reads
returns-clause-reads c =
    let there = sym c.get.ensures ∙ ap (option_map (λ v. view v.now)) c.in-Some.is in
    let read = c.in_ok-order.ensures.reads in
    let is = named_are _ c.in_ok-order.order.items read.1 in
    rw there (
      no_share (count_of c.args.counts) _ c.deref.result.now (c.deref.ensures.value ∙ is) read.0 c.in_ok-check_all_times.ensures,
      is ∙ sym (named_is (count_of c.args.counts) _),
    )
