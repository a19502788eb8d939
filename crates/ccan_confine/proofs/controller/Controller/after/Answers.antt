use Rattle.std.proofs.Common.{◌∙◌, ap, arith}
use Rattle.std.proofs.lemmas.Bool.{or_right}
use Rattle.ccan_confine.specs.declared.controller.Controller.{Controller}
use Rattle.ccan_confine.proofs.Controllers.{host_after}
use Rattle.ccan_confine.proofs.controller.Controller.after.Goals as goal

pub returns-clause-is : goal.returns-clause-is
returns-clause-is c is =
    let n = c.numbers.ensures in
    let code = c.lec.ensures in
    let tec = n.tec in
    let rec' = n.rec in
    let groups = n.groups in
    let value = code.value in
    let in_range = code.in_range in
    let register = c.register.ensures in
    let extension = c.extension.ensures in
    record {
      host =
          ap (λ (z : Controller). z.counters.host) c.leaving-after.ensures
          ∙ (ap (λ (z : Controller). z.counters.host) c.changed.ensures ∙ host_after c.args.change.now c.args.self is.host);
      tec = (let a = tec.0 in let b = tec.1 in omega arith);
      rec = (let a = rec'.0 in let b = rec'.1 in omega arith);
      groups = (let a = groups.0 in let b = groups.1 in omega arith);
      lec = omega arith;
      register = (let a = register.value in let b = register.in_range in omega arith);
      extension = (let a = extension.value in let b = extension.in_range in omega arith);
      out = rw c.leaving-after.ensures (λ on. or_right c.changed.result.has_left _ on);
    }
