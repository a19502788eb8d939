use Rattle.std.proofs.Common.{codes, refl, subst, sym}
use Rattle.std.specs.Prelude.{IsTrue, nat_eq}
use Rattle.std.specs.List.{starts_with}
use Rattle.ccan_script.proofs.Told.{starts_with-append}
use Rattle.ccan_script.proofs.check.script_check.refused.Goals as goal

pub returns : goal.returns
returns c = (
  refl,
  subst (λ text. IsTrue (starts_with nat_eq text c.args.path.now)) (sym c.in_ok-text.ensures)
      (starts_with-append c.args.path.now (codes ": the script is refused")),
)
