use Rattle.std.proofs.Common.{subst, sym}
use Rattle.ccan_line.specs.Script.{fields_of}
use Rattle.ccan_explain.specs.Told.{IsOrderOf}
use Rattle.ccan_explain.proofs.SoFar.{own_order}
use Rattle.ccan_explain.proofs.told.tell.Goals as goal

pub tell_in-requires : goal.tell_in-requires
tell_in-requires c =
    let script = c.args.script.now in
    record { order = subst (IsOrderOf (fields_of script)) (sym c.as_slice.ensures.value) (own_order script) }
