use Rattle.std.proofs.lemmas.Result.{err_from_is_err_and}
use Rattle.ccan_run.proofs.Waits.{part_more}
use Rattle.ccan_run.proofs.waiting.add_line.Goals as goal

pub returns-in_err-write_out-clause-part : goal.returns-in_err-write_out-clause-part
returns-in_err-write_out-clause-part g c =
    let p = err_from_is_err_and c.from_residual.result c.from_residual.ensures.1 in
    rw p.1 (part_more _ _ c.args.waiting.now.items c.args.line.now.bytes c.in_err-write_out.ensures.part)
