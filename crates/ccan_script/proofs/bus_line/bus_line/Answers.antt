use Rattle.std.proofs.Common.{refl}
use Rattle.std.proofs.lemmas.Result.{err_from_is_err_and}
use Rattle.ccan_script.specs.BusLine.{bus_fault_by, BusSaysBy}
use Rattle.ccan_script.proofs.bus_line.bus_line.Goals as goal

pub returns-in_err-read_round-in-Round-clause-reads : goal.returns-in_err-read_round-in-Round-clause-reads
unfolding bus_fault_by
returns-in_err-read_round-in-Round-clause-reads c =
    let p = err_from_is_err_and c.from_residual.result c.from_residual.ensures.1 in
    rw (c.in-Round.is, p.1, p.2) c.in_err-read_round-in-Round.ensures.reads

pub returns-in_ok-read_round-in-Round-clause-reads : goal.returns-in_ok-read_round-in-Round-clause-reads
unfolding bus_fault_by BusSaysBy
returns-in_ok-read_round-in-Round-clause-reads c =
    let read = c.in_ok-read_round-in-Round in
    rw c.in-Round.is (read.ensures.reads.0, (read.field-0, refl, read.ensures.reads.1))
