use Rattle.std.proofs.Common.{◌≡◌, ◌≤◌, length, take, sym, arith}
use Rattle.std.proofs.lemmas.List.{length-take-le, take_all}
use Rattle.ccan_lab.proofs.rows.first_records.Goals as goal

pub slice_bounds-result-end : goal.slice_bounds-result-end
slice_bounds-result-end c =
    let long : 64 ≤ length c.args.records.now = omega arith in
    sym (length-take-le 64 c.args.records.now long)

pub returns-then-records-le-MAX_OBJECTS-clause-records : goal.returns-then-records-le-MAX_OBJECTS-clause-records
returns-then-records-le-MAX_OBJECTS-clause-records c =
    let short : length c.args.records.now ≤ 64 = omega arith in
    sym (take_all 64 c.args.records.now short)

pub returns-else-records-le-MAX_OBJECTS-clause-length : goal.returns-else-records-le-MAX_OBJECTS-clause-length
returns-else-records-le-MAX_OBJECTS-clause-length c =
    let long : 64 ≤ length c.args.records.now = omega arith in
    let is : length (take 64 c.args.records.now) ≡ 64 = length-take-le 64 c.args.records.now long in
    omega arith
