use Rattle.std.proofs.Common.{◌∙◌, arith, length-set}
use Rattle.std.proofs.lemmas.List.{take_more_set, map_more, take_all}
use Rattle.ccan_c.specs.Record.{c_record}
use Rattle.ccan_c.proofs.shown_final.c_records.Goals as goal

pub loop-i-preserved : goal.loop-i-preserved
loop-i-preserved c =
    let i = c.loop-i.i in
    let here = c.loop-i.invariant in
    let left = take_more_set c.loop-i.shown i c.of.result (omega arith) in
    let right = map_more c_record c.args.records.now i c.index-records-i.result (omega arith) in
    record { count = length-set c.loop-i.shown i c.of.result ∙ here.count; shown = cc }

pub returns : goal.returns
returns c =
    let all = take_all c.loop-i.i c.loop-i.shown (omega arith) in
    let found = take_all c.loop-i.i c.args.records.now (omega arith) in
    let here = c.loop-i.invariant.shown in
    cc
