use Rattle.std.proofs.Common.{replicate, length-set, sym, ◌∙◌, subst, refl, arith}
use Rattle.ccan_object.specs.declared.record.Record.{Record}
use Rattle.ccan_ram.proofs.FinalRecords.{AreListed, listed, listed_none, listed_more}
use Rattle.ccan_words.proofs.ending.last_records.Goals as goal

pub loop-i-init : goal.loop-i-init
loop-i-init g c = record {
  count = refl;
  listed = λ log t. subst (λ (r : Record). AreListed 0 log (replicate 64 r)) (sym c.zero-records.ensures) (listed_none log);
}

pub loop-i-preserved : goal.loop-i-preserved
loop-i-preserved g c =
    let i = c.loop-i.invariant in
    let most = c.objects.ensures.most in
    let test = c.loop-i-test.true in
    record {
      count = length-set c.loop-i.records c.loop-i.i c.last_record.result ∙ i.count;
      listed = λ log t.
          listed_more c.loop-i.i log c.last_record.result c.loop-i.records i.count (omega arith) (c.last_record.ensures log t)
          (i.listed log t);
    }

pub returns : goal.returns
returns g c log t =
    let i = c.loop-i.invariant in
    let number = c.objects.ensures.number in
    listed c.args.profile log c.loop-i.records i.count
    (subst (λ n. AreListed n log c.loop-i.records) (omega arith) (i.listed log t))
