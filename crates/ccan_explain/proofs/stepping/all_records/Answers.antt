use Rattle.std.proofs.Common.{ap, arith, length-set, lit<, refl, replicate, subst, ◌∙◌}
use Rattle.ccan_object.specs.declared.record.Record.{Record}
use Rattle.ccan_ram.specs.Array.{Leaves, passes_of}
use Rattle.ccan_explain.proofs.StepRecords.{leaves_all, leaves_first, leaves_more}
use Rattle.ccan_explain.proofs.stepping.all_records.Goals as goal

pub loop-number-init : goal.loop-number-init
loop-number-init c =
    let ram = c.args.ram.now in
    record {
      size = refl;
      below = leaves_first (passes_of ram.profile ram.records ram.used ram.port ram.quota) (λ seen h. h.legal) 65 (lit< tt) _
          (ap (λ (r : Record). replicate 65 r) c.zero-records.ensures);
    }

pub loop-number-preserved : goal.loop-number-preserved
loop-number-preserved c =
    let ram = c.args.ram.now in
    let memory = passes_of ram.profile ram.records ram.used ram.port ram.quota in
    let so_far = c.loop-number.invariant in
    let named = rw c.unwrap-object.ensures at c.new.ensures.number in
    record {
      size = length-set c.loop-number.records c.loop-number.number c.record_of.result ∙ so_far.size;
      below = leaves_more memory (λ seen h. h.legal) c.loop-number.number c.loop-number.records _ c.record_of.result (omega arith)
          refl (subst (λ o. Leaves memory o c.record_of.result) named c.record_of.ensures) so_far.below;
    }

pub returns : goal.returns
returns c =
    let ram = c.args.ram.now in
    leaves_all (passes_of ram.profile ram.records ram.used ram.port ram.quota) (λ seen h. h.legal) c.loop-number.number
    c.loop-number.records (omega arith) c.loop-number.invariant.size c.loop-number.invariant.below
