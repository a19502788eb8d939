use Rattle.std.proofs.Common.{◌≡◌, ◌+◌, ◌<◌, ℕ, get_or, sym, ◌∙◌, ap, refl, arith}
use Rattle.ccan_object.specs.Profile.{objects_in}
use Rattle.ccan_ram.specs.HandlerRegisters.{first_records, registers_of}
use Rattle.ccan_ram.specs.History.{record_at}
use Rattle.ccan_ram.proofs.Registers.{registers_next}
use Rattle.ccan_endless.specs.Layout.{marks_in}
use Rattle.ccan_ram.proofs.Records.{record_is}
use Rattle.ccan_endless.proofs.picture.registers_of.Goals as goal

pub loop-place-preserved : goal.loop-place-preserved
loop-place-preserved c =
    let i = c.loop-place.invariant in
    let n = c.loop-place.place in
    let values = c.args.values.now in
    let number = c.requires.count in
    let test = c.loop-place-test.true in
    let less : n < objects_in c.args.profile = omega arith in
    let at : get_or values c.from.result 0 ≡ get_or values n 0 = ap (λ (k : ℕ). get_or values k 0) c.from.ensures in
    record {
      below = c.with_marks-registers.ensures.below;
      shown = λ log records all.
          let head = all n less in
          c.with_marks-registers.ensures.value (record_at (n + 1) log) (record_is (n + 1) log records)
          (sym (c.marks_in.ensures.value ∙ (ap marks_in at ∙ head.marks_is)))
          ∙ registers_next n (record_at (n + 1) log) c.loop-place.registers log refl (i.shown log records all);
    }

pub returns-clause-shown : goal.returns-clause-shown
returns-clause-shown c log records all =
    let number = c.requires.count in
    let last : c.loop-place.place ≡ objects_in c.args.profile = omega arith in
    c.loop-place.invariant.shown log records all ∙ ap (λ (n : ℕ). registers_of (first_records n log)) last
