use Rattle.std.proofs.Common.{◌≡◌, ◌+◌, ◌<◌, List, [], length, take, drop, get_or, refl, sym, subst, ◌∙◌, arith}
use Rattle.std.specs.Prelude.{All}
use Rattle.std.proofs.lemmas.List.{drop-set-lt, drop_more, length-set, length-take-le, take_more_set}
use Rattle.std.proofs.lemmas.List.Elements.{All-replicate, All-rest}
use Rattle.ccan_object.specs.declared.record.Record.{Record}
use Rattle.ccan_object.specs.Record.{zero_record}
use Rattle.ccan_registers.specs.ChipSteps.{ChipGoes}
use Rattle.ccan_registers.specs.Looks.{LooksThrough}
use Rattle.ccan_registers.proofs.Going.{rests}
use Rattle.ccan_registers.proofs.GoingOn.{looks_on}
use Rattle.ccan_registers.proofs.saved.look.look_through.Goals as goal

pub loop-k-init : goal.loop-k-init
loop-k-init c = record {
  goes = rests c.args.port.now (λ terms seen added. LooksThrough terms 1 [] seen added) refl;
  count = refl;
  unused = All-replicate (λ (r : Record). r ≡ zero_record) 64 c.zero-records.result c.zero-records.ensures;
}

pub loop-k-preserved : goal.loop-k-preserved
loop-k-preserved c =
    let k = c.loop-k.k in
    let r = c.look.result in
    let records = c.loop-k.records in
    let kept = c.loop-k.invariant in
    let low : k < length records = omega arith in
    let many : length (take k records) ≡ k = length-take-le k records (omega arith) in
    let number = c.object_at-object.ensures.number in
    record {
      goes =
          subst
          (λ (rs : List Record). ChipGoes c.args.port.now c.look.new.port
          (λ terms seen added. LooksThrough terms 1 rs seen added)) (sym (take_more_set records k r low))
          (looks_on c.args.port.now c.loop-k.port c.look.new.port (take k records) r c.object_at-object.result (omega arith)
          kept.goes c.look.ensures);
      count = length-set records k r ∙ kept.count;
      unused =
          subst (All (λ (r : Record). r ≡ zero_record)) (sym (drop-set-lt (k + 1) records k r (omega arith)))
          (All-rest (λ (r : Record). r ≡ zero_record) (get_or records k r) (drop (k + 1) records) (drop k records)
          (drop_more records k r low) kept.unused);
    }
