use Rattle.std.proofs.Common.{◌≡◌, ◌<◌, length, refl, sym, subst, ◌∙◌, arith}
use Rattle.std.specs.Prelude.{All}
use Rattle.std.proofs.lemmas.List.{take_all}
use Rattle.std.proofs.lemmas.List.Elements.{All-more}
use Rattle.ccan_object.specs.declared.record.Record.{Record}
use Rattle.ccan_object.specs.Record.{zero_record}
use Rattle.ccan_registers.proofs.saved.objects.are_zero.Goals as goal

pub loop-record-preserved : goal.loop-record-preserved
loop-record-preserved c =
    let i = c.loop-record.record-index in
    let rs = c.args.records.now in
    let r = c.record-item.result in
    let low : i < length rs = omega arith in
    let same = c.is_same.ensures.0 c.if-not-is_same.false in
    All-more (λ (r : Record). r ≡ zero_record) rs i r low c.loop-record.invariant
    (sym c.record-item.is ∙ same ∙ c.zero-zero.ensures)

pub returns : goal.returns
returns c =
    let i = c.loop-record.record-index in
    let rs = c.args.records.now in (
      λ t. subst (All (λ (r : Record). r ≡ zero_record)) (take_all i rs (omega arith)) c.loop-record.invariant,
      λ all. refl,
    )
