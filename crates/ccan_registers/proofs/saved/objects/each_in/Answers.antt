use Rattle.std.proofs.Common.{◌≡◌, ◌*◌, ◌<◌, ◌++◌, ℕ, List, [], Ok, get_or, length, take, sym, ap, subst, ◌∙◌, arith}
use Rattle.std.specs.List.{flat_map}
use Rattle.std.specs.Prelude.{All}
use Rattle.std.proofs.lemmas.List.{flat_map_more, length-set, take_all, take_more_set}
use Rattle.std.proofs.lemmas.List.Elements.{All-get_or, All-push}
use Rattle.ccan_object.specs.declared.record.Record.{Record}
use Rattle.ccan_object.specs.Packing.{packed}
use Rattle.ccan_object.specs.Record.{IsRecord, zero_record}
use Rattle.ccan_registers.proofs.Records.{same_records, take_three, words_at}
use Rattle.ccan_registers.proofs.saved.objects.each_in.Goals as goal

pub returns-in_default-clause-only : goal.returns-in_default-clause-only
returns-in_default-clause-only c rs are text =
    let k = c.loop-k.k in
    let many = are.count in
    let low : k < length rs = omega arith in
    let wrong =
    c.in_default.ensures.every (get_or rs k zero_record) (All-get_or IsRecord rs k zero_record low are.each)
    (words_at rs c.args.words.now k low text) in
    absurd cc

pub loop-k-preserved : goal.loop-k-preserved
loop-k-preserved c =
    let k = c.loop-k.k in
    let r = c.in-Some.found in
    let records = c.loop-k.records in
    let kept = c.loop-k.invariant in
    let count = kept.count in
    let low : k < length records = omega arith in
    let more = take_more_set records k r low in
    record {
      count = length-set records k r ∙ kept.count;
      each =
          subst (All IsRecord) (sym more)
          (All-push IsRecord (take k records) r kept.each c.in-Some.ensures.is_record);
      text =
          ap (λ (l : List Record). flat_map packed l) more
          ∙ (sym (flat_map_more packed [] (take k records) r)
          ∙ (ap (λ (l : List ℕ). l ++ packed r) kept.text
          ∙ (ap (λ (l : List ℕ). take (3 * k) c.args.words.now ++ l) c.in-Some.ensures.packs
          ∙ take_three c.args.words.now k (omega arith))));
    }

pub returns-clause-only : goal.returns-clause-only
returns-clause-only c rs are text =
    let k = c.loop-k.k in
    let records = c.loop-k.records in
    let kept = c.loop-k.invariant in
    let count = kept.count in
    let all : take k records ≡ records = take_all k records (omega arith) in
    let whole : take (3 * k) c.args.words.now ≡ c.args.words.now = take_all (3 * k) c.args.words.now (omega arith) in
    ap Ok
    (same_records records rs (subst (All IsRecord) all kept.each) are.each
    (ap (λ (l : List Record). flat_map packed l) (sym all) ∙ (kept.text ∙ (whole ∙ sym text))))
