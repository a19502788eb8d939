use Rattle.std.proofs.Common.{◌≡◌, ◌+◌, ◌-◌, ◌*◌, ◌<◌, ◌++◌, ℕ, List, [], get_or, length, take, ap, refl, sym, ◌∙◌, arith}
use Rattle.std.specs.List.{flat_map}
use Rattle.std.proofs.lemmas.List.{flat_map_more, take_more}
use Rattle.std.proofs.lemmas.List.Edits.{length-paste}
use Rattle.std.proofs.lemmas.Slice.{put_mid-paste, take-put_mid}
use Rattle.ccan_object.specs.declared.record.Record.{Record}
use Rattle.ccan_object.specs.Packing.{packed}
use Rattle.ccan_registers.proofs.saved.words.object_words.Goals as goal

pub loop-k-preserved : goal.loop-k-preserved
loop-k-preserved c =
    let k = c.loop-k.k in
    let ws = c.loop-k.words in
    let rs = c.args.records.now in
    let x = c.index-records-k.result in
    let ys = c.copy_from_slice.new.self in
    let kept = c.loop-k.invariant in
    let count = kept.count in
    let low : k < length rs = omega arith in
    let is : ys ≡ packed (get_or rs k x) = c.copy_from_slice.ensures.after ∙ c.pack.ensures.words in
    let many : length ys ≡ 3 = ap (λ (l : List ℕ). length l) is in
    let n = 3 * k + 3 - 3 * k in
    record {
      count =
          ap (λ (l : List ℕ). length l) (put_mid-paste (3 * k) n ws ys ys 3 refl (omega arith) (omega arith))
          ∙ (length-paste ws (3 * k) ys 3 (omega arith) (omega arith) ∙ kept.count);
      text =
          take-put_mid (3 * k) n ws ys (3 * (k + 1)) (omega arith) (omega arith)
          ∙ (ap (λ (l : List ℕ). l ++ ys) kept.text
          ∙ (ap (λ (l : List ℕ). flat_map packed (take k rs) ++ l) is
          ∙ (flat_map_more packed [] (take k rs) (get_or rs k x)
          ∙ ap (λ (l : List Record). flat_map packed l) (sym (take_more rs k x low)))));
    }
