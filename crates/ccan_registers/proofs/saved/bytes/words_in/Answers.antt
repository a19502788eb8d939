use Rattle.std.proofs.Common.{◌≡◌, ◌≢◌, ◌+◌, ◌*◌, ◌<◌, ◌++◌, ℕ, List, [], below_more, drop, get_or, length, set, take, ap, sym, ◌∙◌, arith}
use Rattle.std.specs.Int.{from_le_bytes, to_le_bytes, w64}
use Rattle.std.proofs.lemmas.List.{drop-take, flat_map_more, get_or-set_other, get_or-set_same, length-set, take-append-drop, take-take, take_more_set}
use Rattle.ccan_registers.specs.Format.{bytes_in}
use Rattle.ccan_registers.proofs.saved.bytes.words_in.Goals as goal

-- eight bytes more
eight : (bs : List ℕ) (k : ℕ) → take (8 * k) bs ++ take 8 (drop (8 * k) bs) ≡ take (8 * (k + 1)) bs
eight bs k =
    let a = take-append-drop (8 * k) (take (8 * k + 8) bs) in
    let b = take-take (8 * k) (8 * k + 8) bs (omega arith) in
    let d = drop-take (8 * k) 8 bs in
    let n : 8 * k + 8 ≡ 8 * (k + 1) = omega arith in
    let e = ap (λ m. take m bs) n in
    cc

pub loop-k-preserved : goal.loop-k-preserved
loop-k-preserved c =
    let k = c.loop-k.k in
    let ws = c.loop-k.words in
    let bs = c.args.bytes.now in
    let w = c.word_at.result in
    let kept = c.loop-k.invariant in
    let count = kept.count in
    let low : k < length ws = omega arith in
    record {
      count = length-set ws k w ∙ kept.count;
      text =
          ap (λ (l : List ℕ). bytes_in l) (take_more_set ws k w low)
          ∙ (sym (flat_map_more (to_le_bytes w64) [] (take k ws) w)
          ∙ (ap (λ (l : List ℕ). l ++ to_le_bytes w64 w) kept.text
          ∙ (ap (λ (l : List ℕ). take (8 * k) bs ++ l) c.word_at.ensures.text ∙ eight bs k)));
      each =
          below_more (λ j. get_or (set ws k w) j 0 ≡ from_le_bytes w64 (take 8 (drop (8 * j) bs))) k
          (λ j h. (let apart : j ≢ k = omega arith in get_or-set_other ws k j w 0 apart) ∙ kept.each j h)
          (get_or-set_same ws k w 0 low ∙ c.word_at.ensures.value);
    }
