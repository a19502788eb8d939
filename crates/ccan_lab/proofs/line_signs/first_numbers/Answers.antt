use Rattle.std.proofs.Common.{◌≡◌, ◌∙◌, ◌+◌, ◌++◌, ◌∷◌, [], ℕ, List, sym, ap, arith, rules}
use Rattle.std.specs.List.{range_with_len}
use Rattle.ccan_lab.proofs.Sought.{range_more}
use Rattle.ccan_lab.proofs.line_signs.first_numbers.Goals as goal

pub loop-number-preserved : goal.loop-number-preserved
loop-number-preserved c =
    let n = c.loop-number.number in
    let pushed : c.push.new.self.items ≡ c.loop-number.numbers.items ++ n ∷ [] = search rules in
    let same : n ≡ 0 + n = omega arith in
    pushed ∙ ap (λ (l : List ℕ). l ++ n ∷ []) c.loop-number.invariant
    ∙ ap (λ (k : ℕ). range_with_len 0 n ++ k ∷ []) same ∙ sym (range_more 0 n)
