use Rattle.std.proofs.Common.{◌≡◌, ◌<◌, ◌+◌, ◌++◌, ℕ, List, length, take, string_bytes, sym, ap, ◌∙◌, arith, rules}
use Rattle.std.specs.List.{enumerate_from, flat_map}
use Rattle.ccan_outcomes.specs.declared.history_step.HistoryStep.{HistoryStep}
use Rattle.ccan_lab.specs.History.{step_text}
use Rattle.ccan_lab.specs.Report.{history_text}
use Rattle.ccan_lab.proofs.Texts.{flat_goes_on, numbered_all, numbered_at, numbered_length}
use Rattle.ccan_lab.proofs.history.add_steps.Goals as goal

pub loop-index-preserved : goal.loop-index-preserved
loop-index-preserved c =
    let xs = c.args.steps.now in
    let i = c.loop-index.index in
    let step = c.index-steps-index.result in
    let within : i < length xs = omega arith in
    let line : ℕ × HistoryStep → List ℕ = λ numbered. step_text numbered.0 numbered.1 in
    let added : string_bytes c.add_step.new.text ≡ string_bytes c.loop-index.text ++ step_text (i + 1) step = search rules in
    flat_goes_on line (string_bytes c.loop-index.text) (string_bytes c.add_step.new.text) (string_bytes c.args.text.now)
    (enumerate_from 1 xs) i (0, step) (numbered_length 1 xs i within) c.loop-index.invariant
    (added ∙ ap (λ (numbered : ℕ × HistoryStep). string_bytes c.loop-index.text ++ line numbered)
    (sym (numbered_at xs i step within c.index-steps-index.is)))

pub returns : goal.returns
unfolding history_text
returns c =
    let xs = c.args.steps.now in
    let all : c.loop-index.index ≡ length xs = omega arith in
    let line : ℕ × HistoryStep → List ℕ = λ numbered. step_text numbered.0 numbered.1 in
    c.loop-index.invariant ∙ ap (λ (n : ℕ). string_bytes c.args.text.now ++ flat_map line (take n (enumerate_from 1 xs))) all
    ∙ ap (λ (numbered : List (ℕ × HistoryStep)). string_bytes c.args.text.now ++ flat_map line numbered) (numbered_all xs)
