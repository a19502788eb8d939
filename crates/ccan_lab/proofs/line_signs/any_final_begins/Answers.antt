use Rattle.std.proofs.Common.{◌≡◌, ◌<◌, ◌+◌, ◌||◌, ℕ, Bool, true, false, length, get_or, take, sym, ap, ◌∙◌, arith, rules}
use Rattle.std.specs.List.{enumerate_from, list_any}
use Rattle.std.proofs.lemmas.List.Folds.{list_any_at, list_any_more}
use Rattle.ccan_object.specs.declared.record.Record.{Record}
use Rattle.ccan_lab.specs.Rows.{begins_so, final_row}
use Rattle.ccan_lab.proofs.Texts.{numbered_all, numbered_at, numbered_length}
use Rattle.ccan_lab.proofs.line_signs.any_final_begins.Goals as goal

pub loop-index-preserved : goal.loop-index-preserved
loop-index-preserved c =
    let xs = c.args.records.now in
    let i = c.loop-index.index in
    let left = c.index-records-index.result in
    let within : i < length xs = omega arith in
    let passes : ℕ × Record → Bool = λ object. begins_so c.args.begin.now (final_row object.0 object.1) in
    let here : c.unwrap-object.result ≡ i + 1 = search rules in
    let not : begins_so c.args.begin.now (final_row c.unwrap-object.result left) ≡ false = search rules in
    let is : passes (get_or (enumerate_from 1 xs) i (0, left)) ≡ false =
    ap passes (numbered_at xs i left within c.index-records-index.is)
    ∙ ap (λ (object : ℕ). begins_so c.args.begin.now (final_row object left)) (sym here) ∙ not in
    list_any_more passes (enumerate_from 1 xs) i (0, left) (numbered_length 1 xs i within)
    ∙ ap (λ (b : Bool). b || passes (get_or (enumerate_from 1 xs) i (0, left))) c.loop-index.invariant ∙ is

pub returns-then-begins_so : goal.returns-then-begins_so
returns-then-begins_so c =
    let xs = c.args.records.now in
    let i = c.loop-index.index in
    let left = c.index-records-index.result in
    let within : i < length xs = omega arith in
    let passes : ℕ × Record → Bool = λ object. begins_so c.args.begin.now (final_row object.0 object.1) in
    let here : c.unwrap-object.result ≡ i + 1 = search rules in
    let so : begins_so c.args.begin.now (final_row c.unwrap-object.result left) ≡ true = search rules in
    let is : passes (get_or (enumerate_from 1 xs) i (0, left)) ≡ true =
    ap passes (numbered_at xs i left within c.index-records-index.is)
    ∙ ap (λ (object : ℕ). begins_so c.args.begin.now (final_row object left)) (sym here) ∙ so in
    sym (list_any_at passes (enumerate_from 1 xs) i (0, left) (numbered_length 1 xs i within) is)

pub returns : goal.returns
returns c =
    let xs = c.args.records.now in
    let all : c.loop-index.index ≡ length xs = omega arith in
    let passes : ℕ × Record → Bool = λ object. begins_so c.args.begin.now (final_row object.0 object.1) in
    sym (sym (ap (λ (n : ℕ). list_any passes (take n (enumerate_from 1 xs))) all
    ∙ ap (list_any passes) (numbered_all xs)) ∙ c.loop-index.invariant)
