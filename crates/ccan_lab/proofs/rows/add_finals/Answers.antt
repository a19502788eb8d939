use Rattle.std.proofs.Common.{◌≡◌, ◌<◌, ◌+◌, ◌++◌, ◌∷◌, [], ℕ, List, length, get_or, map, take, sym, ap, ◌∙◌, arith, rules}
use Rattle.std.specs.List.{enumerate_from}
use Rattle.ccan_object.specs.declared.record.Record.{Record}
use Rattle.ccan_lab.specs.Rows.{final_row}
use Rattle.ccan_lab.proofs.Texts.{map_goes_on, numbered_all, numbered_at, numbered_length}
use Rattle.ccan_lab.proofs.rows.add_finals.Goals as goal

pub loop-index-preserved : goal.loop-index-preserved
loop-index-preserved c =
    let xs = c.args.records.now in
    let i = c.loop-index.index in
    let left = c.index-records-index.result in
    let within : i < length xs = omega arith in
    let row : ℕ × Record → List ℕ = λ object. final_row object.0 object.1 in
    let here : c.unwrap-object.result ≡ i + 1 = search rules in
    let is : c.final_row.result.bytes ≡ row (get_or (enumerate_from 1 xs) i (0, left)) =
    c.final_row.ensures ∙ ap (λ (object : ℕ). final_row object left) here
    ∙ ap row (sym (numbered_at xs i left within c.index-records-index.is)) in
    let pushed : c.push_line.new.self ≡ c.loop-index.rows ++ c.final_row.result.bytes ∷ [] = search rules in
    map_goes_on row c.loop-index.rows c.push_line.new.self c.args.rows.now (enumerate_from 1 xs) i (0, left)
    (numbered_length 1 xs i within) c.loop-index.invariant (pushed ∙ ap (λ (t : List ℕ). c.loop-index.rows ++ t ∷ []) is)

pub returns : goal.returns
returns c =
    let xs = c.args.records.now in
    let all : c.loop-index.index ≡ length xs = omega arith in
    let row : ℕ × Record → List ℕ = λ object. final_row object.0 object.1 in
    c.loop-index.invariant ∙ ap (λ (n : ℕ). c.args.rows.now ++ map row (take n (enumerate_from 1 xs))) all
    ∙ ap (λ (numbered : List (ℕ × Record)). c.args.rows.now ++ map row numbered) (numbered_all xs)
