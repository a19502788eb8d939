use Rattle.std.proofs.Common.{◌≡◌, ℕ, List, length, map, ap, ◌∙◌}
use Rattle.std.specs.List.{range_with_len}
use Rattle.ccan_outcomes.specs.RaceScript.{fields_of}
use Rattle.ccan_lab.specs.Observed.{is_observed, names_in}
use Rattle.ccan_lab.proofs.observed.marks_of.Goals as goal

pub returns : goal.returns
returns c =
    let script = fields_of c.args.race.now in
    let names = names_in c.args.list.now in
    let k = c.counts_of.result in
    let p = c.places_of.result in
    let if1 = length script.if1 in
    let if2 = length script.if2 in
    let bus = length script.bus in
    let names_are : map (λ name. name.now) c.as_slice.result.now ≡ names =
    ap (map (λ name. name.now)) c.as_slice.ensures.value ∙ c.in_ok-names.ensures in
    c.in_ok-marks.ensures
    ∙ ap (λ (all : List (List ℕ)). map (is_observed all k.if1 k.if2 k.bus) (range_with_len 0 p)) names_are
    ∙ ap (λ (n : ℕ). map (is_observed names n k.if2 k.bus) (range_with_len 0 p)) c.counts_of.ensures.if1
    ∙ ap (λ (n : ℕ). map (is_observed names if1 n k.bus) (range_with_len 0 p)) c.counts_of.ensures.if2
    ∙ ap (λ (n : ℕ). map (is_observed names if1 if2 n) (range_with_len 0 p)) c.counts_of.ensures.bus
    ∙ ap (λ (n : ℕ). map (is_observed names if1 if2 bus) (range_with_len 0 n)) c.places_of.ensures
