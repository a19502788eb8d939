use Rattle.std.proofs.Common.{◌≡◌, ◌+◌, ◌++◌, ℕ, List, [], ◌∷◌, refl, sym, ap, ap₂, ◌∙◌, rules, map}
use Rattle.std.proofs.lemmas.List.FromFn.{map-range_with_len_more}
use Rattle.std.specs.List.{range_with_len}
use Rattle.ccan_object.specs.Profile.{objects_in}
use Rattle.ccan_object.specs.declared.record.Record.{Record}
use Rattle.ccan_ram.specs.History.{record_at}
use Rattle.ccan_lab.proofs.replay.records_in.Goals as goal

pub loop-place-preserved : goal.loop-place-preserved
loop-place-preserved c =
    λ history seen.
    let left : ℕ → Record = λ object. record_at object history in
    let place = c.loop-place.place in
    let object : c.unwrap-object.result ≡ 1 + place = search rules in
    let last = c.record_of.ensures history seen ∙ ap left object in
    c.in_ok-push.ensures.items
    ∙ ap₂ (λ (before : List Record) (next : Record). before ++ next ∷ []) (c.loop-place.invariant history seen) last
    ∙ sym (map-range_with_len_more left 1 place (1 + place) refl)

pub returns : goal.returns
returns c =
    λ history seen.
    let left : ℕ → Record = λ object. record_at object history in
    let all : c.loop-place.place ≡ objects_in c.args.profile = search rules in
    c.in_ok-row.ensures ∙ c.loop-place.invariant history seen ∙ ap (λ (count : ℕ). map left (range_with_len 1 count)) all
