use Rattle.std.proofs.Common.{ℕ, Bool, List, [], ◌∷◌, ◌++◌, ◌∙◌, ◌==◌, arith, ap, sym, length-set}
use Rattle.std.specs.Prelude.{slice_index_or}
use Rattle.std.proofs.lemmas.List.{take_more_set, map_more, take_all}
use Rattle.ccan_c.proofs.shown_wire.places_of.Goals as goal

pub loop-place-preserved : goal.loop-place-preserved
loop-place-preserved c =
    let i = c.loop-place.place in
    let here = c.loop-place.invariant in
    let is : ℕ → Bool = λ n. n == c.args.number in
    let found = is (slice_index_or c.args.part.now i 0) in
    record {
      count = length-set c.loop-place.places i found ∙ here.count;
      told =
          take_more_set c.loop-place.places i found (omega arith)
          ∙ ap (λ (so_far : List Bool). so_far ++ found ∷ []) here.told
          ∙ sym (map_more is c.args.part.now i 0 (omega arith));
    }

pub returns : goal.returns
returns c =
    let all = take_all c.loop-place.place c.loop-place.places (omega arith) in
    let found = take_all c.loop-place.place c.args.part.now (omega arith) in
    let here = c.loop-place.invariant.told in
    cc
