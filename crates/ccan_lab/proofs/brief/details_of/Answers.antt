use Rattle.std.proofs.Common.{ℕ, ◌≡◌, ◌++◌, ◌∷◌, [], ◌∙◌, List, Some, length, map, refl, slice_get, string_bytes, String, Global, subst, sym, ap, arith}
use Rattle.std.proofs.lemmas.List.{length-map, map-append}
use Rattle.std.proofs.lemmas.Option.{slice_get_read}
use Rattle.ccan_language.proofs.Grown.{same_some}
use Rattle.ccan_outcomes.specs.RaceScript.{fields_of}
use Rattle.ccan_outcomes.specs.declared.all_ports.AllPorts.{AllPorts}
use Rattle.ccan_outcomes.proofs.ImageRows.{push_long}
use Rattle.ccan_lab.specs.Brief.{IsDetailOf}
use Rattle.ccan_lab.proofs.Detailed.{AreSoFar, detail_push}
use Rattle.ccan_lab.proofs.brief.details_of.Goals as goal

pub loop-place-preserved : goal.loop-place-preserved
loop-place-preserved c =
    let script = fields_of c.args.race.now in
    let steps = c.args.steps.now in
    let states = c.args.states.now in
    let place = c.loop-place.place in
    let old = c.loop-place.details.items in
    let text = c.in_ok-detail_between.field-0 in
    let step = c.index-steps-place.result in
    let long = c.loop-place.invariant.long in
    let texts : List (String Global) → List (List ℕ) = map string_bytes in
    let as_many : length (texts old) ≡ place = length-map old string_bytes ∙ long in
    let here : slice_get steps place ≡ Some step =
    slice_get_read steps (length steps) place step refl c.loop-place-test.true c.index-steps-place.is in
    let longer = push_long old c.push.new.self.items text c.in_ok-push.ensures.items in
    let texts_are : texts c.push.new.self.items ≡ texts old ++ string_bytes text ∷ [] =
    ap texts c.in_ok-push.ensures.items ∙ map-append string_bytes old (text ∷ []) in
    record {
      long = omega (arith, longer, long);
      are = subst (AreSoFar script states steps) (sym texts_are)
          (detail_push script states steps (texts old) place step (string_bytes text) as_many here
          (λ from to before after.
          let same_from = same_some c.moved_at-moved.result.before.now from (sym c.moved_at-moved.ensures.before ∙ before) in
          let same_to = same_some c.moved_at-moved.result.after.now to (sym c.moved_at-moved.ensures.after ∙ after) in
          subst (λ (s : AllPorts). IsDetailOf script step step.kind s to (string_bytes text)) same_from
          (subst (λ (s : AllPorts). IsDetailOf script step step.kind c.moved_at-moved.result.before.now s (string_bytes text))
          same_to c.in_ok-detail_between.ensures)) c.loop-place.invariant.are);
    }

pub moved_at-moved-requires : goal.moved_at-moved-requires
moved_at-moved-requires c =
    let low = c.loop-place-test.true in
    let many = c.requires in
    omega (arith, low, many)
