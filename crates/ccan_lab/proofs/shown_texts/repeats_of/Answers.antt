use Rattle.std.proofs.Common.{◌≡◌, ◌<◌, ◌++◌, ◌∷◌, ℕ, List, [], Bool, true, cond, not, length, map, take, sym, ap, ◌∙◌, string_bytes, arith}
use Rattle.std.specs.List.{list_any}
use Rattle.std.specs.Str.{bytes_eq}
use Rattle.std.proofs.lemmas.List.{length-map}
use Rattle.ccan_lab.specs.Observed.{is_repeat, text_at}
use Rattle.ccan_lab.proofs.Apart.{kept_more, not_not, repeat_of, repeats_more, text_in}
use Rattle.ccan_lab.proofs.shown_texts.repeats_of.Goals as goal

pub loop-number-preserved : goal.loop-number-preserved
loop-number-preserved c =
    let texts = map string_bytes c.args.texts.now in
    let number = c.loop-number.number in
    let shown = c.as_str.result in
    let within_args : number < length c.args.texts.now = omega arith in
    let long = length-map c.args.texts.now string_bytes in
    let within : number < length texts = omega (arith, long, within_args) in
    let text_is : text_at texts number ≡ shown.now =
    text_in c.args.texts.now number c.index-texts-number.result within_args
    ∙ sym (c.as_str.ensures.value ∙ ap string_bytes c.index-texts-number.is) in
    let is_new : not c.in_ok-is_new.is_new ≡ is_repeat texts number =
    ap not c.in_ok-is_new.ensures.added ∙ not_not (list_any (λ kept. bytes_eq shown.now kept.now) c.loop-number.seen.keys)
    ∙ (c.loop-number.invariant.1 shown ∙ repeat_of texts number shown.now text_is) in (
      c.in_ok-push.ensures.items ∙ (λ i. c.loop-number.invariant.0 i ++ is_new i ∷ []) ∙ sym (repeats_more texts number),
      λ text.
          c.in_ok-is_new.ensures.updates.0 text
          ∙ ap (λ (b : Bool). cond (bytes_eq shown.now text.now) true b) (c.loop-number.invariant.1 text)
          ∙ ap (λ (t : List ℕ). cond (bytes_eq t text.now) true (list_any (λ kept. bytes_eq kept text.now) (take number texts)))
          (sym text_is)
          ∙ sym (kept_more texts number text.now within),
    )
