use Rattle.std.proofs.Common.{◌≡◌, [], ◌∷◌, Bool, List, Some, true, false, length, length-append, slice_get, refl, sym, ap, ◌∙◌, arith}
use Rattle.ccan_language.proofs.Reached.{marks_are, none_marked}
use Rattle.ccan_language.proofs.answers.first_marks.Goals as goal

pub loop-init : goal.loop-init
loop-init c = record {
  long = ap (λ (l : List Bool). length l) c.new-marks.ensures.items;
  none = λ k h.
      let no_mark : slice_get [] k ≡ Some true = sym (ap (λ (l : List Bool). slice_get l k) c.new-marks.ensures.items) ∙ h in
      cc;
}

pub loop-preserved : goal.loop-preserved
loop-preserved c =
    let is = c.in_ok-push.ensures.items in
    let sum = length-append c.loop.marks.items (false ∷ []) in
    let one : length (false ∷ []) ≡ 1 = refl in
    let whole = ap (λ (l : List Bool). length l) is in
    let long = c.loop.invariant.long in
    record {
      long = omega (arith, sum, one, whole, long);
      none = λ k h. none_marked c.loop.marks.items c.loop.invariant.none k (sym (ap (λ (l : List Bool). slice_get l k) is) ∙ h);
    }

pub returns : goal.returns
returns c =
    let end = c.loop.auto.counter-end in
    let past = c.loop-test.false in
    let long = c.loop.invariant.long in
    marks_are c.loop.marks.items c.push-2.new.self.items c.args.index c.loop.invariant.none (omega (arith, end, past, long))
    c.in_ok-push-2.ensures.items
