use Rattle.std.proofs.Common.{◌≡◌, ◌∷◌, [], List, length, length-append, sym, ap, refl, subst, ◌∙◌, arith}
use Rattle.std.proofs.lemmas.List.{length-map}
use Rattle.ccan_lab.specs.Sorted.{texts_of}
use Rattle.ccan_lab.proofs.Parts.{AreSorted, Lines, sorted_more}
use Rattle.ccan_lab.proofs.summary.all_in_order.Goals as goal

pub loop-rows-init : goal.loop-rows-init
loop-rows-init c = record {
  as_many = ap (λ (l : List Lines). length l) c.new-sorted.ensures.items;
  are = subst (AreSorted c.args.all.now) (sym c.new-sorted.ensures.items) (λ place lines at. absurd cc);
}

pub loop-rows-preserved : goal.loop-rows-preserved
loop-rows-preserved c =
    let sorted = c.loop-rows.sorted.items in
    let one : length (c.in_ok-in_order.field-0 ∷ []) ≡ 1 = refl in
    let sum = length-append sorted (c.in_ok-in_order.field-0 ∷ []) in
    let many = c.loop-rows.invariant.as_many in
    record {
      as_many = ap (λ (l : List Lines). length l) c.in_ok-push.ensures.items ∙ omega (arith, sum, one, many);
      are = sorted_more c.args.all.now sorted c.push.new.self.items c.in_ok-in_order.field-0 c.rows-item.result
          c.loop-rows.rows-index c.loop-rows.invariant.as_many c.loop-rows.invariant.are c.rows-item.is
          c.in_ok-in_order.ensures c.in_ok-push.ensures.items;
    }

pub returns : goal.returns
returns c =
    let past = c.loop-rows-test.false in
    let before = c.loop-rows.auto.rows-index-end in
    let many = c.loop-rows.invariant.as_many in
    let long = length-map c.loop-rows.sorted.items (λ (v : Lines). texts_of v.items) in
    record {
      as_many = omega (arith, past, before, many, long);
      are = λ place rows lines here there. c.loop-rows.invariant.are place lines there rows here;
    }
