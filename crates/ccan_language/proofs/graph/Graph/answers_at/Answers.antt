use Rattle.std.proofs.Common.{rules, ◌≡◌, ◌-◌, ℕ, List, Bool, Some, true, false, Contains, length, set, ◌⊎◌, refl, sym, ap, subst, ◌∙◌, arith, inl, inr}
use Rattle.std.proofs.lemmas.List.{length-set}
use Rattle.std.proofs.lemmas.Option.{slice_get_read}
use Rattle.ccan_language.specs.declared.node.Node.{Node}
use Rattle.ccan_language.specs.declared.node.Node.TheVariants.{Fork}
use Rattle.ccan_language.proofs.Grown.{same_some}
use Rattle.ccan_language.proofs.Reached.{Seen, put, put_cases, put_kept, put_there, seen_all, seen_fork, seen_none, seen_plain}
use Rattle.ccan_language.proofs.graph.Graph.answers_at.Goals as goal

pub loop-left-init : goal.loop-left-init
loop-left-init c =
    let long : c.len-left.result ≡ length c.in_ok-marks.marks.items = search rules in
    record {
      few = omega (arith, long);
      seen = seen_none c.args.self.now.nodes.keys c.args.self.now.normal c.args.index c.args.place c.in_ok-marks.marks.items
          c.new-answers.result.keys c.len-left.result c.requires c.in_ok-marks.ensures c.new-answers.ensures.empty long;
    }

pub loop-left-preserved-then-not-index : goal.loop-left-preserved-then-not-index
loop-left-preserved-then-not-index c =
    let few = c.loop-left.invariant.few in
    let some = c.loop-left-test.true in
    let marks = c.loop-left.marks.items in
    let at = c.loop-left.left - 1 in
    record {
      few = omega (arith, few);
      seen = seen_plain c.args.self.now.nodes.keys c.args.self.now.normal c.args.index c.args.place marks
          c.loop-left.answers.keys c.loop-left.left at c.loop-left.invariant.seen (omega (arith, some))
          (λ edge mark there.
          let read = slice_get_read marks (length marks) at c.index.result.now refl (omega (arith, few, some)) c.index.ensures in
          let same : false ≡ true =
          sym c.if-not-index.true ∙ same_some c.index.result.now true (sym read ∙ mark) in
          cc);
    }

pub loop-left-preserved : goal.loop-left-preserved
loop-left-preserved c =
    let few = c.loop-left.invariant.few in
    let some = c.loop-left-test.true in
    let marks = c.loop-left.marks.items in
    let at = c.loop-left.left - 1 in
    record {
      few = omega (arith, few);
      seen = seen_plain c.args.self.now.nodes.keys c.args.self.now.normal c.args.index c.args.place marks
          c.loop-left.answers.keys c.loop-left.left at c.loop-left.invariant.seen (omega (arith, some))
          (λ edge mark there.
          c.in_default.not-Fork edge
          (same_some c.index-in-loop-left.result.now (Fork edge) (sym c.index-in-loop-left.ensures ∙ there)));
    }

pub loop-left-preserved-in_ok-insert : goal.loop-left-preserved-in_ok-insert
loop-left-preserved-in_ok-insert c =
    let few = c.loop-left.invariant.few in
    let some = c.loop-left-test.true in
    let marks = c.loop-left.marks.items in
    let at = c.loop-left.left - 1 in
    let edge = c.in-Fork.edge in
    let old = c.loop-left.answers.keys in
    let new = c.insert.new.self.keys in
    let is : new ≡ put edge.letter.answer old = c.in_ok-insert.ensures.keys in
    let one = length-set marks edge.to true in
    let other = length-set (set marks edge.to true) edge.others true in
    let read = slice_get_read marks (length marks) at c.index.result.now refl (omega (arith, few, some)) c.index.ensures in
    record {
      few = omega (arith, few, one, other);
      seen = seen_fork c.args.self.now.nodes.keys c.args.self.now.normal c.args.index c.args.place marks old new
          c.loop-left.left at edge c.loop-left.invariant.seen (omega (arith, some))
          (read ∙ ap (λ (b : Bool). Some b) c.if-not-index.false)
          (c.index-in-loop-left.ensures ∙ ap (λ (n : Node). Some n) c.in-Fork.is)
          (λ answer h. subst (λ (l : List ℕ). Contains l answer) (sym is) (put_kept edge.letter.answer old answer h))
          (λ answer h.
          elim (put_cases edge.letter.answer old answer (subst (λ (l : List ℕ). Contains l answer) is h)) as
          (λ _. Contains old answer ⊎ ((edge.letter.place ≡ c.args.place) × (edge.letter.answer ≡ answer))) [
            | inl before ↦ inl before
            | inr same ↦ inr (c.if-edge-place.true, same)
          ])
          (λ place_is.
          subst (λ (l : List ℕ). Contains l edge.letter.answer) (sym is) (put_there edge.letter.answer old));
    }

pub loop-left-preserved-else-edge-place : goal.loop-left-preserved-else-edge-place
loop-left-preserved-else-edge-place c =
    let few = c.loop-left.invariant.few in
    let some = c.loop-left-test.true in
    let marks = c.loop-left.marks.items in
    let at = c.loop-left.left - 1 in
    let edge = c.in-Fork.edge in
    let old = c.loop-left.answers.keys in
    let one = length-set marks edge.to true in
    let other = length-set (set marks edge.to true) edge.others true in
    let read = slice_get_read marks (length marks) at c.index.result.now refl (omega (arith, few, some)) c.index.ensures in
    record {
      few = omega (arith, few, one, other);
      seen = seen_fork c.args.self.now.nodes.keys c.args.self.now.normal c.args.index c.args.place marks old old
          c.loop-left.left at edge c.loop-left.invariant.seen (omega (arith, some))
          (read ∙ ap (λ (b : Bool). Some b) c.if-not-index.false)
          (c.index-in-loop-left.ensures ∙ ap (λ (n : Node). Some n) c.in-Fork.is) (λ answer h. h) (λ answer h. inl h)
          (λ place_is. absurd (c.if-edge-place.false place_is));
    }

pub returns : goal.returns
returns c = λ answer.
    let nodes = c.args.self.now.nodes.keys in
    let past = c.loop-left-test.false in
    let zero : c.loop-left.left ≡ 0 = omega (arith, past) in
    let marks = c.loop-left.marks.items in
    let answers = c.loop-left.answers.keys in
    let seen : Seen nodes c.args.index c.args.place marks answers 0 =
    subst (λ (n : ℕ). Seen nodes c.args.index c.args.place marks answers n) zero c.loop-left.invariant.seen in (
      λ h. seen.told answer h,
      λ is. seen_all nodes c.args.self.now.normal c.args.index c.args.place marks answers answer seen is,
    )
