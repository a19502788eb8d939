use Rattle.std.proofs.Common.{ℕ, ◌≡◌, ◌+◌, ◌<◌, ◌++◌, List, Some, Vec, length, sym, ap, subst, ◌∙◌, arith}
use Rattle.ccan_language.specs.declared.images.Images.{Images}
use Rattle.ccan_language.specs.declared.letter.Letter.{Letter}
use Rattle.ccan_language.specs.declared.node.Node.{Node}
use Rattle.ccan_language.specs.Images.{IsImageFrom, word_image}
use Rattle.ccan_language.specs.Words.{IsWordFrom}
use Rattle.ccan_language.proofs.Grown.{from_nothing}
use Rattle.ccan_language.proofs.Sourced.{by_edge, by_others, ended, goes_at, image_at, image_of_others}
use Rattle.ccan_language.proofs.sources.source_of.Goals.{in-Some+in_ok-push-in-Some, in-None}
use Rattle.ccan_language.proofs.sources.source_of.Goals as goal

pub unreachable-requires : goal.unreachable-requires
unreachable-requires c =
    let image = c.loop.invariant.image in
    from_nothing c.args.graph.now.nodes.keys c.loop.at image.0 (c.index.ensures ∙ ap (λ (n : Node). Some n) c.in-Nothing.is)
    image.1

pub returns-in-End-clause-word : goal.returns-in-End-clause-word
returns-in-End-clause-word c =
    let nodes = c.args.graph.now.nodes.keys in
    (ended nodes c.args.images.now c.args.graph.now.normal c.args.index c.args.word.now c.loop.at c.loop.left.items
    c.loop.source.items (c.index.ensures ∙ ap (λ (n : Node). Some n) c.in-End.is) c.loop.invariant.image
    c.loop.invariant.goes_on).0

pub returns-in-End-clause-image : goal.returns-in-End-clause-image
returns-in-End-clause-image c =
    let nodes = c.args.graph.now.nodes.keys in
    (ended nodes c.args.images.now c.args.graph.now.normal c.args.index c.args.word.now c.loop.at c.loop.left.items
    c.loop.source.items (c.index.ensures ∙ ap (λ (n : Node). Some n) c.in-End.is) c.loop.invariant.image
    c.loop.invariant.goes_on).1

-- what stands before each turn
record Invariant (nodes : List Node) (images : Images) (index : ℕ) (word : List Letter) (count at : ℕ)
    (left source : List Letter) (turns : ℕ) : Type 0 where
  pub low : at + turns < count
  pub within : at < length nodes
  pub image : IsImageFrom nodes images at left
  pub goes_on : (tail : List Letter) → IsWordFrom nodes at tail → word_image images tail ≡ left
      → IsWordFrom nodes index (source ++ tail) × (word_image images (source ++ tail) ≡ word)

pub loop-init : goal.loop-init
loop-init c =
    let nodes = c.args.graph.now.nodes.keys in
    let images = c.args.images.now in
    let word = c.args.word.now in
    let left_is : c.in_ok-left.left.items ≡ word = c.in_ok-left.ensures.items in
    let within = c.requires.within in
    record {
      low = omega (arith, within);
      within = c.requires.node;
      image = subst (λ (w : List Letter). IsImageFrom nodes images c.args.index w) (sym left_is) c.requires.is_image;
      goes_on = λ tail stands image.
          let same : tail ≡ c.new-source.result.items ++ tail =
          sym (ap (λ (l : List Letter). l ++ tail) c.new-source.ensures.items) in
          subst (λ (w : List Letter). IsWordFrom nodes c.args.index w × (word_image images w ≡ word)) same
          (stands, image ∙ left_is);
    }

pub loop-preserved : goal.loop-preserved
loop-preserved c =
    let nodes = c.args.graph.now.nodes.keys in
    let images = c.args.images.now in
    let word = c.args.word.now in
    let index = c.args.index in
    let normal = c.args.graph.now.normal in
    let at = c.loop.at in
    let edge = c.in-Fork.edge in
    let here = c.index.ensures ∙ ap (λ (n : Node). Some n) c.in-Fork.is in
    let back = normal.back at edge here in
    let to_less = back.0 in
    let others_less = back.1 in
    let low = c.loop.invariant.low in
    let within = c.loop.invariant.within in
    let left = c.loop.left.items in
    let left_is : c.as_slice.result.now ≡ left = c.as_slice.ensures.value in
    let all : Invariant nodes images index word (length c.args.made.now) c.match-branch-3.at c.match-branch-3.left.items
    c.match-branch-3.source.items (c.loop.counter + 1) =
    elim c.match-branch-3.branch as (λ _. Invariant nodes images index word (length c.args.made.now) c.match-branch-3.at
    c.match-branch-3.left.items c.match-branch-3.source.items (c.loop.counter + 1)) [
      | in-Some+in_ok-push-in-Some w ↦
          let at_is = w.at-is in
          let later = w.in-Some.later.items in
          let right = rw w.in-Some.is at c.in_ok-later-in-Fork.ensures.right in
          let image = rw w.in-Some.is at c.in_ok-later-in-Fork.ensures.image in
          let left_now = ap (λ (v : Vec Letter _). v.items) w.left-is in
          let source_now = ap (λ (v : Vec Letter _). v.items) w.source-is in
          record {
            low = omega (arith, low, to_less, at_is);
            within = omega (arith, within, to_less, at_is);
            image = image_at nodes images normal index word c.match-branch-3.at edge.to c.match-branch-3.left.items later at_is
                left_now image;
            goes_on = goes_at nodes images normal index word c.match-branch-3.at edge.to c.match-branch-3.left.items later
                c.match-branch-3.source.items w.push.new.self.items at_is left_now source_now
                (by_edge nodes images normal index word at edge left later c.loop.source.items w.push.new.self.items here
                (right ∙ left_is) w.in_ok-push-in-Some.ensures.items c.loop.invariant.goes_on);
          }
      | in-None w ↦
          let at_is = w.at-is in
          let never = rw w.in-None.is at c.in_ok-later-in-Fork.ensures.complete in
          let left_now = ap (λ (v : Vec Letter _). v.items) w.left-is in
          let source_now = ap (λ (v : Vec Letter _). v.items) w.source-is in
          record {
            low = omega (arith, low, others_less, at_is);
            within = omega (arith, within, others_less, at_is);
            image = image_at nodes images normal index word c.match-branch-3.at edge.others c.match-branch-3.left.items left
                at_is left_now
                (image_of_others nodes images normal index word at edge left here
                (λ later of is. never later of (is ∙ sym left_is)) c.loop.invariant.image);
            goes_on = goes_at nodes images normal index word c.match-branch-3.at edge.others c.match-branch-3.left.items left
                c.match-branch-3.source.items c.loop.source.items at_is left_now source_now
                (by_others nodes images normal index word at edge left c.loop.source.items here c.loop.invariant.goes_on);
          }
    ] in
    record { low = all.low; within = all.within; image = all.image; goes_on = all.goes_on }
