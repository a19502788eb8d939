use Rattle.std.proofs.Common.{◌≡◌, ◌∙◌, ap, sym, None, Some, List, ℕ, Option, option_map, length, arith, rules}
use Rattle.ccan_language.specs.declared.node.Node.{Node}
use Rattle.ccan_language.specs.Count.{all_words, in_128_bits}
use Rattle.ccan_language.specs.Signs.{first_with, signs_left}
use Rattle.ccan_language.proofs.Borne.{first_end, first_fork, found_beside, found_by_edge, found_none}
use Rattle.ccan_language.proofs.Numbered.{read_at}
use Rattle.ccan_language.proofs.signs.+first_from.Goals as goal

pub returns-in-Some-clause-number : goal.returns-in-Some-clause-number
returns-in-Some-clause-number g t c =
    let nodes = c.args.graph.now.nodes.keys in
    let bears = g.S.Signs.bears c.args.signs.now in
    let edge = c.in-Fork.edge in
    let at : _ = c.index.ensures ∙ ap (λ (n : Node). Some n) c.in-Fork.is in
    let left : c.as_slice.result.now ≡ signs_left bears c.args.sought.now edge.letter =
    c.as_slice.ensures.value ∙ c.in_ok-left-in-Fork.ensures in
    let by : Some c.in-Some.number ≡ option_map in_128_bits (first_with bears (signs_left bears c.args.sought.now edge.letter) (all_words nodes edge.to)) =
    sym c.in-Some.is ∙ c.in_ok-by_edge-in-Fork.ensures.number
    ∙ ap (λ (l : List ℕ). option_map in_128_bits (first_with bears l (all_words nodes edge.to))) left in
    found_by_edge c.in-Some.number (length (all_words nodes edge.to)) _ _ _ by
    (first_fork bears nodes c.args.graph.now.normal c.args.sought.now c.args.index edge at)

pub returns-in-Some-beside-clause-number : goal.returns-in-Some-beside-clause-number
returns-in-Some-beside-clause-number g t c =
    let nodes = c.args.graph.now.nodes.keys in
    let bears = g.S.Signs.bears c.args.signs.now in
    let edge = c.in-Fork.edge in
    let at : _ = c.index.ensures ∙ ap (λ (n : Node). Some n) c.in-Fork.is in
    let left : c.as_slice.result.now ≡ signs_left bears c.args.sought.now edge.letter =
    c.as_slice.ensures.value ∙ c.in_ok-left-in-Fork.ensures in
    let none : None ≡ option_map in_128_bits (first_with bears (signs_left bears c.args.sought.now edge.letter) (all_words nodes edge.to)) =
    sym c.in_default.is ∙ c.in_ok-by_edge-in-Fork.ensures.number
    ∙ ap (λ (l : List ℕ). option_map in_128_bits (first_with bears l (all_words nodes edge.to))) left in
    let some : Some c.in-Some-beside.number ≡ option_map in_128_bits (first_with bears c.args.sought.now (all_words nodes edge.others)) =
    sym c.in-Some-beside.is ∙ c.in_ok-beside-in-Fork.ensures.number in
    let low = c.requires.within in
    let back = (c.args.graph.now.normal.back c.args.index edge at).0 in
    let many = c.args.graph.now.counted.as_many in
    let before : c.index-in-Some-beside.result.now ≡ in_128_bits (length (all_words nodes edge.to)) =
    read_at c.args.graph.now.counts.items edge.to c.index-in-Some-beside.result.now (omega (arith, back, low, many))
    c.index-in-Some-beside.ensures
    ∙ c.args.graph.now.counted.right edge.to (omega (arith, back, low)) in
    ap (λ (n : ℕ). Some n) c.saturating_add.ensures
    ∙ found_beside c.in-Some-beside.number (length (all_words nodes edge.to)) c.index-in-Some-beside.result.now _ _ _ none some
    before (first_fork bears nodes c.args.graph.now.normal c.args.sought.now c.args.index edge at)

pub keep_vain-requires-clause-none : goal.keep_vain-requires-clause-none
keep_vain-requires-clause-none g t c =
    let nodes = c.args.graph.now.nodes.keys in
    let bears = g.S.Signs.bears c.args.signs.now in
    let edge = c.in-Fork.edge in
    let at : _ = c.index.ensures ∙ ap (λ (n : Node). Some n) c.in-Fork.is in
    let left : c.as_slice.result.now ≡ signs_left bears c.args.sought.now edge.letter =
    c.as_slice.ensures.value ∙ c.in_ok-left-in-Fork.ensures in
    let none : None ≡ option_map in_128_bits (first_with bears (signs_left bears c.args.sought.now edge.letter) (all_words nodes edge.to)) =
    sym c.in_default.is ∙ c.in_ok-by_edge-in-Fork.ensures.number
    ∙ ap (λ (l : List ℕ). option_map in_128_bits (first_with bears l (all_words nodes edge.to))) left in
    let beside : None ≡ option_map in_128_bits (first_with bears c.args.sought.now (all_words nodes edge.others)) =
    sym c.in_default-beside.is ∙ c.in_ok-beside-in-Fork.ensures.number in
    found_none (length (all_words nodes edge.to)) _ _ _ none beside
    (first_fork bears nodes c.args.graph.now.normal c.args.sought.now c.args.index edge at)

pub returns-else-is_empty-clause-number : goal.returns-else-is_empty-clause-number
returns-else-is_empty-clause-number g t c =
    let nodes = c.args.graph.now.nodes.keys in
    let bears = g.S.Signs.bears c.args.signs.now in
    let at : _ = c.index.ensures ∙ ap (λ (n : Node). Some n) c.in-End.is in
    first_end bears nodes c.args.graph.now.normal c.args.sought.now c.args.index at (search rules)

pub returns-in_ok-keep_vain-in-Fork-clause-number : goal.returns-in_ok-keep_vain-in-Fork-clause-number
returns-in_ok-keep_vain-in-Fork-clause-number g t c =
    let nodes = c.args.graph.now.nodes.keys in
    let bears = g.S.Signs.bears c.args.signs.now in
    let edge = c.in-Fork.edge in
    let at : _ = c.index.ensures ∙ ap (λ (n : Node). Some n) c.in-Fork.is in
    let left : c.as_slice.result.now ≡ signs_left bears c.args.sought.now edge.letter =
    c.as_slice.ensures.value ∙ c.in_ok-left-in-Fork.ensures in
    let none : None ≡ option_map in_128_bits (first_with bears (signs_left bears c.args.sought.now edge.letter) (all_words nodes edge.to)) =
    sym c.in_default.is ∙ c.in_ok-by_edge-in-Fork.ensures.number
    ∙ ap (λ (l : List ℕ). option_map in_128_bits (first_with bears l (all_words nodes edge.to))) left in
    let beside : None ≡ option_map in_128_bits (first_with bears c.args.sought.now (all_words nodes edge.others)) =
    sym c.in_default-beside.is ∙ c.in_ok-beside-in-Fork.ensures.number in
    ap (λ (o : Option ℕ). option_map in_128_bits o) (sym (found_none (length (all_words nodes edge.to)) _ _ _ none beside
    (first_fork bears nodes c.args.graph.now.normal c.args.sought.now c.args.index edge at)))
