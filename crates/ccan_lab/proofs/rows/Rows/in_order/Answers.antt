use Rattle.std.proofs.Common.{◌≡◌, Contains, bytes_eq, ◌∙◌, sym, rules}
use Rattle.std.specs.Cmp.Lexicographic.{nat_list_eq_equiv, on_texts, texts_ties, same_text}
use Rattle.std.proofs.lemmas.List.Elements.{All-contains_itself}
use Rattle.std.proofs.lemmas.List.Filters.{All-dedup, dedup_is}
use Rattle.std.proofs.lemmas.List.Kept.{Contains-dedup, IsStrictlySortedBy-dedup}
use Rattle.std.proofs.lemmas.List.Sorted.{All-permutation, Contains-permutation, IsPermutation-map}
use Rattle.ccan_lab.specs.Sorted.{texts_of}
use Rattle.ccan_lab.proofs.Ordered.{All-at, sorted_texts, texts_of-dedup, Line, same_line}
use Rattle.ccan_lab.proofs.rows.Rows.in_order.Goals as goal

-- the sort only moves the lines, and `dedup` keeps one of each
pub returns : goal.returns
returns c =
    let all = c.args.self.now in
    let sorted = c.sort.new.self.items in
    let collected : texts_of c.in_ok-lines.lines.items ≡ all =
    c.in_ok-lines.ensures ∙ search rules ∙ c.self.view_is in
    let moved = rw collected at (IsPermutation-map (λ (line : Line). line.now) _ sorted c.sort.ensures.permutation) in
    let kept = dedup_is same_line sorted _ c.dedup.ensures.filtered in
    let keeps = Contains-dedup nat_list_eq_equiv (λ x y e. same_text x y (sym e)) (texts_of sorted) in
    record {
      right = All-at _ _ (rw (kept, texts_of-dedup sorted)
          (All-dedup bytes_eq (Contains all) _ (All-permutation (Contains all) all _ moved (All-contains_itself all))));
      complete = λ line inside. rw (kept, texts_of-dedup sorted) (keeps line (Contains-permutation all _ line moved inside));
      ordered = rw kept (sorted_texts _ (IsStrictlySortedBy-dedup (on_texts (λ (line : Line). line.now))
          (λ x y. texts_ties x.now y.now) sorted c.in_ok-sort.ensures.sorted));
    }
