-- The outcomes of the images stand for all outcomes.
use Rattle.std.proofs.Common.{ℕ, ◌≡◌, Bool, List, Some, Contains, get_or, slice_get, sym, ap, subst, ◌∙◌, arith}
use Rattle.std.proofs.lemmas.Option.{slice_get-get_or, slice_get_within}
use Rattle.ccan_language.specs.declared.letter.Letter.{Letter}
use Rattle.ccan_language.specs.Images.{word_image}
use Rattle.ccan_language.specs.Words.{IsWordFrom}
use Rattle.ccan_language.proofs.Grown.{same_some}
use Rattle.ccan_language.proofs.Listed.{its_words}
use Rattle.ccan_line.specs.Script.{ScriptFields}
use Rattle.ccan_outcomes.specs.declared.ending.Ending.{Ending}
use Rattle.ccan_outcomes.specs.declared.observed.Observed.{Observed}
use Rattle.ccan_outcomes.specs.declared.words.OutcomeWords.{OutcomeWords}
use Rattle.ccan_outcomes.specs.Observed.{AreImages, LookAlike, observed_words}
use Rattle.ccan_outcomes.specs.OutcomeWords.{AreComplete, ending_of_word, endings_in}
use Rattle.ccan_outcomes.proofs.Worded.{listed_word}
use Rattle.ccan_lab.specs.Observed.{observed_lines}
use Rattle.ccan_lab.specs.Rows.{rows_of}
use Rattle.ccan_lab.specs.Seen.{AreShown, AreShownOf}
use Rattle.ccan_lab.proofs.Chosen.{item}
use Rattle.ccan_lab.proofs.NoLine.{contains_at}
use Rattle.ccan_lab.proofs.SameLines.{lines_same}

-- the place at which an item stands
place_of : {A : Type 0} (xs : List A) (x : A) → Contains xs x → (k : ℕ) × (slice_get xs k ≡ Some x)
place_of xs x (k, low, at) = (k, slice_get-get_or xs k x low ∙ ap (λ (y : _). Some y) at)

module _ (script : ScriptFields) (words : OutcomeWords) (complete : AreComplete script (endings_in words)) (marks : List Bool)
    (observed : Observed) (images : AreImages words observed)
    (alike : (one other : List Letter) → IsWordFrom words.graph.nodes.keys words.start one
    → IsWordFrom words.graph.nodes.keys words.start other
    → word_image observed.images one ≡ word_image observed.images other
    → LookAlike marks (ending_of_word words one) (ending_of_word words other)) (shown : List Ending)
    (are : AreShown words observed shown) where
  abbrev Stands : Ending → Type 0
  Stands ending =
      (other : Ending) × Contains shown other
      × (observed_lines marks (rows_of ending) ≡ observed_lines marks (rows_of other))

  of_word : (ending : Ending) (word : List Letter) → Contains (endings_in words) ending
      → IsWordFrom words.graph.nodes.keys words.start word → ending_of_word words word ≡ ending → Stands ending
  of_word ending word listed from is =
      let node = get_or observed.made.items words.start 0 in
      let many = images.as_many in
      let at = slice_get-get_or observed.made.items words.start 0 (omega (arith, many)) in
      let image = images.complete words.start node word at from in
      let into = its_words observed.graph.nodes.keys observed.graph.normal node (images.within words.start node at) in
      let place = place_of (observed_words words observed) (word_image observed.images word) (into.complete _ image) in
      let within = slice_get_within (observed_words words observed) place.0 _ place.1 in
      let long = are.as_many in
      let other = item shown place.0 (omega (arith, within, long)) in
      let found = are.are place.0 other.0 other.1 in
      let same : word_image observed.images word ≡ word_image observed.images found.0 =
      same_some _ _ (sym place.1 ∙ found.2) in
      let looks : LookAlike marks ending other.0 =
      subst (λ (e : Ending). LookAlike marks e other.0) is
      (subst (λ (e : Ending). LookAlike marks (ending_of_word words word) e) (sym found.3)
      (alike word found.0 from found.1 same)) in
      let one = complete ending listed in
      let two = complete other.0 found.4 in (
        other.0,
        contains_at shown place.0 other.0 other.1,
        lines_same marks ending other.0 (one.if1 ∙ sym two.if1) (one.if2 ∙ sym two.if2) (one.bus ∙ sym two.bus)
            (one.records ∙ sym two.records) looks,
      )

  pub shown_of : AreShownOf marks (endings_in words) shown
  shown_of = record {
    right = λ ending inside. let place = place_of shown ending inside in (are.are place.0 ending place.1).4;
    complete = λ ending inside.
        let its = its_words words.graph.nodes.keys words.graph.normal words.start words.within in
        let word = listed_word words its ending inside in
        of_word ending word.0 inside (its.right word.0 word.1) word.2;
  }
