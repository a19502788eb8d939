use Rattle.std.proofs.Common.{ℕ, ◌≡◌, ◌+◌, ◌++◌, ◌∷◌, [], List, Some, length, slice_get, sym, ap, subst, ◌∙◌, arith, inl, inr}
use Rattle.std.specs.Global.{Vec}
use Rattle.std.proofs.lemmas.Bool.{cases_lt}
use Rattle.std.proofs.lemmas.Option.{slice_get_within}
use Rattle.ccan_language.specs.declared.letter.Letter.{Letter}
use Rattle.ccan_language.specs.Images.{word_image}
use Rattle.ccan_language.specs.Words.{IsWordFrom}
use Rattle.ccan_language.proofs.Grown.{slice_get_last, slice_get_last_is}
use Rattle.ccan_search.proofs.GraphGrown.{last_cases}
use Rattle.ccan_search.proofs.Inserted.{slice_get_left}
use Rattle.ccan_outcomes.specs.declared.ending.Ending.{Ending}
use Rattle.ccan_outcomes.specs.declared.words.OutcomeWords.{OutcomeWords}
use Rattle.ccan_outcomes.specs.Observed.{observed_words}
use Rattle.ccan_outcomes.specs.OutcomeWords.{ending_of_word}
use Rattle.ccan_outcomes.proofs.ImageRows.{before_push, push_long}
use Rattle.ccan_lab.specs.Seen.{AreSaid, IsShownAt}
use Rattle.ccan_lab.proofs.seen.all_shown.Goals as goal

-- one word more, and its outcome
said_more : (words : OutcomeWords) (old new : List (Vec Letter)) (before after : List Ending) (word : Vec Letter) (ending : Ending)
    → new ≡ old ++ word ∷ [] → after ≡ before ++ ending ∷ [] → length old ≡ length before
    → IsWordFrom words.graph.nodes.keys words.start word.items → ending ≡ ending_of_word words word.items
    → AreSaid words old before → AreSaid words new after
said_more words old new before after word ending new_is after_is as_many from is said place other at =
    elim (last_cases old word other place (ap (λ (l : List (Vec Letter)). slice_get l place) (sym new_is) ∙ at))
    as (λ _. IsWordFrom words.graph.nodes.keys words.start other.items
    × (slice_get after place ≡ Some (ending_of_word words other.items))) [
      | inl older ↦
          let one = said place other older in (
            one.0,
            ap (λ (l : List Ending). slice_get l place) after_is
                ∙ slice_get_left before (ending ∷ []) place (ending_of_word words other.items) one.1,
          )
      | inr last ↦ (
        subst (λ (w : Vec Letter). IsWordFrom words.graph.nodes.keys words.start w.items) last.1 from,
        (λ i. slice_get (after_is i) ((last.0 ∙ as_many) i))
            ∙ (slice_get_last before ending
            ∙ ap (λ (e : Ending). Some e) (is ∙ ap (λ (w : Vec Letter). ending_of_word words w.items) last.1)),
      )
    ]

pub loop-number-preserved : goal.loop-number-preserved
loop-number-preserved c =
    let words = c.args.words.now in
    let observed = c.args.observed.now in
    let number = c.loop-number.number in
    let word = c.in-Some.word in
    let before = c.loop-number.endings.items in
    let ending = c.in_ok-ending_of.field-0 in
    let many = c.loop-number.invariant.many in
    let image = rw c.in-Some.is at c.in_ok-word.ensures.image in
    let from = rw c.in-Some.is at c.in_ok-word.ensures.word in
    let within = slice_get_within (observed_words words observed) number (word_image observed.images word.items) image in
    let said : ending ≡ ending_of_word words word.items =
    c.in_ok-ending_of.ensures.word ∙ ap (ending_of_word words) c.as_slice.ensures.value in
    let there : IsWordFrom words.graph.nodes.keys words.start c.as_slice.result.now =
    subst (λ (w : List Letter). IsWordFrom words.graph.nodes.keys words.start w) (sym c.as_slice.ensures.value) from in
    let shown : IsShownAt words observed number ending =
    (word.items, from, image, said, c.in_ok-ending_of.ensures.listed there) in
    record {
      long = push_long c.loop-number.shown.items c.push-in-loop-number.new.self.items word c.in_ok-push-2.ensures.items
          ∙ ap (λ (n : ℕ). n + 1) c.loop-number.invariant.long;
      many = push_long before c.push.new.self.items ending c.in_ok-push.ensures.items ∙ ap (λ (n : ℕ). n + 1) many;
      few = omega (arith, within);
      are = λ place other at. elim (cases_lt place (length before)) as (λ _. IsShownAt words observed place other) [
        | inl low ↦
            c.loop-number.invariant.are place other
            (sym (before_push before c.push.new.self.items ending place c.in_ok-push.ensures.items low) ∙ at)
        | inr high ↦
            let last = slice_get_last_is before ending other place high
            (ap (λ (l : List Ending). slice_get l place) (sym c.in_ok-push.ensures.items) ∙ at) in
            subst (λ (n : ℕ). IsShownAt words observed n other) (sym (last.0 ∙ many))
            (subst (λ (e : Ending). IsShownAt words observed number e) last.1 shown)
      ];
      said = said_more words c.loop-number.shown.items c.push-in-loop-number.new.self.items before c.push.new.self.items word ending
          c.in_ok-push-2.ensures.items c.in_ok-push.ensures.items
          (c.loop-number.invariant.long ∙ sym many) from said c.loop-number.invariant.said;
    }
