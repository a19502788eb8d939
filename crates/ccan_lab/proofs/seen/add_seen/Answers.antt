use Rattle.std.proofs.Common.{ℕ, ◌≡◌, ◌<◌, ◌++◌, List, Some, IfSome, slice_get, ap, subst, refl, sym, ◌∙◌, length, string_bytes}
use Rattle.std.proofs.lemmas.Option.{slice_get_read}
use Rattle.std.proofs.lemmas.Result.{on_ok_weaker}
use Rattle.ccan_language.specs.declared.letter.Letter.{Letter}
use Rattle.ccan_language.specs.Words.{IsWordFrom}
use Rattle.ccan_language.proofs.Grown.{same_some}
use Rattle.ccan_outcomes.specs.RaceScript.{fields_of}
use Rattle.ccan_outcomes.specs.declared.ending.Ending.{Ending}
use Rattle.ccan_outcomes.specs.History.{IsHistoryOf}
use Rattle.ccan_outcomes.specs.OutcomeWords.{ending_of_word}
use Rattle.ccan_lab.specs.Report.{outcome_text}
use Rattle.ccan_lab.specs.Seen.{ReplaysShown}
use Rattle.ccan_lab.specs.Telling.{frames_in}
use Rattle.ccan_lab.proofs.Told.{names_in, names_lead}
use Rattle.ccan_lab.proofs.seen.add_seen.Goals as goal

pub history_by_word-requires-clause-said : goal.history_by_word-requires-clause-said
history_by_word-requires-clause-said g c =
    let words = c.args.telling.now.list.now.words in
    let all = c.args.shown.now.words.items in
    let word = c.index.result.now in
    let within = subst (λ (n : ℕ). c.args.place < n) (sym c.args.shown.now.as_many) c.requires.within in
    let at : slice_get all c.args.place ≡ Some word = slice_get_read all (length all) c.args.place word refl within c.index.ensures in
    subst (λ (l : List Letter). IsWordFrom words.graph.nodes.keys words.start l)
    (sym (c.in_ok-word.ensures.items ∙ c.as_slice.ensures.value)) (c.requires.said c.args.place word at).0

pub returns : goal.returns
returns g c =
    let lines = c.args.lines.now in
    let script = fields_of c.args.telling.now.query.now.race.now in
    let frames = frames_in c.args.telling.now.list.now in
    let words = c.args.telling.now.list.now.words in
    let number = c.args.number in
    let place = c.args.place in
    let marks = c.args.marks.now in
    let all = c.args.shown.now.words.items in
    let keys = c.args.shown.now.endings.items in
    let steps = c.in_ok-history.history.steps.items in
    let told = string_bytes c.in_ok-told.told in
    let order = names_in c.in_ok-order.order in
    let word = c.index.result.now in
    let within = subst (λ (n : ℕ). place < n) (sym c.args.shown.now.as_many) c.requires.within in
    let at : slice_get all place ≡ Some word = slice_get_read all (length all) place word refl within c.index.ensures in
    let shown = (c.requires.said place word at).1 in
    let word_is = c.in_ok-word.ensures.items ∙ c.as_slice.ensures.value in
    let it_is : (ending : Ending) → slice_get keys place ≡ Some ending → ending_of_word words c.in_ok-word.word.items ≡ ending =
    λ ending is. ap (ending_of_word words) word_is ∙ same_some (ending_of_word words word.items) ending (sym shown ∙ is) in
    let found : IfSome order (ReplaysShown frames script marks lines) =
    names_lead (ReplaysShown frames script marks lines) c.in_ok-order.order c.in_ok-order.ensures in
    let text_is = ap (λ (text : List ℕ). string_bytes c.args.text.now ++ outcome_text lines number text order)
    c.as_str.ensures.value in
    on_ok_weaker c.add_told_outcome.result (λ added. (
      outcome_text lines number told order,
      added ∙ text_is,
      (
        steps,
        told,
        order,
        (λ ending is. (
          subst (λ (e : Ending). IsHistoryOf frames script e steps) (it_is ending is) c.in_ok-history.ensures.history,
          found,
        )),
        (c.in_ok-history.history.states.items, c.in_ok-history.ensures.states, c.in_ok-told.ensures),
        refl,
      ),
    ))
    c.add_told_outcome.ensures
