use Rattle.std.proofs.Common.{inr, ◌∙◌, Bool, List, string_bytes, subst}
use Rattle.std.proofs.lemmas.Result.{IfErr-weaker, IfOk-weaker}
use Rattle.ccan_outcomes.specs.RaceScript.{fields_of}
use Rattle.ccan_outcomes.specs.OutcomeWords.{endings_in}
use Rattle.ccan_lab.specs.Observed.{marks_of, names_in}
use Rattle.ccan_lab.specs.Seen.{HasNoImages, ListsSeen}
use Rattle.ccan_lab.specs.Telling.{frames_in}
use Rattle.ccan_lab.proofs.seen.seen_text.Goals as goal

pub returns-clause-text : goal.returns-clause-text
returns-clause-text g c =
    let script = fields_of c.args.query.now.race.now in
    let list = c.in_ok-list.list in
    let endings = endings_in list.words in
    let form = c.args.query.now.form in
    let marks_are = c.as_slice.ensures.value ∙ c.in_ok-marks.ensures in
    IfOk-weaker c.seen_of_list.result _ _
    (λ text lists. record {
      outcomes = endings;
      ends = c.in_ok-list.ensures.ends;
      are = c.in_ok-list.ensures.all;
      runs = c.in_ok-list.ensures.told.runs;
      once = c.in_ok-list.ensures.distinct;
      lists = subst (λ (it : Bool). ListsSeen it form script (marks_of (names_in c.args.names.now) script) endings
          (string_bytes text))
          c.in_ok-list.ensures.frames
          (subst (λ (marks : List Bool). ListsSeen (frames_in list) form script marks endings (string_bytes text)) marks_are lists);
    })
    c.seen_of_list.ensures.text

pub returns-clause-without : goal.returns-clause-without
returns-clause-without g c =
    let words = c.in_ok-list.list.words in
    let most = c.args.query.now.most in
    let marks_are = c.as_slice.ensures.value ∙ c.in_ok-marks.ensures in
    IfErr-weaker c.seen_of_list.result (HasNoImages words c.as_slice.result.now most) _
    (λ why none. inr (
      words,
      c.in_ok-list.ensures.ends,
      c.in_ok-list.ensures.all,
      subst (λ (marks : List Bool). HasNoImages words marks most why) marks_are none,
    ))
    c.seen_of_list.ensures.without
