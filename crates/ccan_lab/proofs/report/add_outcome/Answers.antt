use Rattle.std.proofs.Common.{ℕ, ◌≡◌, ◌++◌, List, IfSome, sym, ap, subst, refl, ◌∙◌, string_bytes}
use Rattle.std.proofs.lemmas.Result.{on_ok_weaker}
use Rattle.ccan_outcomes.specs.RaceScript.{fields_of}
use Rattle.ccan_language.proofs.Grown.{same_some}
use Rattle.ccan_outcomes.specs.declared.ending.Ending.{Ending}
use Rattle.ccan_outcomes.specs.OutcomeWords.{endings_in}
use Rattle.ccan_lab.specs.Replay.{Replays}
use Rattle.ccan_lab.specs.Report.{outcome_text}
use Rattle.ccan_lab.specs.Telling.{frames_in}
use Rattle.ccan_lab.proofs.Told.{names_in, names_lead}
use Rattle.ccan_lab.proofs.report.add_outcome.Goals as goal

pub returns : goal.returns
returns g c =
    let lines = c.args.lines.now in
    let script = fields_of c.args.telling.now.query.now.race.now in
    let frames = frames_in c.args.telling.now.list.now in
    let number = c.args.number in
    let ending = c.args.ending.now in
    let keys = endings_in c.args.telling.now.list.now.words in
    let steps = c.in_ok-history.history.steps.items in
    let told = string_bytes c.in_ok-told.told in
    let order = names_in c.in_ok-order.order in
    let found : IfSome order (Replays frames script ending) =
    names_lead (Replays frames script ending) c.in_ok-order.order c.in_ok-order.ensures in
    let text_is = ap (λ (words : List ℕ). string_bytes c.args.text.now ++ outcome_text lines number words order)
    c.as_str.ensures.value in
    on_ok_weaker c.add_told_outcome.result (λ added. (
      outcome_text lines number told order,
      added ∙ text_is,
      (
        steps,
        told,
        order,
        (λ shown is.
            let same : ending ≡ shown = same_some ending shown (sym c.requires.at ∙ is) in (
              c.in_ok-history.ensures.history shown is,
              subst (λ (e : Ending). IfSome order (Replays frames script e)) same found,
            )),
        (c.in_ok-history.history.states.items, c.in_ok-history.ensures.states, c.in_ok-told.ensures),
        refl,
      ),
    ))
    c.add_told_outcome.ensures
