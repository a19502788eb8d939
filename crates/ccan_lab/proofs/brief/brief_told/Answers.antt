use Rattle.std.proofs.Common.{ℕ, ◌∙◌, List, String, Global, map, string_bytes, ap, subst}
use Rattle.std.proofs.lemmas.Result.{IfOk-weaker}
use Rattle.ccan_outcomes.specs.RaceScript.{fields_of}
use Rattle.ccan_outcomes.specs.declared.all_ports.AllPorts.{AllPorts}
use Rattle.ccan_outcomes.specs.declared.history_step.HistoryStep.{HistoryStep}
use Rattle.ccan_lab.specs.Brief.{AreDetails, brief_text}
use Rattle.ccan_lab.proofs.brief.brief_told.Goals as goal

pub returns : goal.returns
returns c =
    let script = fields_of c.args.race.now in
    let history = c.args.history.now in
    let texts : List (String Global) → List (List ℕ) = map string_bytes in
    let details = texts c.in_ok-details.details.items in
    IfOk-weaker c.groups_told.result _ _ (λ text is. record {
      details = details;
      are = subst (λ (states : List AllPorts). AreDetails script history.steps.items states details) c.as_slice.ensures.value
          (subst (λ (steps : List HistoryStep). AreDetails script steps c.as_slice.result.now details)
          c.as_slice-steps.ensures.value c.in_ok-details.ensures);
      text_is = is ∙ ap (λ (all : List (String Global)). brief_text c.as_slice-steps.result.now (texts all))
          c.as_slice-2.ensures.value
          ∙ ap (λ (steps : List HistoryStep). brief_text steps details) c.as_slice-steps.ensures.value;
    })
    c.groups_told.ensures
