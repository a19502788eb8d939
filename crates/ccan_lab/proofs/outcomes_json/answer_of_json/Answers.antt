use Rattle.std.proofs.Common.{◌∙◌}
use Rattle.ccan_lab.proofs.outcomes_json.answer_of_json.Goals as goal

pub returns-clause-told : goal.returns-clause-told
returns-clause-told g c = record {
  page = c.in_ok-page.page;
  file_is = c.in_ok-page.ensures.file ∙ c.in_ok-empty.ensures;
  shows = c.in_ok-page.ensures.outcomes;
  text_is = c.in_ok-text.ensures;
}
