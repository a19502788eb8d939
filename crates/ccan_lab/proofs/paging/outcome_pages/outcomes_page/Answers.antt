use Rattle.std.proofs.lemmas.Result.{IfOk-weaker}
use Rattle.ccan_outcomes.specs.RaceScript.{fields_of}
use Rattle.ccan_lab.proofs.paging.outcome_pages.outcomes_page.Goals as goal

pub returns-clause-outcomes : goal.returns-clause-outcomes
returns-clause-outcomes g c =
    IfOk-weaker c.listed_page.result _ _ (λ made shows. record {
      searched = fields_of c.in_ok-race.race;
      once = c.in_ok-race.ensures.is;
      same_outcomes = c.in_ok-race.ensures.same;
      same_ends = c.in_ok-race.ensures.ends;
      shows = shows;
    })
    c.listed_page.ensures.outcomes
