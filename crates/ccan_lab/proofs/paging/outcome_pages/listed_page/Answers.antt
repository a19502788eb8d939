use Rattle.std.proofs.Common.{◌≡◌, Bool, rules, subst, sym}
use Rattle.std.proofs.lemmas.Result.{IfErr-weaker}
use Rattle.ccan_outcomes.specs.RaceScript.{fields_of}
use Rattle.ccan_outcomes.specs.OutcomeWords.{endings_in}
use Rattle.ccan_outcomes.specs.contracts.all_ports.AllPortsPartialEq.TheImpl.{ghosts as ports_are}
use Rattle.ccan_lab.specs.declared.lab_error.LabError.TheVariants as fault
use Rattle.ccan_lab.specs.Paging.{ShowsEndings}
use Rattle.ccan_lab.specs.Words.{HasNoWords}
use Rattle.ccan_lab.proofs.paging.outcome_pages.listed_page.Goals as goal

pub returns-clause-outcomes : goal.returns-clause-outcomes
returns-clause-outcomes g c =
    record {
      endings = endings_in c.in_ok-list.list.words;
      ends = c.in_ok-list.ensures.ends;
      complete = c.in_ok-list.ensures.all;
      runs = c.in_ok-list.ensures.told.runs;
      once = c.in_ok-list.ensures.distinct;
      shows = subst (λ (it : Bool). ShowsEndings it (fields_of c.args.query.now.race.now) (endings_in c.in_ok-list.list.words)
          c.args.limit c.in_ok-found_page.field-0)
          c.in_ok-list.ensures.frames c.in_ok-found_page.ensures.shows;
    }

pub returns-in_err-found_page-clause-without : goal.returns-in_err-found_page-clause-without
returns-in_err-found_page-clause-without g c =
    IfErr-weaker c.from_residual-in_err-found_page.result (λ why. why ≡ fault.Memory) _
    (λ why is. subst (HasNoWords c.args.query.now.frames (fields_of c.args.query.now.race.now) ports_are.eq c.args.query.now.most)
    (sym is) tt)
    (search (rules, c.from_residual-in_err-found_page.ensures))
