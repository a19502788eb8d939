use Rattle.std.proofs.Common.{◌≡◌, Bool, inl, rules, subst, sym}
use Rattle.std.proofs.lemmas.Result.{IfErr-weaker}
use Rattle.ccan_outcomes.specs.RaceScript.{fields_of}
use Rattle.ccan_outcomes.specs.Ending.{AreAllEnds}
use Rattle.ccan_outcomes.specs.OutcomeWords.{endings_in}
use Rattle.ccan_outcomes.specs.contracts.all_ports.AllPortsPartialEq.TheImpl.{ghosts as ports_are}
use Rattle.ccan_lab.specs.declared.lab_error.LabError.TheVariants as fault
use Rattle.ccan_lab.specs.Words.{HasNoGraph}
use Rattle.ccan_lab.specs.Summary.{IsSummary}
use Rattle.ccan_lab.proofs.outcomes.answer_of_summary.Goals as goal

pub short_list-requires-clause-letters : goal.short_list-requires-clause-letters
short_list-requires-clause-letters g c =
    let gathered = rw c.in-Together.is at c.in_ok-list.ensures.gathered in gathered.can.letters

pub short_list-requires-clause-complete : goal.short_list-requires-clause-complete
short_list-requires-clause-complete g c =
    let gathered = rw c.in-Together.is at c.in_ok-list.ensures.gathered in gathered.can.complete

pub returns-in_ok-text-in-Together-clause-told : goal.returns-in_ok-text-in-Together-clause-told
returns-in_ok-text-in-Together-clause-told g c =
    let script = fields_of c.args.query.now.race.now in
    let gathered = rw c.in-Together.is at c.in_ok-list.ensures.gathered in
    let outcomes = endings_in c.in-Together.list.words in
    inl (
      record {
        outcomes = outcomes;
        ends = subst (λ (frames : Bool). AreAllEnds frames script outcomes) gathered.asked gathered.can.ends;
        are = gathered.are;
        runs = gathered.can.runs;
        once = gathered.once;
        text_is = subst (IsSummary script outcomes) (sym c.file_answer.ensures.text) c.in_ok-text-in-Together.ensures;
      },
      c.file_answer.ensures.status,
    )

-- memory ran out
pub returns-in_err-text-in-Together-clause-without : goal.returns-in_err-text-in-Together-clause-without
returns-in_err-text-in-Together-clause-without g c =
    IfErr-weaker c.from_residual-in_err-text-in-Together.result (λ why. why ≡ fault.Memory) _
    (λ why is. subst (HasNoGraph (fields_of c.args.query.now.race.now) ports_are.eq c.args.query.now.most) (sym is) tt)
    (search (rules, c.from_residual-in_err-text-in-Together.ensures))
