use Rattle.std.proofs.Common.{◌≡◌, rules, subst, sym}
use Rattle.std.proofs.lemmas.Result.{IfErr-weaker, IfOk-weaker}
use Rattle.ccan_outcomes.specs.RaceScript.{fields_of}
use Rattle.ccan_outcomes.specs.contracts.all_ports.AllPortsPartialEq.TheImpl.{ghosts as ports_are}
use Rattle.ccan_outcomes.specs.OutcomeWords.{endings_in}
use Rattle.ccan_lab.specs.declared.lab_error.LabError.{LabError}
use Rattle.ccan_lab.specs.declared.lab_error.LabError.TheVariants as fault
use Rattle.ccan_lab.specs.Answered.{RefusesAsked}
use Rattle.ccan_lab.specs.Telling.{frames_in}
use Rattle.ccan_lab.specs.Words.{HasNoWords}
use Rattle.ccan_lab.proofs.Writing.{lists_asked, nothing_written, refuses_list, unwritten_for}
use Rattle.ccan_lab.proofs.each_list.list_script.Goals as goal

pub returns-clause-listed : goal.returns-clause-listed
returns-clause-listed g c =
    let question = c.args.question.now in
    let script = fields_of c.args.race.now in
    let list = c.in_ok-list.list in
    let found = c.in_ok-list.ensures in
    IfOk-weaker c.list_outcomes.result _ _ (λ end written. (
      written.text,
      written.written,
      lists_asked question script (frames_in list) found.frames (endings_in list.words) found.ends found.all found.told.runs
          found.distinct end _ _ _ written,
    ))
    c.list_outcomes.ensures.written

pub returns-clause-unlisted : goal.returns-clause-unlisted
returns-clause-unlisted g c =
    let question = c.args.question.now in
    let script = fields_of c.args.race.now in
    let refuses : LabError → Type 0 = RefusesAsked question script in
    IfErr-weaker c.list_outcomes.result _ _
    (unwritten_for (λ why. why ≡ fault.Memory) refuses
    (λ why is. subst refuses (sym is) (refuses_list question script question.asked c.requires fault.Memory tt)) _ _)
    c.list_outcomes.ensures.unwritten

pub returns-in_err-list-clause-unlisted : goal.returns-in_err-list-clause-unlisted
returns-in_err-list-clause-unlisted g c =
    let question = c.args.question.now in
    let script = fields_of c.args.race.now in
    IfErr-weaker c.from_residual.result (HasNoWords question.frames script ports_are.eq question.most) _
    (λ why none. nothing_written (RefusesAsked question script) _ why
    (refuses_list question script question.asked c.requires why none))
    (search rules)
