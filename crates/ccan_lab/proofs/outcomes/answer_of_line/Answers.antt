use Rattle.std.proofs.Common.{Bool, IfErr, IfOk, inl, inr, string_bytes, subst, rules}
use Rattle.std.proofs.lemmas.Result.{IfErr-weaker, IfOk-weaker}
use Rattle.ccan_outcomes.specs.RaceScript.{fields_of}
use Rattle.ccan_outcomes.specs.contracts.all_ports.AllPortsPartialEq.TheImpl.{ghosts as ports_are}
use Rattle.ccan_outcomes.specs.contracts.ending.EndingPartialEq.TheImpl.{ghosts as ending_is}
use Rattle.ccan_lab.specs.Sorted.{texts_of}
use Rattle.ccan_lab.specs.Words.{HasNoGraph, IsUnanswered, TellsLine}
use Rattle.ccan_lab.proofs.Unanswered.{no_graph}
use Rattle.ccan_lab.proofs.outcomes.answer_of_line.Goals as goal

-- the words have frames exactly if they are asked for
pub returns-in-Together-clause-told : goal.returns-in-Together-clause-told
returns-in-Together-clause-told g c =
    let script = fields_of c.args.query.now.race.now in
    let gathered = rw c.in-Together.is at c.in_ok-list.ensures.gathered in
    IfOk-weaker c.answer_of_list.result _ _ (λ answer told. inl told)
    (subst (λ (frames : Bool). IfOk c.answer_of_list.result (λ answer. TellsLine frames c.args.query.now.form script ending_is.eq
    (texts_of c.args.begins.now) c.args.never (string_bytes answer.text) answer.holds))
    gathered.asked c.answer_of_list.ensures.told)

pub returns-in-Together-clause-without : goal.returns-in-Together-clause-without
returns-in-Together-clause-without g c =
    let script = fields_of c.args.query.now.race.now in
    let gathered = rw c.in-Together.is at c.in_ok-list.ensures.gathered in
    subst (λ (frames : Bool). IfErr c.answer_of_list.result
    (IsUnanswered frames script (texts_of c.args.begins.now) ports_are.eq c.args.query.now.most))
    gathered.asked c.answer_of_list.ensures.without

pub returns-in-Apart-clause-told : goal.returns-in-Apart-clause-told
returns-in-Apart-clause-told g c =
    IfOk-weaker c.answer_apart.result _ _ (λ answer told. inr told) c.answer_apart.ensures.told

pub returns-in_err-list-clause-without : goal.returns-in_err-list-clause-without
returns-in_err-list-clause-without g c =
    let script = fields_of c.args.query.now.race.now in
    IfErr-weaker c.from_residual.result (HasNoGraph script ports_are.eq c.args.query.now.most) _
    (no_graph c.args.query.now.frames script (texts_of c.args.begins.now) ports_are.eq c.args.query.now.most) (search rules)
