use Rattle.std.proofs.Common.{List, ℕ, inl, inr, rules, subst}
use Rattle.std.proofs.lemmas.Result.{IfErr-weaker, IfOk-weaker}
use Rattle.ccan_outcomes.specs.RaceScript.{fields_of}
use Rattle.ccan_lab.specs.Answered.{IsSearchedFor, RefusesAsked, RefusesBytes, RefusesFile, RefusesUnknown}
use Rattle.ccan_lab.proofs.Writing.{nothing_written, unwritten_for}
use Rattle.ccan_lab.proofs.each_list.list_source.Goals as goal

pub returns-clause-listed : goal.returns-clause-listed
returns-clause-listed g c =
    let searched = fields_of c.in_ok-race.race in
    let it : IsSearchedFor c.args.source.now.text.items searched =
    subst (λ (bytes : List ℕ). IsSearchedFor bytes searched) c.as_slice.ensures.value c.in_ok-race.ensures.searched in
    IfOk-weaker c.list_script.result _ _ (λ end listed. (
      listed.0,
      listed.1,
      record { searched = searched; is_for = it; known = c.in_ok-refuse_unknown.ensures.known; lists = listed.2 },
    ))
    c.list_script.ensures.listed

pub returns-clause-unlisted : goal.returns-clause-unlisted
returns-clause-unlisted g c =
    let question = c.args.question.now in
    let bytes = c.args.source.now.text.items in
    let searched = fields_of c.in_ok-race.race in
    let it : IsSearchedFor bytes searched =
    subst (λ (bytes : List ℕ). IsSearchedFor bytes searched) c.as_slice.ensures.value c.in_ok-race.ensures.searched in
    IfErr-weaker c.list_script.result _ _
    (unwritten_for (RefusesAsked question searched) (RefusesFile question bytes)
    (λ why refuses. inr (searched, it, inr refuses)) _ _)
    c.list_script.ensures.unlisted

pub returns-in_err-race-clause-unlisted : goal.returns-in_err-race-clause-unlisted
returns-in_err-race-clause-unlisted g c =
    let question = c.args.question.now in
    let bytes = c.args.source.now.text.items in
    IfErr-weaker c.from_residual.result (RefusesBytes bytes) _
    (λ why refuses. nothing_written (RefusesFile question bytes) _ why (inl refuses))
    (search rules)

pub returns-in_err-refuse_unknown-clause-unlisted : goal.returns-in_err-refuse_unknown-clause-unlisted
returns-in_err-refuse_unknown-clause-unlisted g c =
    let question = c.args.question.now in
    let bytes = c.args.source.now.text.items in
    let searched = fields_of c.in_ok-race.race in
    let it : IsSearchedFor bytes searched =
    subst (λ (bytes : List ℕ). IsSearchedFor bytes searched) c.as_slice.ensures.value c.in_ok-race.ensures.searched in
    IfErr-weaker c.from_residual-in_err-refuse_unknown.result (RefusesUnknown searched question.asked) _
    (λ why unknown. nothing_written (RefusesFile question bytes) _ why (inr (searched, it, inl unknown)))
    (search rules)
