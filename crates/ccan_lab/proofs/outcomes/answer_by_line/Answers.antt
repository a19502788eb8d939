use Rattle.std.proofs.Common.{◌≡◌, inl, inr, refl, rules, subst, sym}
use Rattle.std.proofs.lemmas.Result.{IfErr-weaker}
use Rattle.ccan_outcomes.specs.RaceScript.{fields_of}
use Rattle.ccan_outcomes.specs.contracts.all_ports.AllPortsPartialEq.TheImpl.{ghosts as ports_are}
use Rattle.ccan_outcomes.specs.OutcomeWords.{endings_in}
use Rattle.ccan_lab.specs.declared.lab_error.LabError.TheVariants as fault
use Rattle.ccan_lab.specs.Sorted.{texts_of}
use Rattle.ccan_lab.specs.Words.{IsUnanswered}
use Rattle.ccan_lab.proofs.outcomes.answer_by_line.Goals as goal

pub returns-in_ok-text-in-Found-clause-told : goal.returns-in_ok-text-in-Found-clause-told
returns-in_ok-text-in-Found-clause-told g c =
    let searched = rw c.in-Found.is at c.in_ok-number.ensures in
    inr (
      record {
        outcomes = endings_in c.args.telling.now.list.now.words;
        ends = c.requires.can.ends;
        are = c.requires.all;
        runs = c.requires.can.runs;
        once = c.requires.distinct;
        says = (c.in-Found.number, searched.0, c.in_ok-text-in-Found.ensures);
        taken = searched.2;
      },
      refl,
    )

pub returns-in-NotFound-clause-told : goal.returns-in-NotFound-clause-told
returns-in-NotFound-clause-told g c =
    let searched = rw c.in-NotFound.is at c.in_ok-number.ensures in
    inl (
      record {
        outcomes = endings_in c.args.telling.now.list.now.words;
        ends = c.requires.can.ends;
        are = c.requires.all;
        runs = c.requires.can.runs;
        once = c.requires.distinct;
        says = searched.0;
        taken = searched.1;
      },
      refl,
    )

pub returns-in_err-number-clause-without : goal.returns-in_err-number-clause-without
returns-in_err-number-clause-without g c =
    let script = fields_of c.args.telling.now.query.now.race.now in
    let frames = c.args.telling.now.list.now.words.numbers.frames in
    IfErr-weaker c.from_residual.result (λ why. why ≡ fault.Memory) _
    (λ why is. subst (IsUnanswered frames script (texts_of c.args.begins.now) ports_are.eq c.args.telling.now.query.now.most)
    (sym is) tt)
    (search rules)

pub returns-in_err-text-in-Found-clause-without : goal.returns-in_err-text-in-Found-clause-without
returns-in_err-text-in-Found-clause-without g c =
    let script = fields_of c.args.telling.now.query.now.race.now in
    let frames = c.args.telling.now.list.now.words.numbers.frames in
    IfErr-weaker c.from_residual-in_err-text-in-Found.result (λ why. why ≡ fault.Memory) _
    (λ why is. subst (IsUnanswered frames script (texts_of c.args.begins.now) ports_are.eq c.args.telling.now.query.now.most)
    (sym is) tt)
    (search rules)

pub returns-in-Refused-clause-without : goal.returns-in-Refused-clause-without
returns-in-Refused-clause-without g c =
    let refused = rw c.in-Refused.is at c.in_ok-number.ensures in
    inl (endings_in c.args.telling.now.list.now.words, c.requires.can.ends, c.requires.all, refused)
