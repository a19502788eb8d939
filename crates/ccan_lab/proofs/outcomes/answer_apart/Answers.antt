use Rattle.std.proofs.Common.{inl, inr, refl}
use Rattle.ccan_outcomes.specs.RaceScript.{fields_of}
use Rattle.ccan_outcomes.specs.declared.ending.Ending.{Ending}
use Rattle.ccan_outcomes.specs.Ending.{IsOfEnd}
use Rattle.ccan_outcomes.specs.LineEnds.{SaysOutcome}
use Rattle.ccan_lab.specs.Sorted.{texts_of}
use Rattle.ccan_lab.proofs.SomeLines.{refuses_moved, says_none_moved, says_one_moved, uncertain_moved}
use Rattle.ccan_lab.proofs.outcomes.answer_apart.Goals as goal

pub returns-in-Found-clause-told : goal.returns-in-Found-clause-told
returns-in-Found-clause-told g c =
    let script = fields_of c.args.query.now.race.now in
    let begins = texts_of c.args.begins.now in
    let Said = SaysOutcome c.args.lines.now in
    let Ends = IsOfEnd c.args.query.now.frames script in
    let so = λ (told : Ending). (c.requires.ends told).0 in
    let back = λ (told : Ending). (c.requires.ends told).1 in
    let searched = rw c.in-Found.is at c.in_ok-text.ensures in
    inr (
      record {
        why = c.requires.why;
        says = says_one_moved Said Ends so back c.args.query.now.most begins _ searched.0;
        taken = λ refused. searched.1 (refuses_moved Ends Said back so script begins refused);
      },
      refl,
    )

pub returns-in-NotFound-clause-told : goal.returns-in-NotFound-clause-told
returns-in-NotFound-clause-told g c =
    let script = fields_of c.args.query.now.race.now in
    let begins = texts_of c.args.begins.now in
    let Said = SaysOutcome c.args.lines.now in
    let Ends = IsOfEnd c.args.query.now.frames script in
    let so = λ (told : Ending). (c.requires.ends told).0 in
    let back = λ (told : Ending). (c.requires.ends told).1 in
    let searched = rw c.in-NotFound.is at c.in_ok-text.ensures in
    inl (
      record {
        why = c.requires.why;
        says = says_none_moved Said Ends so back begins _ searched.0;
        taken = λ refused. searched.1 (refuses_moved Ends Said back so script begins refused);
      },
      refl,
    )

pub returns-in-Uncertain-clause-without : goal.returns-in-Uncertain-clause-without
returns-in-Uncertain-clause-without g c =
    let script = fields_of c.args.query.now.race.now in
    let begins = texts_of c.args.begins.now in
    let Said = SaysOutcome c.args.lines.now in
    let Ends = IsOfEnd c.args.query.now.frames script in
    let so = λ (told : Ending). (c.requires.ends told).0 in
    let back = λ (told : Ending). (c.requires.ends told).1 in
    let searched = rw c.in-Uncertain.is at c.in_ok-text.ensures in (
      refl,
      record {
        why = c.requires.why;
        unclear = uncertain_moved Said Ends so back begins searched.0;
        taken = λ refused. searched.1 (refuses_moved Ends Said back so script begins refused);
      },
    )

pub returns-in-Refused-clause-without : goal.returns-in-Refused-clause-without
returns-in-Refused-clause-without g c =
    let script = fields_of c.args.query.now.race.now in
    let begins = texts_of c.args.begins.now in
    let Said = SaysOutcome c.args.lines.now in
    let Ends = IsOfEnd c.args.query.now.frames script in
    let so = λ (told : Ending). (c.requires.ends told).0 in
    let back = λ (told : Ending). (c.requires.ends told).1 in
    let searched = rw c.in-Refused.is at c.in_ok-text.ensures in
    inr (record { why = c.requires.why; refused = refuses_moved Said Ends so back script begins searched })
