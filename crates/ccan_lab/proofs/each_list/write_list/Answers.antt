use Rattle.std.proofs.Common.{◌≡◌, length, subst, sym}
use Rattle.std.proofs.lemmas.Result.{IfOk-weaker}
use Rattle.ccan_outcomes.specs.RaceScript.{fields_of}
use Rattle.ccan_outcomes.specs.OutcomeWords.{endings_in}
use Rattle.ccan_lab.specs.declared.asked.Asked.{Asked}
use Rattle.ccan_lab.specs.declared.lab_error.LabError.TheVariants as fault
use Rattle.ccan_lab.specs.EachFile.{heading_if}
use Rattle.ccan_lab.specs.Listing.{IsListingTo}
use Rattle.ccan_lab.specs.Observed.{IsObservedListingTo, names_in}
use Rattle.ccan_lab.specs.Outcomes.{AnswersTo}
use Rattle.ccan_lab.specs.Telling.{frames_in}
use Rattle.ccan_lab.proofs.Writing.{written_as}
use Rattle.ccan_lab.proofs.each_list.write_list.Goals as goal

pub returns-in-All-clause-written : goal.returns-in-All-clause-written
returns-in-All-clause-written g c =
    let script = fields_of c.args.telling.now.query.now.race.now in
    let frames = frames_in c.args.telling.now.list.now in
    let form = c.args.telling.now.query.now.form in
    let endings = endings_in c.args.telling.now.list.now.words in
    let old = g.W.Write.contents c.args.writer.now in
    let new = g.W.Write.contents c.write_listing.new.writer in
    IfOk-weaker c.write_listing.result _ _
    (λ end. written_as (heading_if c.args.is_shown c.args.name.now) (IsListingTo frames form script endings)
    (AnswersTo frames form script endings c.args.asked)
    (λ why. why ≡ fault.Memory) (length endings)
    (λ count text is. subst (λ (asked : Asked). AnswersTo frames form script endings asked count text) (sym c.in-All.is) is)
    end old new)
    c.write_listing.ensures.written

pub returns-in-AllObserved-clause-written : goal.returns-in-AllObserved-clause-written
returns-in-AllObserved-clause-written g c =
    let script = fields_of c.args.telling.now.query.now.race.now in
    let frames = frames_in c.args.telling.now.list.now in
    let form = c.args.telling.now.query.now.form in
    let endings = endings_in c.args.telling.now.list.now.words in
    let old = g.W.Write.contents c.args.writer.now in
    let new = g.W.Write.contents c.write_observed.new.writer in
    IfOk-weaker c.write_observed.result _ _
    (λ end. written_as (heading_if c.args.is_shown c.args.name.now)
    (IsObservedListingTo frames form (names_in c.in-AllObserved.names.now) script endings)
    (AnswersTo frames form script endings c.args.asked)
    (λ why. why ≡ fault.Memory) (length endings)
    (λ count text is. subst (λ (asked : Asked). AnswersTo frames form script endings asked count text) (sym c.in-AllObserved.is) is)
    end old new)
    c.write_observed.ensures.written
