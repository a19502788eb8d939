use Rattle.std.proofs.Common.{Contains, ◌≡◌, ◌++◌, List, ℕ, length, min, append_assoc, ap, inl, subst, ◌∙◌, rules}
use Rattle.std.proofs.lemmas.Result.{IfErr-weaker, IfOk-weaker}
use Rattle.std.specs.Io.KnownBytes.{Appends}
use Rattle.ccan_outcomes.specs.RaceScript.{fields_of}
use Rattle.ccan_outcomes.specs.OutcomeWords.{endings_in}
use Rattle.ccan_lab.specs.declared.lab_error.LabError.TheVariants as fault
use Rattle.ccan_lab.specs.Counting.{count_text, greatest}
use Rattle.ccan_lab.specs.EachFile.{heading_if}
use Rattle.ccan_lab.specs.Listing.{AreOutcomeTexts, IsListingTo}
use Rattle.ccan_lab.specs.Sorted.{AreAllInOrder, all_texts}
use Rattle.ccan_lab.specs.Summary.{same_parts}
use Rattle.ccan_lab.specs.Telling.{frames_in}
use Rattle.ccan_lab.proofs.Listed.{has_choices}
use Rattle.ccan_lab.proofs.Parts.{Lines}
use Rattle.ccan_lab.proofs.Writing.{nothing_written, written_below}
use Rattle.ccan_lab.proofs.report.write_listing.Goals as goal

pub returns-clause-written : goal.returns-clause-written
returns-clause-written g c =
    let script = fields_of c.args.telling.now.query.now.race.now in
    let frames = frames_in c.args.telling.now.list.now in
    let form = c.args.telling.now.query.now.form in
    let endings = endings_in c.args.telling.now.list.now.words in
    let rows = c.in_ok-rows.rows.items in
    let choices = all_texts c.in_ok-choices.choices.items in
    let ordered : AreAllInOrder rows choices =
    subst (λ (l : List (List (List ℕ))). AreAllInOrder l choices) c.as_slice.ensures.value c.in_ok-choices.ensures in
    let has = has_choices script (Contains endings) rows choices c.in_ok-rows.ensures.places c.in_ok-rows.ensures.lines ordered in
    let head = count_text (min (length endings) greatest) ++ same_parts choices in
    let head_is : c.as_str.result.now ≡ head =
    c.as_str.ensures.value ∙ c.in_ok-head.ensures
    ∙ ap (λ (l : List Lines). count_text (min (length endings) greatest) ++ same_parts (all_texts l)) c.as_slice-2.ensures.value in
    let above = heading_if c.args.is_shown c.args.name.now in
    let whole : (count : ℕ) (text : List ℕ) → AreOutcomeTexts frames form script endings (all_texts c.as_slice-3.result.now)
    count text
    → IsListingTo frames form script endings count (head ++ text) =
    λ count text are. record {
      choices = choices;
      has_choices = has;
      outcomes = text;
      are = subst (λ (l : List Lines). AreOutcomeTexts frames form script endings (all_texts l) count text)
          c.as_slice-3.ensures.value are;
      text_is = append_assoc (count_text (min (length endings) greatest)) (same_parts choices) text;
    } in
    let old = g.W.Write.contents c.args.writer.now in
    let between = g.W.Write.contents c.write_below.new.writer in
    let new = g.W.Write.contents c.write_outcomes.new.writer in
    IfOk-weaker c.write_outcomes.result _ _ (λ end later.
    written_below above head (AreOutcomeTexts frames form script endings (all_texts c.as_slice-3.result.now))
    (IsListingTo frames form script endings) (λ why. why ≡ fault.Memory) (length endings)
    whole end old between new (subst (λ (t : List ℕ). Appends old between (above ++ t)) head_is
    c.in_ok-write_below.ensures.ok) later)
    c.write_outcomes.ensures.written

pub returns-clause-unwritten : goal.returns-clause-unwritten
returns-clause-unwritten g c =
    IfErr-weaker c.write_outcomes.result (λ why. why ≡ fault.Write) _ (λ why is. inl is) c.write_outcomes.ensures.fault

pub returns-in_err-rows-clause-unwritten : goal.returns-in_err-rows-clause-unwritten
returns-in_err-rows-clause-unwritten g c =
    IfErr-weaker c.from_residual.result (λ why. why ≡ fault.Memory) _
    (nothing_written (λ why. why ≡ fault.Memory) (g.W.Write.contents c.args.writer.now)) (search rules)

pub returns-in_err-choices-clause-unwritten : goal.returns-in_err-choices-clause-unwritten
returns-in_err-choices-clause-unwritten g c =
    IfErr-weaker c.from_residual-in_err-choices.result (λ why. why ≡ fault.Memory) _
    (nothing_written (λ why. why ≡ fault.Memory) (g.W.Write.contents c.args.writer.now)) (search rules)

pub returns-in_err-head-clause-unwritten : goal.returns-in_err-head-clause-unwritten
returns-in_err-head-clause-unwritten g c =
    IfErr-weaker c.from_residual-in_err-head.result (λ why. why ≡ fault.Memory) _
    (nothing_written (λ why. why ≡ fault.Memory) (g.W.Write.contents c.args.writer.now)) (search rules)

pub returns-in_err-write_below-clause-unwritten : goal.returns-in_err-write_below-clause-unwritten
returns-in_err-write_below-clause-unwritten g c =
    IfErr-weaker c.from_residual-in_err-write_below.result (λ why. why ≡ fault.Write) _ (λ why is. inl is) (search rules)
