use Rattle.std.proofs.Common.{◌≡◌, ◌++◌, ◌∙◌, ℕ, List, ap, inl, length, map, refl, rules, string_bytes, subst, sym}
use Rattle.std.proofs.lemmas.List.{length-map}
use Rattle.std.proofs.lemmas.Result.{IfErr-weaker, IfOk-weaker}
use Rattle.std.specs.Io.KnownBytes.{Appends}
use Rattle.ccan_outcomes.specs.RaceScript.{fields_of}
use Rattle.ccan_outcomes.specs.OutcomeWords.{endings_in}
use Rattle.ccan_lab.specs.declared.lab_error.LabError.TheVariants as fault
use Rattle.ccan_lab.specs.EachFile.{heading_if}
use Rattle.ccan_lab.specs.Observed.{AreFirstTexts, IsObservedListingTo, first_count, marks_of, names_in, observed_heading, observed_lines}
use Rattle.ccan_lab.specs.Observed.{observed_texts}
use Rattle.ccan_lab.specs.OutcomeText.{IsOutcomeText}
use Rattle.ccan_lab.specs.Rows.{rows_of}
use Rattle.ccan_lab.specs.Telling.{frames_in}
use Rattle.ccan_lab.proofs.Writing.{nothing_written, written_below}
use Rattle.ccan_lab.proofs.observed.write_observed.Goals as goal

-- there is a text for each outcome
as_many : {A B : Type 0} (f : A → List ℕ) (texts : List A) (told : B → List ℕ) (endings : List B) → map f texts ≡ map told endings
    → length texts ≡ length endings
as_many f texts told endings same =
    sym (length-map texts f) ∙ ap (λ (l : List (List ℕ)). length l) same ∙ length-map endings told

pub write_firsts-requires-clause-as_many : goal.write_firsts-requires-clause-as_many
write_firsts-requires-clause-as_many g c =
    let script = fields_of c.args.telling.now.query.now.race.now in
    let marks = marks_of (names_in c.args.list.now) script in
    as_many string_bytes c.in_ok-texts.texts.lines.items (λ ending. observed_lines marks (rows_of ending))
    (endings_in c.args.telling.now.list.now.words) c.in_ok-texts.ensures

pub returns-clause-written : goal.returns-clause-written
returns-clause-written g c =
    let script = fields_of c.args.telling.now.query.now.race.now in
    let frames = frames_in c.args.telling.now.list.now in
    let form = c.args.telling.now.query.now.form in
    let names = names_in c.args.list.now in
    let endings = endings_in c.args.telling.now.list.now.words in
    let marks = marks_of names script in
    let lines = c.in_ok-texts.texts.lines.items in
    let texts = map string_bytes lines in
    let texts_are : texts ≡ observed_texts marks endings = c.in_ok-texts.ensures in
    let many : length lines ≡ length endings =
    as_many string_bytes lines (λ ending. observed_lines marks (rows_of ending)) endings c.in_ok-texts.ensures in
    let count = length endings in
    let head = observed_heading count (first_count (observed_texts marks endings) count) in
    let head_is : c.as_str.result.now ≡ head =
    c.as_str.ensures.value ∙ c.in_ok-head.ensures
    ∙ (λ i. observed_heading (many i) (first_count (texts_are i) (many i))) in
    let above = heading_if c.args.is_shown c.args.name.now in
    let IsText = IsOutcomeText frames form script endings in
    let whole : (upto : ℕ) (text : List ℕ) → AreFirstTexts IsText texts upto text
    → IsObservedListingTo frames form names script endings upto (head ++ text) =
    λ upto text are. record {
      outcomes = text;
      are = subst (λ told. AreFirstTexts IsText told upto text) texts_are are;
      text_is = refl;
    } in
    let old = g.W.Write.contents c.args.writer.now in
    let between = g.W.Write.contents c.write_below.new.writer in
    let new = g.W.Write.contents c.write_firsts.new.writer in
    IfOk-weaker c.write_firsts.result _ _ (λ end later.
    written_below above head (AreFirstTexts IsText texts) (IsObservedListingTo frames form names script endings)
    (λ why. why ≡ fault.Memory) (length endings) whole end old between new
    (subst (λ (t : List ℕ). Appends old between (above ++ t)) head_is c.in_ok-write_below.ensures.ok) later)
    c.write_firsts.ensures.written

pub returns-clause-unwritten : goal.returns-clause-unwritten
returns-clause-unwritten g c =
    IfErr-weaker c.write_firsts.result (λ why. why ≡ fault.Write) _ (λ why is. inl is) c.write_firsts.ensures.fault

pub returns-in_err-texts-clause-unwritten : goal.returns-in_err-texts-clause-unwritten
returns-in_err-texts-clause-unwritten g c =
    IfErr-weaker c.from_residual.result (λ why. why ≡ fault.Memory) _
    (nothing_written (λ why. why ≡ fault.Memory) (g.W.Write.contents c.args.writer.now)) (search rules)

pub returns-in_err-head-clause-unwritten : goal.returns-in_err-head-clause-unwritten
returns-in_err-head-clause-unwritten g c =
    IfErr-weaker c.from_residual-in_err-head.result (λ why. why ≡ fault.Memory) _
    (nothing_written (λ why. why ≡ fault.Memory) (g.W.Write.contents c.args.writer.now)) (search rules)

pub returns-in_err-write_below-clause-unwritten : goal.returns-in_err-write_below-clause-unwritten
returns-in_err-write_below-clause-unwritten g c =
    IfErr-weaker c.from_residual-in_err-write_below.result (λ why. why ≡ fault.Write) _ (λ why is. inl is) (search rules)
