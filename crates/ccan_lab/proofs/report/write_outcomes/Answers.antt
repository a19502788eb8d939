use Rattle.std.proofs.Common.{◌++◌, ℕ, [], string_bytes, refl, add-one, subst, sym, arith}
use Rattle.std.proofs.KnownBytes.{Appends-nil, Appends-trans}
use Rattle.std.specs.Io.KnownBytes.{Appends}
use Rattle.ccan_outcomes.specs.RaceScript.{fields_of}
use Rattle.ccan_outcomes.specs.OutcomeWords.{endings_in}
use Rattle.ccan_lab.specs.Listing.{AreOutcomeTexts}
use Rattle.ccan_lab.specs.Sorted.{all_texts}
use Rattle.ccan_lab.specs.Telling.{frames_in}
use Rattle.ccan_lab.proofs.report.write_outcomes.Goals as goal

pub loop-number-init : goal.loop-number-init
loop-number-init g c = record { within = omega arith; told = ([], Appends-nil (g.W.Write.contents c.args.writer.now), refl) }

pub loop-number-preserved : goal.loop-number-preserved
loop-number-preserved g c =
    let number = c.loop-number.number in
    let script = fields_of c.args.telling.now.query.now.race.now in
    let frames = frames_in c.args.telling.now.list.now in
    let form = c.args.telling.now.query.now.form in
    let endings = endings_in c.args.telling.now.list.now.words in
    let choices = all_texts c.args.choices.now in
    let old = g.W.Write.contents c.args.writer.now in
    let between = g.W.Write.contents c.loop-number.writer in
    let new = g.W.Write.contents c.write_piece.new.writer in
    let so_far = c.loop-number.invariant.told in
    let text = string_bytes c.in-Ok-Some.text in
    let made = rw c.in-Ok-Some.field-0-is at c.in-Ok-Some.ensures.text in
    let low = made.0 in
    let written = subst (Appends between new) c.as_str.ensures.value c.in_ok-write_piece-in-Ok-Some.ensures.ok in
    record {
      within = omega (arith, low);
      told = (
        so_far.0 ++ text,
        Appends-trans old between new so_far.0 text so_far.1 written,
        subst (λ (count : ℕ). AreOutcomeTexts frames form script endings choices count (so_far.0 ++ text)) (sym (add-one number))
            (so_far.0, text, refl, so_far.2, made.1),
      );
    }

pub returns-in-Ok-None-clause-written : goal.returns-in-Ok-None-clause-written
returns-in-Ok-None-clause-written g c =
    let told = c.loop-number.invariant.told in
    let within = c.loop-number.invariant.within in
    let past = rw c.in-Ok-None.field-0-is at c.in-Ok-None.ensures.none in
    record {
      count = c.loop-number.number;
      within = within;
      text = told.0;
      is_list = told.2;
      written = told.1;
      ends = omega (arith, within, past);
    }

pub returns-in-Err-clause-written : goal.returns-in-Err-clause-written
returns-in-Err-clause-written g c =
    let told = c.loop-number.invariant.told in
    record {
      count = c.loop-number.number;
      within = c.loop-number.invariant.within;
      text = told.0;
      is_list = told.2;
      written = told.1;
      ends = (refl, λ same. refl);
    }

pub returns-clause-written : goal.returns-clause-written
returns-clause-written g c =
    let told = c.loop-number.invariant.told in
    record {
      count = c.loop-number.number;
      within = c.loop-number.invariant.within;
      text = told.0;
      is_list = told.2;
      written = told.1;
      ends = (refl, λ same. refl);
    }
