use Rattle.std.proofs.Common.{◌≡◌, ◌++◌, ℕ, List, length, map, ap, ◌∙◌, sym, subst, string_bytes, String, Global}
use Rattle.std.proofs.lemmas.List.{length-map}
use Rattle.std.proofs.lemmas.Result.{IfOk-weaker}
use Rattle.std.specs.Global.{Vec}
use Rattle.ccan_outcomes.specs.RaceScript.{fields_of}
use Rattle.ccan_outcomes.specs.declared.ending.Ending.{Ending}
use Rattle.ccan_lab.specs.Observed.{AreFirstTexts, first_count, observed_lines}
use Rattle.ccan_lab.specs.Rows.{rows_of}
use Rattle.ccan_lab.specs.Seen.{IsSeenText, seen_heading}
use Rattle.ccan_lab.specs.Telling.{frames_in}
use Rattle.ccan_lab.proofs.seen.seen_listing.Goals as goal

pub returns : goal.returns
returns g c =
    let script = fields_of c.args.telling.now.query.now.race.now in
    let frames = frames_in c.args.telling.now.list.now in
    let form = c.args.telling.now.query.now.form in
    let marks = c.args.marks.now in
    let keys = c.args.shown.now.endings.items in
    let count = length keys in
    let texts = map string_bytes c.in_ok-texts.texts.lines.items in
    let is_told : List (List ℕ) → List ℕ → Type 0 =
    λ told added. AreFirstTexts (IsSeenText frames form script marks keys told) told count added in
    let texts_are = ap (λ (lines : Vec (String Global)). map string_bytes lines.items) c.in_ok-texts.ensures
    ∙ c.in_ok-lines.ensures in
    let added = c.in_ok-apart.ensures.text.0 in
    let are : is_told texts added = c.in_ok-apart.ensures.text.2 in
    let apart : c.in_ok-apart.apart ≡ first_count texts count = c.in_ok-apart.ensures.count in
    let firsts : c.as_str.result.now ≡ added =
    c.as_str.ensures.value ∙ c.in_ok-apart.ensures.text.1 ∙ ap (λ (t : List ℕ). t ++ added) c.new-told.ensures.bytes in
    IfOk-weaker c.below_heading.result _ _ (λ text told. record {
      outcomes = added;
      are = subst (λ told. is_told told added) texts_are are;
      text_is = told ∙ ap (λ (t : List ℕ). seen_heading c.in_ok-apart.apart ++ t) firsts
          ∙ ap (λ (n : ℕ). seen_heading n ++ added) apart
          ∙ ap (λ (told : List (List ℕ)). seen_heading (first_count told count) ++ added) texts_are;
    })
    c.below_heading.ensures

-- there is a text for each outcome
pub add_all_seen-requires-clause-as_many : goal.add_all_seen-requires-clause-as_many
add_all_seen-requires-clause-as_many g c =
    let texts = c.in_ok-texts.texts.lines.items in
    let texts_are = ap (λ (lines : Vec (String Global)). map string_bytes lines.items) c.in_ok-texts.ensures
    ∙ c.in_ok-lines.ensures in
    sym (length-map texts string_bytes) ∙ ap (λ (l : List (List ℕ)). length l) texts_are
    ∙ length-map c.args.shown.now.endings.items (λ (ending : Ending). observed_lines c.args.marks.now (rows_of ending))
