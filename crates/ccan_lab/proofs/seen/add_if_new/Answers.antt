use Rattle.std.proofs.Common.{◌≡◌, ◌<◌, length, false, ℕ, List, map, ap, sym, ◌∙◌, subst, string_bytes, rules}
use Rattle.ccan_outcomes.specs.RaceScript.{fields_of}
use Rattle.ccan_outcomes.specs.History.{IsHistoryOf}
use Rattle.ccan_lab.specs.Brief.{IsHistoryText}
use Rattle.ccan_lab.specs.Observed.{is_repeat, text_at}
use Rattle.ccan_lab.specs.Report.{IsTextWith}
use Rattle.ccan_lab.specs.Seen.{IsSeenText, ReplaysShown}
use Rattle.ccan_lab.specs.Telling.{frames_in}
use Rattle.ccan_lab.proofs.Apart.{first_text, text_in}
use Rattle.ccan_lab.proofs.seen.add_if_new.Goals as goal

pub returns-clause-text : goal.returns-clause-text
returns-clause-text g c =
    let texts = c.args.texts.now.lines.items in
    let place = c.args.place in
    let marks = c.args.marks.now in
    let script = fields_of c.args.telling.now.query.now.race.now in
    let frames = frames_in c.args.telling.now.list.now in
    let form = c.args.telling.now.query.now.form in
    let keys = c.args.shown.now.endings.items in
    let repeat = is_repeat (map string_bytes texts) place in
    let lines = text_at (map string_bytes texts) place in
    let added = c.in_ok-add_seen.ensures.0 in
    let first : repeat ≡ false = search rules in
    let shown = c.index.result.now in
    let within : place < length texts = subst (λ count. place < count) (sym c.requires.as_many) c.requires.within in
    let lines_are : c.as_str-lines.result.now ≡ lines =
    c.as_str-lines.ensures.value ∙ ap string_bytes c.index.ensures ∙ sym (text_in texts place shown within) in
    let is_text : List ℕ → ℕ → Type 0 =
    λ shown_lines number.
    IsTextWith (IsHistoryOf frames script) (IsHistoryText form script)
    (λ _. ReplaysShown frames script marks shown_lines) keys place shown_lines
    number added in
    let told : IsSeenText frames form script marks keys (map string_bytes texts) lines place added =
    subst (λ (n : ℕ). is_text lines n) c.requires.counts
    (subst (λ (l : List ℕ). is_text l c.args.number) lines_are c.in_ok-add_seen.ensures.2) in (
      added,
      c.in_ok-add_seen.ensures.1,
      first_text (IsSeenText frames form script marks keys (map string_bytes texts)) repeat lines place added first told,
    )
