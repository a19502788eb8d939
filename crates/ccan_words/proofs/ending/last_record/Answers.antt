-- In a closed table the word of an object names the last version of the history, whose words are those of its record.
use Rattle.std.proofs.Common.{ℕ, get_or, sym, ap, ◌∙◌, arith}
use Rattle.std.specs.Slots.{slots_items}
use Rattle.ccan_words.proofs.LastWords.{end_number, end_none, end_some}
use Rattle.ccan_words.proofs.ending.last_record.Goals as goal

pub word_at-number-requires-clause-place : goal.word_at-number-requires-clause-place
word_at-number-requires-clause-place g c =
    let lies = g.met.L.Layout.lies c.args.profile in
    let f = lies.cells c.args.object c.requires.object in
    let a = lies.above in
    let e = c.cell.ensures in
    omega arith

pub version_at-requires-clause-number : goal.version_at-requires-clause-number
version_at-requires-clause-number g c =
    let M = g.met.L.Layout in
    let profile = c.args.profile in
    let ws = slots_items c.args.closed.now.words in
    let t = c.requires.settled in
    end_number (g.L.Layout.form profile) (M.lies profile) (M.shows profile) ws c.args.object c.word_at-number.result
    c.requires.object
    (ap (λ (i : ℕ). get_or ws i 0) (sym c.cell.ensures) ∙ c.word_at-number.ensures) t.0 t.1 c.if-number-eq0.false

pub returns-then-number-eq0 : goal.returns-then-number-eq0
returns-then-number-eq0 g c log t =
    let M = g.met.L.Layout in
    let profile = c.args.profile in
    let ws = slots_items c.args.closed.now.words in
    c.zero.ensures
    ∙ end_none (g.L.Layout.form profile) (M.lies profile) (M.shows profile) ws c.args.object c.word_at-number.result
    c.requires.object
    (ap (λ (i : ℕ). get_or ws i 0) (sym c.cell.ensures) ∙ c.word_at-number.ensures) c.if-number-eq0.true log t

pub returns : goal.returns
returns g c log t =
    let M = g.met.L.Layout in
    let profile = c.args.profile in
    let ws = slots_items c.args.closed.now.words in
    end_some (g.L.Layout.form profile) (M.lies profile) (M.shows profile) ws c.args.object c.word_at-number.result
    c.requires.object
    (ap (λ (i : ℕ). get_or ws i 0) (sym c.cell.ensures) ∙ c.word_at-number.ensures)
    c.offset-first.result c.version_at.result c.record_in.result c.if-number-eq0.false c.offset-first.ensures.value
    c.version_at.ensures
    c.record_in.ensures log t
