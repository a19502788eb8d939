-- A word of the next version is one of the record's, where the object's place in the layout says so, and else the old
-- version's word of that place.
use Rattle.std.proofs.Common.{◌-◌, refl, inl, inr, arith}
use Rattle.ccan_words.proofs.Making.{next_inside, next_blank, next_kept}
use Rattle.ccan_words.specs.Layout.{IsBeside}
use Rattle.ccan_words.proofs.version.next_word.Given.{Over}
use Rattle.ccan_words.proofs.version.next_word.Goals as goal
use Rattle.ccan_words.proofs.version.next_word.Goals.{Joined-else-word-first}
use Rattle.ccan_words.proofs.version.next_word.Goals.{else-word-first-via-then-word-first+else-word-first-lt3}
use Rattle.ccan_words.proofs.version.next_word.Goals.{else-word-first-via-else-word-first}

-- where no test held, the word is beside the record
beside : (g : Over) (c : Joined-else-word-first g)
    → IsBeside (g.L.Layout.form c.args.words.now.profile) c.args.version.now.object c.args.word
beside g c =
    let first = c.offset-first.ensures.value in
    elim c.else-word-first.branch [
      | else-word-first-via-then-word-first+else-word-first-lt3 w ↦ inr (omega arith)
      | else-word-first-via-else-word-first w ↦ inl (omega arith)
    ]

pub returns-then-word-first-lt3-clause-value : goal.returns-then-word-first-lt3-clause-value
returns-then-word-first-lt3-clause-value g c p x at held part is =
    let profile = c.args.words.now.profile in
    let M = g.met.L.Layout in
    let first = c.offset-first.ensures.value in
    next_inside (g.L.Layout.form profile) (M.lies profile) (M.makes profile) c.args.version.now c.requires.object at c.args.word
    (c.args.word - c.offset-first.result) c.word_of.result (omega arith) (omega arith) c.requires.content c.word_of.ensures

pub returns-then-version-eq0-clause-value : goal.returns-then-version-eq0-clause-value
returns-then-version-eq0-clause-value g c p x at held part is =
    let profile = c.args.words.now.profile in
    let M = g.met.L.Layout in
    next_blank (g.L.Layout.form profile) (M.lies profile) (M.makes profile) c.args.version.now c.requires.object at c.args.word
    c.requires.word
    (beside g (goal.at.returns-then-version-eq0-clause-value g c).Joined-else-word-first)
    c.if-version-eq0.true

pub returns-else-version-eq0-clause-value : goal.returns-else-version-eq0-clause-value
returns-else-version-eq0-clause-value g c p x at held part is =
    let profile = c.args.words.now.profile in
    let M = g.met.L.Layout in
    next_kept (g.L.Layout.form profile) (M.lies profile) (M.makes profile) c.args.version.now c.requires.object at c.args.word
    c.read.result x
    c.requires.word
    (beside g (goal.at.returns-else-version-eq0-clause-value g c).Joined-else-word-first)
    c.if-version-eq0.false part is
    (λ h st. c.read.ensures.told.value p x c.args.version.now.old c.args.word h held st c.requires.word refl)
