use Rattle.std.proofs.Common.{◌≡◌, ◌≤◌, ◌+◌, ◌++◌, ℕ, Bool, [], ap, ◌∙◌, if◌then◌else◌, map, string_bytes, sym, refl, le_refl, length, append-nil, add-one, arith, subst, rules}
use Rattle.ccan_outcomes.specs.RaceScript.{fields_of}
use Rattle.ccan_lab.specs.Observed.{AreFirstTexts}
use Rattle.ccan_lab.specs.Seen.{IsSeenText}
use Rattle.ccan_lab.specs.Telling.{frames_in}
use Rattle.ccan_lab.proofs.Apart.{count_by, count_none}
use Rattle.ccan_lab.proofs.Texts.{part_more}
use Rattle.ccan_lab.proofs.seen.add_all_seen.Goals as goal
use Rattle.ccan_lab.proofs.seen.add_all_seen.Goals.{then-branch, else-branch}

pub loop-place-init : goal.loop-place-init
loop-place-init g c = (
  le_refl 0,
  sym (count_none (map string_bytes c.args.texts.now.lines.items)),
  ([], sym (append-nil (string_bytes c.args.text.now)), refl),
)

pub loop-place-preserved : goal.loop-place-preserved
loop-place-preserved g c =
    let texts = map string_bytes c.args.texts.now.lines.items in
    let marks = c.args.marks.now in
    let script = fields_of c.args.telling.now.query.now.race.now in
    let frames = frames_in c.args.telling.now.list.now in
    let form = c.args.telling.now.query.now.form in
    let keys = c.args.shown.now.endings.items in
    let place = c.loop-place.place in
    let count = c.loop-place.count in
    let first = c.in_ok-add_if_new.field-0 in
    let so_far = c.loop-place.invariant.2 in
    let last = c.in_ok-add_if_new.ensures.text.0 in
    let counted : c.if-branch.count ≡ (if first then count + 1 else count) =
    elim c.if-branch.branch [
      | then-branch w ↦ w.count-is ∙ ap (λ (b : Bool). if b then count + 1 else count) (sym w.if-branch.true)
      | else-branch w ↦ w.count-is ∙ ap (λ (b : Bool). if b then count + 1 else count) (sym w.if-branch.false)
    ] in
    let few_still : c.if-branch.count ≤ place + 1 =
    elim c.if-branch.branch [ then-branch w ↦ search rules | else-branch w ↦ search rules ] in (
      few_still,
      counted ∙ count_by texts place count first c.loop-place.invariant.1 c.in_ok-add_if_new.ensures.first,
      (
        so_far.0 ++ last,
        part_more (string_bytes c.loop-place.text) (string_bytes c.add_if_new.new.text) (string_bytes c.args.text.now)
            so_far.0 last so_far.1 c.in_ok-add_if_new.ensures.text.1,
        subst (λ (n : ℕ). AreFirstTexts (IsSeenText frames form script marks keys texts) texts n (so_far.0 ++ last))
            (sym (add-one place))
            (so_far.0, last, refl, so_far.2, c.in_ok-add_if_new.ensures.text.2),
      ),
    )

pub returns-clause-text : goal.returns-clause-text
returns-clause-text g c =
    let texts = map string_bytes c.args.texts.now.lines.items in
    let marks = c.args.marks.now in
    let script = fields_of c.args.telling.now.query.now.race.now in
    let frames = frames_in c.args.telling.now.list.now in
    let form = c.args.telling.now.query.now.form in
    let keys = c.args.shown.now.endings.items in
    let place = c.loop-place.place in
    let at_most = c.loop-place.auto.place-end in
    let past = c.loop-place-test.false in
    let all : place ≡ length keys = omega (arith, at_most, past) in
    let so_far = c.loop-place.invariant.2 in (
      so_far.0,
      so_far.1,
      subst (λ (n : ℕ). AreFirstTexts (IsSeenText frames form script marks keys texts) texts n so_far.0) all so_far.2,
    )
