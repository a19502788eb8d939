use Rattle.std.proofs.Common.{◌≡◌, false, true, map, string_bytes, refl, sym, ap, ◌∙◌}
use Rattle.ccan_lab.specs.Brief.{first_at, goes_on_at, group_text}
use Rattle.ccan_lab.proofs.Grouped.{first_behind, first_stays, nothing_yet}
use Rattle.ccan_lab.proofs.Texts.{each_begins, each_goes_on}
use Rattle.ccan_lab.proofs.brief.add_groups.Goals.{then-not-goes_on_at+in_ok-add_group, else-not-goes_on_at}
use Rattle.ccan_lab.proofs.brief.add_groups.Goals as goal

pub loop-place-init : goal.loop-place-init
unfolding first_at
loop-place-init c = record {
  begins = refl;
  told = each_begins (string_bytes c.args.text.now) (group_text c.args.steps.now (map string_bytes c.args.details.now));
}

pub loop-place-preserved : goal.loop-place-preserved
loop-place-preserved c =
    let steps = c.args.steps.now in
    let place = c.loop-place.place in
    let texts = map string_bytes c.args.details.now in
    let start = string_bytes c.args.text.now in
    let goes : c.goes_on_at.result ≡ goes_on_at steps place = c.goes_on_at.ensures in
    elim c.if-not-goes_on_at.branch [
      | then-not-goes_on_at+in_ok-add_group w ↦
          let not : goes_on_at steps place ≡ false = sym goes ∙ w.if-not-goes_on_at.true in
          record {
            begins = w.first-is ∙ first_behind steps place not;
            told = each_goes_on (string_bytes c.loop-place.text) (string_bytes c.if-not-goes_on_at.text) start
                (group_text steps texts) place c.loop-place.invariant.told
                (ap string_bytes w.text-is ∙ w.in_ok-add_group.ensures);
          }
      | else-not-goes_on_at w ↦
          let so : goes_on_at steps place ≡ true = sym goes ∙ w.if-not-goes_on_at.false in
          record {
            begins = w.first-is ∙ (c.loop-place.invariant.begins ∙ first_stays steps place so);
            told = each_goes_on (string_bytes c.loop-place.text) (string_bytes c.if-not-goes_on_at.text) start
                (group_text steps texts) place c.loop-place.invariant.told
                (ap string_bytes w.text-is ∙ nothing_yet steps texts place (string_bytes c.loop-place.text) so);
          }
    ]
