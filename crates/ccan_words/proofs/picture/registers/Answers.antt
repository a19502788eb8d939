-- The registers show the objects before the loop's place; each turn adds the flags of one more.
use Rattle.std.proofs.Common.{◌≡◌, ◌+◌, ◌<◌, ℕ, get_or, sym, ◌∙◌, ap, subst, refl, arith}
use Rattle.ccan_object.specs.Profile.{objects_in}
use Rattle.ccan_object.specs.Record.{zero_record}
use Rattle.ccan_ram.specs.HandlerRegisters.{AreBelow, first_records, registers_of}
use Rattle.ccan_ram.specs.History.{last_number, record_at}
use Rattle.ccan_ram.proofs.Registers.{registers_next, registers_same, below_more}
use Rattle.ccan_words.proofs.Picturing.{record_then}
use Rattle.ccan_words.proofs.Ports.{WordSeat}
use Rattle.ccan_words.proofs.picture.registers.Goals.{then-number-ne0, else-number-ne0}
use Rattle.ccan_words.proofs.picture.registers.Goals as goal

-- Where the object was written, the version of its number has its record, whose flags go above the others; where it was not, its
-- record is zero, and the registers stay.
pub loop-place-preserved : goal.loop-place-preserved
loop-place-preserved g c =
    let i = c.loop-place.invariant in
    let n = c.loop-place.place in
    let profile = c.args.words.now.profile in
    let numbers = c.args.numbers.now in
    let number = c.objects-place-end.ensures.number in
    let test = c.loop-place-test.true in
    let same = ap objects_in c.key.ensures.profile in
    let F = g.L.Layout.form profile in
    let M = g.met.L.Layout in
    let at : get_or numbers c.from.result 0 ≡ get_or numbers n 0 = ap (λ (k : ℕ). get_or numbers k 0) c.from.ensures in
    let less : n < objects_in profile = omega arith in
    elim c.if-number-ne0.branch [
      | then-number-ne0 w ↦ record {
        table = ap (λ (s : WordSeat). s.table_id) w.seat-is ∙ (w.fetch-shown.ensures.same.0 ∙ i.table);
        me = ap (λ (s : WordSeat). s.me) w.seat-is ∙ (w.fetch-shown.ensures.same.1 ∙ i.me);
        below = subst (AreBelow (n + 1)) (sym w.registers-is) w.with_flags-registers.ensures.below;
        shown = λ p x log view begins sound all.
            let k = w.from-then-number-ne0 in
            let is : get_or numbers c.from.result 0 ≡ last_number g.L.Layout.contends (k.result + 1) log =
            at ∙ (all n less ∙ ap (λ (j : ℕ). last_number g.L.Layout.contends (j + 1) log) (sym k.ensures)) in
            let here =
            record_then F (M.lies profile) (M.shows profile) p (k.result + 1) _ w.fetch-shown.result x c.loop-place.seat.me log
            (i.me ∙ view) (record { least = omega arith; greatest = omega (arith, k.ensures, less) }) begins sound is
            w.fetch-shown.ensures.none w.fetch-shown.ensures.value in
            w.registers-is ∙ (w.with_flags-registers.ensures.value
            ∙ registers_next n w.fetch-shown.result c.loop-place.registers log
            (here ∙ ap (λ (j : ℕ). record_at (j + 1) log) k.ensures) (i.shown p x log view begins sound all));
      }
      | else-number-ne0 w ↦ record {
        table = ap (λ (s : WordSeat). s.table_id) w.seat-is ∙ i.table;
        me = ap (λ (s : WordSeat). s.me) w.seat-is ∙ i.me;
        below = subst (AreBelow (n + 1)) (sym w.registers-is) (below_more n c.loop-place.registers i.below);
        shown = λ p x log view begins sound all.
            let none : get_or numbers n 0 ≡ 0 = sym at ∙ w.if-number-ne0.false in
            let here =
            record_then F (M.lies profile) (M.shows profile) p (n + 1) _ zero_record x c.loop-place.seat.me log (i.me ∙ view)
            (record { least = omega arith; greatest = omega (arith, less) }) begins sound (all n less) (λ z. refl)
            (λ nz. absurd (nz none)) in
            w.registers-is ∙ registers_same n c.loop-place.registers log here (i.shown p x log view begins sound all);
      }
    ]

pub returns-clause-shown : goal.returns-clause-shown
returns-clause-shown g c p x log view begins sound all =
    let number = c.objects-place-end.ensures.number in
    let same = ap objects_in c.key.ensures.profile in
    let last : c.loop-place.place ≡ objects_in c.args.words.now.profile = omega arith in
    c.loop-place.invariant.shown p x log view begins sound all ∙ ap (λ (n : ℕ). registers_of (first_records n log)) last
