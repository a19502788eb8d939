-- The registers show the flags of the objects before the loop's place; each turn adds those of one more, and at the end a
-- look at each object is added to the history, all at one place.
use Rattle.std.proofs.Common.{◌≡◌, ◌∙◌, ap, get_or, sym, subst, arith}
use Rattle.std.proofs.lemmas.List.{get_or_read_under}
use Rattle.ccan_object.specs.Profile.{objects_in}
use Rattle.ccan_object.specs.Record.{zero_record}
use Rattle.ccan_ram.specs.HandlerRegisters.{AreBelow, first_records, registers_of}
use Rattle.ccan_ram.proofs.Registers.{registers_next, none_below}
use Rattle.ccan_ram.proofs.Pictures.{left_at, pictures}
use Rattle.ccan_ram.proofs.array.ArrayAccess.look_all.Goals as goal

pub loop-place-init : goal.loop-place-init
loop-place-init c = record {
  below = subst (AreBelow 0) (sym c.zero-registers.ensures) none_below;
  shown = λ seen h. c.zero-registers.ensures;
}

pub loop-place-preserved : goal.loop-place-preserved
loop-place-preserved c =
    let a = c.args.self.now in
    let i = c.loop-place.place in
    let read = c.index-self-from in
    let r = get_or a.records c.from.result read.result in
    let test = c.loop-place-test.true in
    let number = c.objects-place-end.ensures.number in
    let most = c.objects-place-end.ensures.most in
    let here : r ≡ get_or a.records i zero_record =
    sym read.is
    ∙ get_or_read_under a.records i 64 read.result zero_record
    (read.is ∙ ap (λ n. get_or a.records n read.result) c.from.ensures) (omega arith) (sym a.all_records) in
    record {
      below = c.with_flags-registers.ensures.below;
      shown = λ seen h.
          c.with_flags-registers.ensures.value
          ∙ registers_next i r c.loop-place.registers seen (left_at i r (omega arith) here h)
          (c.loop-place.invariant.shown seen h);
    }

pub returns-clause-pictures : goal.returns-clause-pictures
returns-clause-pictures c =
    let a = c.args.self.now in
    let number = c.objects-place-end.ensures.number in
    let last : c.loop-place.place ≡ objects_in a.profile = omega arith in
    pictures a.profile a.records a.used a.port a.quota c.loop-place.registers
    (λ seen h. c.loop-place.invariant.shown seen h ∙ ap (λ n. registers_of (first_records n seen)) last)
