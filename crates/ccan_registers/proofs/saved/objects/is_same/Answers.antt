use Rattle.std.proofs.Common.{ap, sym, ◌∙◌}
use Rattle.ccan_object.specs.Packing.{packed}
use Rattle.ccan_registers.proofs.Records.{same_record}
use Rattle.ccan_registers.proofs.saved.objects.is_same.Goals as goal

pub returns : goal.returns
returns c =
    let a = c.pack-words.ensures in
    let b = c.pack-others.ensures in (
      λ t. same_record c.args.first.now c.args.second.now a.is_record b.is_record
          (sym a.words ∙ c.are_equal.ensures.0 t ∙ b.words),
      λ e. c.are_equal.ensures.1 (a.words ∙ ap packed e ∙ sym b.words),
    )
