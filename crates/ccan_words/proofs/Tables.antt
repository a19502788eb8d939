-- A table is named by its numbers.
use Rattle.std.proofs.Common.{◌≡◌, ap, ◌∙◌}
use Rattle.atomic_table.specs.Seated.{TableId}
use Rattle.ccan_ram.specs.SharedRam.{Memory, Pass}
use Rattle.ccan_words.specs.Port.{numbers_of}

pub same_table : (a b : TableId) → numbers_of a ≡ numbers_of b → a ≡ b
same_table a b e =
    let words : a.words ≡ b.words = cc in
    let slots : a.slots ≡ b.slots = cc in
    let views_name : a.views_name ≡ b.views_name = cc in
    let atom : a.atom ≡ b.atom = cc in
    let block : a.block ≡ b.block = cc in
    let offset : a.offset ≡ b.offset = cc in
    let slot_names : a.slot_names ≡ b.slot_names = cc in
    λ i. record {
      words = words i;
      slots = slots i;
      views_name = views_name i;
      atom = atom i;
      block = block i;
      offset = offset i;
      slot_names = slot_names i;
    }

-- a port of the memory
pub memory_is : {pass was : Pass} {memory : Memory} → pass ≡ was → was.memory ≡ memory → pass.memory ≡ memory
memory_is e f = ap (λ (q : Pass). q.memory) e ∙ f
