-- The bytes that were told apart make the whole text.
use Rattle.std.proofs.Common.{◌∙◌, arith, codes, refl, rules, sym}
use Rattle.std.proofs.lemmas.Slice.Eq.{text_from_reads}
use Rattle.ccan_script.specs.RegisterSet.{register_named}
use Rattle.ccan_script.proofs.register_set.register_named.Goals as goal

pub returns-in-arb1 : goal.returns-in-arb1
unfolding register_named
returns-in-arb1 c =
    rw (sym c.as_bytes.ensures.value ∙ text_from_reads c.as_bytes.result.now (codes "arb1") (omega arith) (search rules)) refl

pub returns-in-arb2 : goal.returns-in-arb2
unfolding register_named
returns-in-arb2 c =
    rw (sym c.as_bytes.ensures.value ∙ text_from_reads c.as_bytes.result.now (codes "arb2") (omega arith) (search rules)) refl

pub returns-in-ctrl : goal.returns-in-ctrl
unfolding register_named
returns-in-ctrl c =
    rw (sym c.as_bytes.ensures.value ∙ text_from_reads c.as_bytes.result.now (codes "ctrl") (omega arith) (search rules)) refl

pub returns-in-cmask : goal.returns-in-cmask
unfolding register_named
returns-in-cmask c =
    rw (sym c.as_bytes.ensures.value ∙ text_from_reads c.as_bytes.result.now (codes "cmask") (omega arith) (search rules)) refl

pub returns-in-mask1 : goal.returns-in-mask1
unfolding register_named
returns-in-mask1 c =
    rw (sym c.as_bytes.ensures.value ∙ text_from_reads c.as_bytes.result.now (codes "mask1") (omega arith) (search rules)) refl

pub returns-in-mask2 : goal.returns-in-mask2
unfolding register_named
returns-in-mask2 c =
    rw (sym c.as_bytes.ensures.value ∙ text_from_reads c.as_bytes.result.now (codes "mask2") (omega arith) (search rules)) refl

pub returns-in-dataa1 : goal.returns-in-dataa1
unfolding register_named
returns-in-dataa1 c =
    rw (sym c.as_bytes.ensures.value ∙ text_from_reads c.as_bytes.result.now (codes "dataa1") (omega arith) (search rules)) refl

pub returns-in-dataa2 : goal.returns-in-dataa2
unfolding register_named
returns-in-dataa2 c =
    rw (sym c.as_bytes.ensures.value ∙ text_from_reads c.as_bytes.result.now (codes "dataa2") (omega arith) (search rules)) refl

pub returns-in-datab1 : goal.returns-in-datab1
unfolding register_named
returns-in-datab1 c =
    rw (sym c.as_bytes.ensures.value ∙ text_from_reads c.as_bytes.result.now (codes "datab1") (omega arith) (search rules)) refl

pub returns-in-datab2 : goal.returns-in-datab2
unfolding register_named
returns-in-datab2 c =
    rw (sym c.as_bytes.ensures.value ∙ text_from_reads c.as_bytes.result.now (codes "datab2") (omega arith) (search rules)) refl
