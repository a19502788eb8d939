-- The bytes that were told apart make the whole text.
use Rattle.std.proofs.Common.{◌∙◌, arith, codes, refl, rules, sym}
use Rattle.std.proofs.lemmas.Slice.Eq.{text_from_reads}
use Rattle.ccan_script.specs.FaultName.{fault_named}
use Rattle.ccan_script.proofs.fault_name.fault_named.Goals as goal

pub returns-in-form : goal.returns-in-form
unfolding fault_named
returns-in-form c =
    rw (sym c.as_bytes.ensures.value ∙ text_from_reads c.as_bytes.result.now (codes "form") (omega arith) (search rules)) refl

pub returns-in-bit1 : goal.returns-in-bit1
unfolding fault_named
returns-in-bit1 c =
    rw (sym c.as_bytes.ensures.value ∙ text_from_reads c.as_bytes.result.now (codes "bit1") (omega arith) (search rules)) refl

pub returns-in-bit0 : goal.returns-in-bit0
unfolding fault_named
returns-in-bit0 c =
    rw (sym c.as_bytes.ensures.value ∙ text_from_reads c.as_bytes.result.now (codes "bit0") (omega arith) (search rules)) refl

pub returns-in-stuff : goal.returns-in-stuff
unfolding fault_named
returns-in-stuff c =
    rw (sym c.as_bytes.ensures.value ∙ text_from_reads c.as_bytes.result.now (codes "stuff") (omega arith) (search rules)) refl
