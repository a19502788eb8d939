-- The bytes that were told apart make the whole text.
use Rattle.std.proofs.Common.{◌∙◌, arith, codes, refl, rules, sym}
use Rattle.std.proofs.lemmas.Slice.Eq.{text_from_reads}
use Rattle.ccan_script.specs.FlagName.{flag_named}
use Rattle.ccan_script.proofs.flag_name.flag_named.Goals as goal

pub returns-in-newdat : goal.returns-in-newdat
unfolding flag_named
returns-in-newdat c =
    rw (sym c.as_bytes.ensures.value ∙ text_from_reads c.as_bytes.result.now (codes "newdat") (omega arith) (search rules)) refl

pub returns-in-msglst : goal.returns-in-msglst
unfolding flag_named
returns-in-msglst c =
    rw (sym c.as_bytes.ensures.value ∙ text_from_reads c.as_bytes.result.now (codes "msglst") (omega arith) (search rules)) refl

pub returns-in-intpnd : goal.returns-in-intpnd
unfolding flag_named
returns-in-intpnd c =
    rw (sym c.as_bytes.ensures.value ∙ text_from_reads c.as_bytes.result.now (codes "intpnd") (omega arith) (search rules)) refl

pub returns-in-txrqst : goal.returns-in-txrqst
unfolding flag_named
returns-in-txrqst c =
    rw (sym c.as_bytes.ensures.value ∙ text_from_reads c.as_bytes.result.now (codes "txrqst") (omega arith) (search rules)) refl

pub returns-in-msgval : goal.returns-in-msgval
unfolding flag_named
returns-in-msgval c =
    rw (sym c.as_bytes.ensures.value ∙ text_from_reads c.as_bytes.result.now (codes "msgval") (omega arith) (search rules)) refl
