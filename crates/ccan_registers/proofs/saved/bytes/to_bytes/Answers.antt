use Rattle.std.proofs.Common.{◌∙◌, List, ℕ, ap, subst}
use Rattle.ccan_registers.specs.Format.{bytes_in, AreWords}
use Rattle.ccan_registers.proofs.saved.bytes.to_bytes.Goals as goal

pub returns-clause-text : goal.returns-clause-text
returns-clause-text c = c.bytes_of.ensures.text ∙ ap (λ (l : List ℕ). bytes_in l) c.words_of.ensures

pub returns-clause-fits : goal.returns-clause-fits
returns-clause-fits c = subst AreWords c.words_of.ensures c.bytes_of.ensures.fits
