-- A chip that is put back. Source: this project's own.
use Rattle.std.specs.Prelude.{◌≡◌, Result, Ok, Err}
use Rattle.ccan_confine.specs.declared.controller.Controller.{Controller}
use Rattle.ccan_confine.specs.Controller.{packed}
use Rattle.ccan_ram.specs.Terms.{Terms}
use Rattle.ccan_endless.specs.Chip.{ChipHistory}
use Rattle.ccan_registers.specs.ChipSteps.{Then}
use Rattle.ccan_registers.specs.declared.saved.not_restored.NotRestored.{NotRestored}
use Rattle.ccan_registers.specs.declared.saved.chip.Saved.{Saved}
use Rattle.ccan_registers.specs.Looks.{LooksAtAll}

-- The chip has as many objects as the saved one, and after some steps a look at the controller found one with the saved one's
-- word, in which all its registers are, and a look at each object found the saved record. If it failed, nothing is said except
-- that its steps are in the history.
abbrev pub PutsBack : Terms → Saved → ChipHistory → ChipHistory → Result (Unit {0}) NotRestored → Type 0
PutsBack terms saved seen added (Ok done) =
    (terms.profile ≡ saved.profile)
    × ((found : Controller) × (packed found ≡ packed saved.controller)
    × Then (λ s a. Unit {0}) (λ s a. LooksAtAll terms found saved.records s a) seen added)
PutsBack terms saved seen added (Err why) = Unit {0}
