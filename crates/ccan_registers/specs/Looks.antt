-- Looks at a whole chip, as steps of its history. Source: this project's own.
use Rattle.std.specs.Prelude.{ℕ, ◌≡◌, ◌+◌, List, [], ◌∷◌, take}
use Rattle.ccan_object.specs.declared.record.Record.{Record}
use Rattle.ccan_object.specs.Profile.{objects_in}
use Rattle.ccan_confine.specs.declared.controller.Controller.{Controller}
use Rattle.ccan_ram.specs.Terms.{Terms}
use Rattle.ccan_endless.specs.declared.chip.ControllerStep.TheVariants.{Look}
use Rattle.ccan_endless.specs.Chip.{ChipHistory}
use Rattle.ccan_endless.specs.ChipPort.{ChipPass}
use Rattle.ccan_registers.specs.ChipSteps.{AtController, ChipGoes, Then}
use Rattle.ccan_registers.specs.Objects.{ShowsObject}

-- one look at each object from this one on, one after another, which show these records
abbrev pub LooksThrough : Terms → ℕ → List Record → ChipHistory → ChipHistory → Type 0
LooksThrough terms object [] seen added = added ≡ []
LooksThrough terms object (r ∷ rs) seen added =
    Then (λ s a. ShowsObject terms object s a r) (λ s a. LooksThrough terms (object + 1) rs s a) seen added

-- one look at the controller, and then one at each object of the chip
abbrev pub LooksAtAll : Terms → Controller → List Record → ChipHistory → ChipHistory → Type 0
LooksAtAll terms found records seen added =
    Then (λ s a. AtController terms.port Look found s a)
    (λ s a. LooksThrough terms 1 (take (objects_in terms.profile) records) s a) seen added

-- some steps: the port's own and others', each of them legal, as `ChipGoes` says of all that a port has seen
abbrev pub GoesOn : ChipPass → ChipPass → Type 0
GoesOn old new = ChipGoes old new (λ terms seen added. Unit {0})
