-- One and the same change of each object of a chip, one object after another. Source: this project's own.
use Rattle.std.specs.Prelude.{ℕ, ◌≡◌, ◌<◌, zero, suc, [], Result, Ok, Err}
use Rattle.ccan_object.specs.Profile.{objects_in}
use Rattle.ccan_ram.specs.declared.change.Change.{Change}
use Rattle.ccan_ram.specs.declared.change.Changed.{Changed}
use Rattle.ccan_ram.specs.declared.change.Refused.{Refused}
use Rattle.ccan_ram.specs.Attempt.{Attempt}
use Rattle.ccan_ram.specs.Terms.{Terms}
use Rattle.ccan_endless.specs.Chip.{ChipHistory}
use Rattle.ccan_registers.specs.declared.access_error.AccessError.{AccessError}
use Rattle.ccan_registers.specs.ChipSteps.{OnObjects, Then}
use Rattle.ccan_registers.specs.Dcan.{change_told}

-- an object is changed by a change that fits each record, or the change was refused
abbrev pub ChangesObject : Terms → Change → ℕ → ℕ → ChipHistory → ChipHistory → Result (Unit {0}) AccessError → Type 0
ChangesObject terms change tries object seen added told =
    (outcome : Result Changed Refused)
    × OnObjects terms.port (λ s a. Attempt terms object change tries s a outcome) seen added × (told ≡ change_told outcome)

-- so many objects from the first on were changed, one after another
abbrev pub HaveChanged : Terms → Change → ℕ → ℕ → ChipHistory → ChipHistory → Type 0
HaveChanged terms change tries zero seen added = added ≡ []
HaveChanged terms change tries (suc n) seen added =
    Then (λ s a. HaveChanged terms change tries n s a) (λ s a. ChangesObject terms change tries (suc n) s a (Ok tt)) seen added

-- each object of the chip is changed; or the change of one is refused, and no object after it is changed
abbrev pub ChangesObjects : Terms → Change → ℕ → ChipHistory → ChipHistory → Result (Unit {0}) AccessError → Type 0
ChangesObjects terms change tries seen added (Ok done) =
    HaveChanged terms change tries (objects_in terms.profile) seen added
ChangesObjects terms change tries seen added (Err why) =
    (n : ℕ) × (n < objects_in terms.profile)
    × Then (λ s a. HaveChanged terms change tries n s a) (λ s a. ChangesObject terms change tries (suc n) s a (Err why)) seen added
