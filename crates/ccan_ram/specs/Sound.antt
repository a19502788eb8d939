-- Histories as a shared memory has them: legal ones of records, in which each port keeps to its quota; and which changes are
-- in one. Source: this project's own.
use Rattle.std.specs.Prelude.{◌≡◌, ℕ, ◌≤◌, ◌⊎◌, true, [], ◌∷◌}
use Rattle.ccan_object.specs.declared.profile.Profile.{Profile}
use Rattle.ccan_object.specs.Record.{IsRecord}
use Rattle.ccan_ram.specs.declared.port.PortName.{PortName}
use Rattle.ccan_ram.specs.History.{History, is_change, IsLegal, changes_by, next_number}

-- what each event left is a record
abbrev pub AreRecords : History → Type 0
AreRecords [] = Unit {0}
AreRecords (e ∷ h) = IsRecord e.after × AreRecords h

-- a legal history of records, in which no port makes more changes than its quota
pub record IsSound (profile : Profile) (quota : ℕ) (h : History) : Type 0 where
  pub legal : IsLegal profile h
  pub records : AreRecords h
  pub few : (q : PortName) → changes_by q h ≤ quota

-- the change of this number is in the history, and `at` is the history up to it
abbrev pub Stands : History → ℕ → History → Type 0
Stands [] n at = ⊥
Stands (e ∷ h) n at = ((is_change e ≡ true) × (next_number e.port h ≡ n) × (at ≡ e ∷ h)) ⊎ Stands h n at

-- a change of this number is in the history
abbrev pub IsMade : History → ℕ → Type 0
IsMade h n = (at : History) × Stands h n at
