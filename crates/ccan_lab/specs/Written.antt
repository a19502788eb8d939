-- What is written of a list of outcomes, piece by piece. Source: this project's own.
use Rattle.std.specs.Prelude.{ℕ, ◌≡◌, ◌≤◌, ◌⊎◌, ◌++◌, List, [], Option}
use Rattle.std.specs.Io.KnownBytes.{Appends}
use Rattle.ccan_lab.specs.declared.lab_error.LabError.{LabError}
use Rattle.ccan_lab.specs.declared.lab_error.LabError.TheVariants as fault
use Rattle.ccan_lab.specs.declared.list_end.ListEnd.{ListEnd}
use Rattle.ccan_lab.specs.declared.list_end.ListEnd.TheVariants.{Whole, GivenUp}

-- a list is given up for a reason, behind the last outcome only for lack of memory
abbrev pub IsReasonAt : (LabError → Type 0) → ℕ → ℕ → LabError → Type 0
IsReasonAt IsReason all count why = IsReason why × (count ≡ all → why ≡ fault.Memory)

-- it is whole if it has all outcomes, and else given up so
abbrev pub IsEndOf : (LabError → Type 0) → ℕ → ℕ → ListEnd → Type 0
IsEndOf IsReason all count Whole = count ≡ all
IsEndOf IsReason all count (GivenUp why) = IsReasonAt IsReason all count why

-- below this text a list of the outcomes before some number was written, and it ended so
pub record IsWritten (above : List ℕ) (IsListTo : ℕ → List ℕ → Type 0) (IsReason : LabError → Type 0) (all : ℕ) (end : ListEnd)
    (old new : Option (List ℕ)) : Type 0 where
  pub count : ℕ
  pub within : count ≤ all
  pub text : List ℕ
  pub is_list : IsListTo count text
  pub written : Appends old new (above ++ text)
  pub ends : IsEndOf IsReason all count end

-- a write failed, or for such a reason nothing was written
abbrev pub IsUnwritten : (LabError → Type 0) → Option (List ℕ) → Option (List ℕ) → LabError → Type 0
IsUnwritten IsReason old new why = (why ≡ fault.Write) ⊎ (IsReason why × Appends old new [])
