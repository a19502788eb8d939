-- The fault of a line, and how it is reported. Source: this project's own.
use Rattle.std.specs.Prelude.{◌≡◌, ℕ, Bool, List, [], ◌∷◌, Option, Some, None, Result, Ok, Err, if◌then◌else◌}
use Rattle.ccan_script.specs.declared.list_name.ListName.{ListName}
use Rattle.ccan_script.specs.declared.line_fault.LineFault.{LineFault}
use Rattle.ccan_script.specs.declared.line_fault.LineFault.TheVariants as line
use Rattle.ccan_script.specs.declared.script_error.ScriptError.{ScriptError}
use Rattle.ccan_script.specs.declared.script_error.ScriptError.TheVariants.{Shape, Range}

-- the first fault of checks that are made one after another
abbrev pub first_fault : List (Option LineFault) → Option LineFault
first_fault [] = None
first_fault (None ∷ later) = first_fault later
first_fault (Some fault ∷ later) = Some fault

-- a check of the shape of a value
abbrev pub shape_check : Bool → Option LineFault
shape_check holds = if holds then None else Some line.Shape

-- a check of the range of numbers
abbrev pub range_check : Bool → Option LineFault
range_check holds = if holds then None else Some line.Range

-- the shape is checked, and then the range
abbrev pub shape_then_range : Bool → Bool → Option LineFault
shape_then_range shape range = first_fault (shape_check shape ∷ range_check range ∷ [])

-- the refusal of a script whose line at this index of the list has the fault
abbrev pub refusal_at : ListName → ℕ → LineFault → ScriptError
refusal_at list index line.Shape = Shape list index
refusal_at list index line.Range = Range list index

-- if the value has no fault, what is read is what the value says, and otherwise the fault is reported
abbrev pub ReadsLine : {L : Type 0} → Option LineFault → (L → Type 0) → Result L LineFault → Type 0
ReadsLine fault Says (Ok read) = (fault ≡ None) × Says read
ReadsLine fault Says (Err e) = fault ≡ Some e
