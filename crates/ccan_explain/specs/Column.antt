-- A flag of an object after each step of a run. Source: this project's own.
use Rattle.std.specs.Prelude.{ℕ, ◌≡◌, ◌==◌, ◌||◌, All, Bool, false, List, [], ◌∷◌, filter, Option, None, Some, if◌then◌else◌}
use Rattle.std.specs.List.{list_any, range_with_len}
use Rattle.ccan_object.specs.declared.profile.Profile.TheVariants.{Two}
use Rattle.ccan_object.specs.Profile.{objects_in}
use Rattle.ccan_ram.specs.declared.flag.Flag.{Flag}
use Rattle.ccan_ram.specs.declared.flag.Flag.TheVariants.{NewDat, MsgLst, IntPnd, TxRqst}
use Rattle.ccan_ram.specs.Flags.{flag_of}
use Rattle.ccan_explain.specs.declared.draw.column.Column.{Column}
use Rattle.ccan_explain.specs.declared.step.Step.{Step}
use Rattle.ccan_explain.specs.declared.step.Touched.{Touched}

-- a flag of an object as a step has left what it touches, if that is the object; else as it was
abbrev pub left_by : ℕ → Flag → Option Touched → Bool → Bool
left_by object flag None was = was
left_by object flag (Some touched) was = if touched.object == object then flag_of flag touched.after else was

-- a step leaves its own object, and then the object that stored a frame
abbrev pub flag_behind : ℕ → Flag → Step → Bool → Bool
flag_behind object flag step was = left_by object flag step.stored (left_by object flag step.own was)

-- the flag after each of these steps, by what it was before the first
abbrev pub flags_behind : ℕ → Flag → List Step → Bool → List Bool
flags_behind object flag [] was = []
flags_behind object flag (step ∷ later) was =
    flag_behind object flag step was ∷ flags_behind object flag later (flag_behind object flag step was)

-- which flag of which object a column shows
abbrev pub shown_in : Column → ℕ × Flag
shown_in column = (column.object, column.flag)

-- the four flags of an object
abbrev pub four_flags : ℕ → List (ℕ × Flag)
four_flags object = (object, NewDat) ∷ (object, MsgLst) ∷ (object, IntPnd) ∷ (object, TxRqst) ∷ []

abbrev pub is_of : ℕ → Option Touched → Bool
is_of object None = false
is_of object (Some touched) = touched.object == object

-- a step touches an object that is its own or that stored a frame
abbrev pub touches : ℕ → Step → Bool
touches object step = is_of object step.own || is_of object step.stored

-- those of so many objects that a step touches, from object 1 on
unfoldable pub touched_of_first : ℕ → List Step → List ℕ
touched_of_first count steps = filter (λ object. list_any (touches object) steps) (range_with_len 1 count)

-- those of all objects that a memory can have
abbrev pub objects_touched : List Step → List ℕ
objects_touched steps = touched_of_first (objects_in Two) steps

-- each column shows its flag of its object after each of these steps; no flag is set before the first
abbrev pub AreColumns : List Step → List Column → Type 0
AreColumns steps columns =
    All (λ column. column.shown.items ≡ flags_behind column.object column.flag steps false) columns
