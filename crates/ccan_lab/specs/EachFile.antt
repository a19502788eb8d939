-- What is printed if a question is asked of several files, and the exit status. Source: this project's own; the heading is that
-- of `head` and `tail`.
use Rattle.std.specs.Prelude.{ℕ, ◌≡◌, ◌+◌, ◌++◌, ◌&&◌, not, nat_lt, Bool, List, [], Option, Result, Ok, Err}
use Rattle.std.specs.Prelude.{codes, if◌then◌else◌, map}
use Rattle.std.specs.List.{AllZip, flat_map, fold}
use Rattle.std.specs.Io.KnownBytes.{Appends}
use Rattle.ccan_lab.specs.declared.each_file.FileAnswer.{FileAnswer}
use Rattle.ccan_lab.specs.declared.lab_error.LabError.{LabError}
use Rattle.ccan_lab.specs.LabError.{exit_status}

-- the line above the answer of a file
abbrev pub heading : List ℕ → List ℕ
heading name = codes "==> " ++ (name ++ codes " <==\n")

-- there are such lines if there are several files, and the lines of an answer don't name its file
abbrev pub has_headings : Bool → ℕ → Bool
has_headings named files = not named && nat_lt 1 files

-- the line, if there are such
abbrev pub heading_if : Bool → List ℕ → List ℕ
heading_if shown name = if shown then heading name else []

-- what is printed of a file: its answer, and nothing if it is refused
abbrev pub part : Bool → List ℕ → Result FileAnswer LabError → List ℕ
part shown name (Ok answer) = heading_if shown name ++ answer.text.items
part shown name (Err fault) = []

-- the exit status if it is the only file
abbrev pub status_of : Result FileAnswer LabError → ℕ
status_of (Ok answer) = answer.status
status_of (Err fault) = exit_status fault

-- how bad a status is: those of a file without an answer and of a faulty script, 1 to 5, are worse than any other, and of two
-- the larger
abbrev pub badness : ℕ → ℕ
badness status = if nat_lt 0 status && nat_lt status 6 then 256 + status else status

-- the worse of two, and the worst of several
abbrev pub worse : ℕ → ℕ → ℕ
worse one other = if nat_lt (badness one) (badness other) then other else one

abbrev pub worst_of : List ℕ → ℕ
worst_of statuses = fold worse 0 statuses

-- ---- of several files

-- what was printed of a file, and the exit status if it is the only one
pub record FilePart : Type 0 where
  pub text : List ℕ
  pub status : ℕ

-- they are those of what is answered, whole
abbrev pub IsPartOf : (List ℕ → Result FileAnswer LabError → Type 0) → Bool → List ℕ → FilePart → Type 0
IsPartOf Answers shown name printed =
    (answered : Result FileAnswer LabError) × Answers name answered
    × (printed.text ≡ part shown name answered) × (printed.status ≡ status_of answered)

-- each of these files was asked about: the part of each was printed, in the order of the files, and the status is the worst
pub record AreAnswered (IsPart : List ℕ → FilePart → Type 0) (files : List (List ℕ)) (old new : Option (List ℕ)) (status : ℕ)
    : Type 0 where
  pub parts : List FilePart
  pub each : AllZip IsPart files parts
  pub printed : Appends old new (flat_map (λ (one : FilePart). one.text) parts)
  pub worst : status ≡ worst_of (map (λ (one : FilePart). one.status) parts)
