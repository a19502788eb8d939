-- What reading the input leaves, and what it says. Source: this project's own.
use Rattle.std.specs.Prelude.{◌<◌, ◌≤◌, ℕ, List, length, Option, Ok, IfSome}
use Rattle.std.specs.Io.KnownBytes.{Consumes, IsAtEnd}
use Rattle.ccan_run.specs.declared.run_error.RunError.{RunError}
use Rattle.ccan_run.specs.declared.run_error.RunError.TheVariants.{Read, TooLong, Script, Memory}
use Rattle.ccan_script.specs.declared.script_error.ScriptError.{ScriptError}
use Rattle.ccan_line.specs.Script.{ScriptFields}
use Rattle.ccan_script.specs.Reader.{Shows, RefusesText}

-- bytes of the input
abbrev pub most_input : ℕ
most_input = 4194304

-- the reader gave these bytes, and has no more; they are not too many
pub record ReadsWhole (old new : Option (List ℕ)) (input : List ℕ) : Type 0 where
  pub given : Consumes old new input
  pub ended : IsAtEnd new
  pub short : length input ≤ most_input

-- why input is not taken: a read failed, it is longer than its limit, or memory ran out
abbrev pub RefusesInput : Option (List ℕ) → RunError → Type 0
RefusesInput old Read = Unit {0}
RefusesInput old TooLong = IfSome old (λ bytes. most_input < length bytes)
RefusesInput old Memory = Unit {0}
RefusesInput old _ = ⊥

-- ---- the script that the input is

-- the input was read to its end, and is this script
pub record InputShows (old new : Option (List ℕ)) (script : ScriptFields) : Type 0 where
  pub input : List ℕ
  pub whole : ReadsWhole old new input
  pub shows : Shows input (Ok script)

-- what was read to its end is refused as a script
pub record RefusesScript (old new : Option (List ℕ)) (e : ScriptError) : Type 0 where
  pub input : List ℕ
  pub whole : ReadsWhole old new input
  pub refuses : RefusesText input e

-- when each error of the input comes: it is not a script, or was not taken
abbrev pub StopsInput : Option (List ℕ) → Option (List ℕ) → RunError → Type 0
StopsInput old new (Script e) = RefusesScript old new e
StopsInput old new e = RefusesInput old e
