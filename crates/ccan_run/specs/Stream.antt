-- What a run of a stream leaves in its reader and its writer. Source: this project's own.
use Rattle.std.specs.Prelude.{ℕ, List, Option}
use Rattle.std.specs.Io.KnownBytes.{Keeps}
use Rattle.ccan_run.specs.declared.run_error.RunError.{RunError}
use Rattle.ccan_run.specs.declared.run_error.RunError.TheVariants.{Write}
use Rattle.ccan_line.specs.Script.{ScriptFields}
use Rattle.ccan_run.specs.Input.{InputShows, StopsInput}
use Rattle.ccan_run.specs.Ordered.{Prints, PrintsPart}

module _ (input_old input_new output_old output_new : Option (List ℕ)) where
  -- the input was read to its end and is a script, whose text was written
  pub record Runs : Type 0 where
    pub script : ScriptFields
    pub shown : InputShows input_old input_new script
    pub prints : Prints script output_old output_new

  -- the same, but only a prefix of the text was written
  pub record RunsInPart : Type 0 where
    pub script : ScriptFields
    pub shown : InputShows input_old input_new script
    pub prints : PrintsPart script output_old output_new

  -- when each error comes; after each but Write nothing was written
  abbrev pub StopsStream : RunError → Type 0
  StopsStream Write = RunsInPart
  StopsStream e = StopsInput input_old input_new e × Keeps output_old output_new
