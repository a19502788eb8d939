-- What an error of the command line parser is to the program, and its exit statuses. Source: this project's own.
use Rattle.std.specs.Prelude.{ℕ}
use Rattle.clap.specs.Values.{kind_of}
use Rattle.clap.specs.declared.error.Error.{Error}
use Rattle.clap.specs.declared.error.ErrorKind.{ErrorKind}
use Rattle.clap.specs.declared.error.ErrorKind.TheVariants.{OutOfMemory}
use Rattle.ccan_run.specs.declared.cli_error.CliError.{CliError}
use Rattle.ccan_run.specs.declared.cli_error.CliError.TheVariants.{Words, Memory}

-- every refusal except lack of memory, help included, is a fault of the words
abbrev pub error_of_kind : ErrorKind → CliError
error_of_kind OutOfMemory = Memory
error_of_kind _ = Words

abbrev pub error_from : Error → CliError
error_from e = error_of_kind (kind_of e)

-- 2 for the words, 3 if memory ran out
abbrev pub cli_status : CliError → ℕ
cli_status Words = 2
cli_status Memory = 3
