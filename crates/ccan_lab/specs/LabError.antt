-- The exit statuses of the program. Source: this project's own.
use Rattle.std.specs.Prelude.{ℕ}
use Rattle.ccan_run.specs.RunError as run
use Rattle.ccan_lab.specs.declared.lab_error.LabError.{LabError}
use Rattle.ccan_lab.specs.declared.lab_error.LabError.TheVariants.{Words, Open, Input, More, Nodes, NoPlace, NoLine, Log, Frames}
use Rattle.ccan_lab.specs.declared.lab_error.LabError.TheVariants.{NoOutcome, Memory, Write}

-- 1 for a script or a log that is refused, 2 for the words, among them a name of no line or object and the beginning of no
-- printed line, 3 if memory ran out, 4 for streams and files, 5 for too many states or nodes, 9 for an outcome that is not in
-- the list
abbrev pub exit_status : LabError → ℕ
exit_status (Input fault) = run.exit_status fault
exit_status Log = 1
exit_status Frames = 1
exit_status Words = 2
exit_status (NoPlace number) = 2
exit_status NoLine = 2
exit_status Memory = 3
exit_status Open = 4
exit_status Write = 4
exit_status (More most) = 5
exit_status (Nodes most) = 5
exit_status (NoOutcome number listed) = 9
