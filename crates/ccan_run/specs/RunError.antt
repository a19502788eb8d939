-- What the errors of a run come from, and the exit statuses of the program. Source: this project's own.
use Rattle.std.specs.Prelude.{◌≡◌, ℕ}
use Rattle.ccan_ram.specs.declared.open_error.OpenError.{OpenError}
use Rattle.ccan_ram.specs.declared.open_error.OpenError.TheVariants as opening
use Rattle.ccan_run.specs.declared.run_error.RunError.{RunError}
use Rattle.ccan_run.specs.declared.run_error.RunError.TheVariants.{Read, TooLong, Script, Quota, Memory, Spawn, Held, Write}
use Rattle.ccan_script.specs.declared.script_error.ScriptError.TheVariants as script

-- 1 if the input is too long or not a script, or its quota is too large, 3 if memory ran out, 4 if a read or a write
-- failed, a thread could not be started, or a gate held a port
abbrev pub exit_status : RunError → ℕ
exit_status Read = 4
exit_status TooLong = 1
exit_status (Script script.Memory) = 3
exit_status (Script refusal) = 1
exit_status Quota = 1
exit_status Memory = 3
exit_status Spawn = 4
exit_status (Held port line) = 4
exit_status Write = 4

-- what it means for a run that its memory is not opened
abbrev pub IsOpenFault : OpenError → RunError → Type 0
IsOpenFault opening.QuotaRange e = e ≡ Quota
IsOpenFault opening.Memory e = e ≡ Memory
