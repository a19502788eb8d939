-- What an error of the JSON parser is reported as. Source: this project's own.
use Rattle.std.specs.Prelude.{◌≡◌, ◌⊎◌}
use Rattle.serde_json.specs.Errors.{IsMemory}
use Rattle.serde_json.specs.declared.error.Error.{Error}
use Rattle.ccan_script.specs.declared.script_error.ScriptError.{ScriptError}
use Rattle.ccan_script.specs.declared.script_error.ScriptError.TheVariants.{NotJson, Memory}

-- it is lack of memory, or else the bytes are not JSON
abbrev pub IsRefusalOf : Error → ScriptError → Type 0
IsRefusalOf from e = (IsMemory from × (e ≡ Memory)) ⊎ ((IsMemory from → ⊥) × (e ≡ NotJson))
