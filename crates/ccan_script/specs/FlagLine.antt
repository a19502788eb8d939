-- The line that asks for a flag of all objects, which hosts and the bus both have. Source: this project's own.
use Rattle.std.specs.Prelude.{◌&&◌, Bool, [], ◌∷◌, codes, is_some, unwrap_or}
use Rattle.serde_json.specs.Data.{Data}
use Rattle.ccan_ram.specs.declared.flag.Flag.{Flag}
use Rattle.ccan_ram.specs.declared.flag.Flag.TheVariants.{NewDat}
use Rattle.ccan_script.specs.Json.{has_only}
use Rattle.ccan_script.specs.FlagName.{flag_in}

-- a line whose one member besides its operation is a flag
unfoldable pub asks_flag : Data → Bool
asks_flag d = has_only (codes "op" ∷ codes "flag" ∷ []) d && is_some (flag_in d)

-- the flag of a line without faults
unfoldable pub flag_of_line : Data → Flag
flag_of_line d = unwrap_or (flag_in d) NewDat
