-- What a line of a host port does, by its member `op`. Source: this project's own.
use Rattle.std.specs.Prelude.{ℕ, codes, List, [], ◌∷◌, Option, option_and_then}
use Rattle.std.specs.List.{find}
use Rattle.std.specs.Str.{bytes_eq}
use Rattle.serde_json.specs.Data.{Data}
use Rattle.serde_json.specs.Find.{as_str, get}
use Rattle.ccan_script.specs.declared.host_op.HostOp.{HostOp}
use Rattle.ccan_script.specs.declared.host_op.HostOp.TheVariants.{Transfer, Until, Interrupt, Flags}

-- the name of an operation as a script has it
abbrev pub host_op_name : HostOp → List ℕ
host_op_name Transfer = codes "transfer"
host_op_name Until = codes "until"
host_op_name Interrupt = codes "interrupt"
host_op_name Flags = codes "flags"

-- all operations
abbrev pub host_ops : List HostOp
host_ops = Transfer ∷ Until ∷ Interrupt ∷ Flags ∷ []

-- the operation of a name
unfoldable pub host_op_named : List ℕ → Option HostOp
host_op_named word = find (λ op. bytes_eq (host_op_name op) word) host_ops

-- what the member `op` names
unfoldable pub host_op : Data → Option HostOp
host_op d = option_and_then host_op_named (option_and_then as_str (get (codes "op") d))
