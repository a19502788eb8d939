-- What a line of the bus does, by its member `op`. Source: this project's own.
use Rattle.std.specs.Prelude.{ℕ, codes, List, [], ◌∷◌, Option, option_and_then}
use Rattle.std.specs.List.{find}
use Rattle.std.specs.Str.{bytes_eq}
use Rattle.serde_json.specs.Data.{Data}
use Rattle.serde_json.specs.Find.{as_str, get}
use Rattle.ccan_script.specs.declared.bus_op.BusOp.{BusOp}
use Rattle.ccan_script.specs.declared.bus_op.BusOp.TheVariants.{Load, Round, Status, Control, Interrupt, Flags}
use Rattle.ccan_script.specs.declared.bus_op.BusOp.TheVariants.{Counters, Init, Recessive, LoopBack}

-- the name of an operation as a script has it
abbrev pub bus_op_name : BusOp → List ℕ
bus_op_name Load = codes "load"
bus_op_name Round = codes "round"
bus_op_name Status = codes "status"
bus_op_name Control = codes "control"
bus_op_name Interrupt = codes "interrupt"
bus_op_name Flags = codes "flags"
bus_op_name Counters = codes "counters"
bus_op_name Init = codes "init"
bus_op_name Recessive = codes "recessive"
bus_op_name LoopBack = codes "loopback"

-- all operations
abbrev pub bus_ops : List BusOp
bus_ops =
    Load ∷ Round ∷ Status ∷ Control ∷ Interrupt ∷ Flags ∷ Counters ∷ Init ∷ Recessive ∷ LoopBack ∷ []

-- the operation of a name
unfoldable pub bus_op_named : List ℕ → Option BusOp
bus_op_named word = find (λ op. bytes_eq (bus_op_name op) word) bus_ops

-- what the member `op` names
unfoldable pub bus_op : Data → Option BusOp
bus_op d = option_and_then bus_op_named (option_and_then as_str (get (codes "op") d))
