-- The names of what spoils a frame. Source: this project's own; the faults are those of the CAN Specification 2.0, part B,
-- section 6 (error handling).
use Rattle.std.specs.Prelude.{ℕ, codes, List, Option, Some, None, option_and_then, if◌then◌else◌}
use Rattle.std.specs.Option.{option_map_or}
use Rattle.std.specs.Str.{bytes_eq}
use Rattle.serde_json.specs.Data.{Data}
use Rattle.serde_json.specs.Find.{as_str, get}
use Rattle.ccan_bus.specs.declared.round_line.Fault.{Fault}
use Rattle.ccan_bus.specs.declared.round_line.Fault.TheVariants.{Quiet, Stuff, Form, Bit1, Bit0, Crc}

unfoldable pub fault_named : List ℕ → Option Fault
fault_named word =
    if bytes_eq word (codes "none") then Some Quiet
    else (if bytes_eq word (codes "stuff") then Some Stuff
    else (if bytes_eq word (codes "form") then Some Form
    else (if bytes_eq word (codes "bit1") then Some Bit1
    else (if bytes_eq word (codes "bit0") then Some Bit0
    else (if bytes_eq word (codes "crc") then Some Crc else None)))))

-- what the member `fault` names; nothing spoils the frame if there is no such member
unfoldable pub fault_in : Data → Option Fault
fault_in d = option_map_or (λ member. option_and_then fault_named (as_str member)) (get (codes "fault") d) (Some Quiet)
