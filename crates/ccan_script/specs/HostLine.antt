-- The lines of a host port in a script: what is wrong with the JSON value of a line, and the line that a value without
-- fault stands for. Source: this project's own.
use Rattle.std.specs.Prelude.{ℕ, ◌≡◌, ◌&&◌, Bool, codes, List, [], ◌∷◌, Option}
use Rattle.std.specs.Prelude.{Some, None, is_some, unwrap_or, option_and_then}
use Rattle.std.specs.Option.{option_map_or}
use Rattle.serde_json.specs.Data.{Data}
use Rattle.serde_json.specs.Find.{get}
use Rattle.ccan_object.specs.declared.profile.Profile.{Profile}
use Rattle.ccan_object.specs.Profile.{objects_in}
use Rattle.ccan_object.specs.declared.register.Reg.{Reg}
use Rattle.ccan_script.specs.declared.line_fault.LineFault.{LineFault}
use Rattle.ccan_script.specs.declared.line_fault.LineFault.TheVariants.{Shape}
use Rattle.ccan_script.specs.declared.host_op.HostOp.{HostOp}
use Rattle.ccan_script.specs.declared.host_op.HostOp.TheVariants as op
use Rattle.ccan_line.specs.declared.host_line.HostLine.{HostLine}
use Rattle.ccan_line.specs.declared.host_line.HostLine.TheVariants.{Transfer, Until, Interrupt, Flags}
use Rattle.ccan_line.specs.Limits.{most_turns}
use Rattle.ccan_script.specs.LineFault.{shape_check, shape_then_range}
use Rattle.ccan_script.specs.HostOp.{host_op}
use Rattle.ccan_script.specs.Json.{has_only, is_bare, is_within, number_in, whole_in, word_in}
use Rattle.ccan_script.specs.FlagName.{flag_in}
use Rattle.ccan_script.specs.FlagLine.{asks_flag, flag_of_line}
use Rattle.ccan_script.specs.RegisterSet.{settings_in}

-- ---- transfers

-- the member `request`, a text of four digits
unfoldable pub request_in : Data → Option ℕ
request_in d = option_and_then word_in (get (codes "request") d)

-- what the member `set` sets, nothing if there is no such member
unfoldable pub settings_of : Data → Option (List (Reg × ℕ))
settings_of d = option_map_or settings_in (get (codes "set") d) (Some [])

-- an object of the members that a transfer has, and no others, each of its shape
unfoldable pub is_transfer : Data → Bool
is_transfer d =
    has_only (codes "op" ∷ codes "request" ∷ codes "set" ∷ []) d && (is_some (request_in d) && is_some (settings_of d))

-- the line that it stands for
abbrev pub transfer_of : Data → HostLine
transfer_of d = Transfer (unwrap_or (request_in d) 0) (record { items = unwrap_or (settings_of d) [] })

-- ---- waits

-- an object of the members that a wait for a flag has, and no others, each of its shape
unfoldable pub is_until : Data → Bool
is_until d =
    has_only (codes "op" ∷ codes "object" ∷ codes "flag" ∷ codes "turns" ∷ []) d
    && (is_some (whole_in (codes "object") d) && (is_some (flag_in d) && is_some (whole_in (codes "turns") d)))

-- the object is one of the profile, and there are not too many turns
abbrev pub until_in_range : Profile → Data → Bool
until_in_range profile d =
    is_within 1 (objects_in profile) (whole_in (codes "object") d) && is_within 1 most_turns (whole_in (codes "turns") d)

abbrev pub until_of : Data → HostLine
until_of d = Until (number_in (codes "object") d) (flag_of_line d) (number_in (codes "turns") d)

-- ---- lines

unfoldable pub host_fault_by : Profile → Option HostOp → Data → Option LineFault
host_fault_by profile None d = Some Shape
host_fault_by profile (Some op.Transfer) d = shape_check (is_transfer d)
host_fault_by profile (Some op.Until) d = shape_then_range (is_until d) (until_in_range profile d)
host_fault_by profile (Some op.Interrupt) d = shape_check (is_bare d)
host_fault_by profile (Some op.Flags) d = shape_check (asks_flag d)

abbrev pub host_fault : Profile → Data → Option LineFault
host_fault profile d = host_fault_by profile (host_op d) d

unfoldable pub host_line_by : Option HostOp → Data → HostLine
host_line_by None d = Interrupt
host_line_by (Some op.Transfer) d = transfer_of d
host_line_by (Some op.Until) d = until_of d
host_line_by (Some op.Interrupt) d = Interrupt
host_line_by (Some op.Flags) d = Flags (flag_of_line d)

-- the line says what the value says
abbrev pub HostSays : Data → HostLine → Type 0
HostSays d line = line ≡ host_line_by (host_op d) d
