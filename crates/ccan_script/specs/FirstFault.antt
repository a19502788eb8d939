-- Where the first fault of a line is, by the order of the checks. That a line has a fault is what its reader says
-- (`host_fault` and `bus_fault`). Source: this project's own.
use Rattle.std.specs.Prelude.{ℕ, Bool, not, List, [], ◌∷◌, Option, Some, None, codes}
use Rattle.std.specs.Prelude.{is_some, option_and_then, slice_get, unwrap_or, if◌then◌else◌}
use Rattle.std.specs.List.{position}
use Rattle.std.specs.Option.{option_map_or, option_or}
use Rattle.serde_json.specs.Data.{Data, Members, no_members, member}
use Rattle.serde_json.specs.Find.{as_object, get}
use Rattle.ccan_script.specs.declared.host_op.HostOp.{HostOp}
use Rattle.ccan_script.specs.declared.bus_op.BusOp.{BusOp}
use Rattle.ccan_script.specs.declared.bus_op.BusOp.TheVariants as bus
use Rattle.ccan_script.specs.declared.line_context.LineContext.{LineContext}
use Rattle.ccan_script.specs.declared.member_name.MemberName.TheVariants.{Op, Set, Send}
use Rattle.ccan_script.specs.declared.member.Member.{Member}
use Rattle.ccan_script.specs.Json.{has_only, word_in}
use Rattle.ccan_script.specs.HostOp.{host_op}
use Rattle.ccan_script.specs.BusOp.{bus_op}
use Rattle.ccan_script.specs.FrameLine.{frame_fault}
use Rattle.ccan_script.specs.Member.{name_of, text_of, texts_of, kind_of, is_needed, is_set, host_row, bus_row}
use Rattle.ccan_script.specs.Member.{frame_row, frame_numbers}
use Rattle.ccan_script.specs.Members.{is_of_kind, is_in_its_range}
use Rattle.ccan_script.specs.Round.{frames_in}
use Rattle.ccan_script.specs.RegisterSet.{register_named}
use Rattle.ccan_script.specs.declared.check.line_path.LinePath.{LinePath}
use Rattle.ccan_script.specs.declared.check.line_path.Part.{Part}
use Rattle.ccan_script.specs.declared.check.line_path.Part.TheVariants as part

-- what a check finds: nothing if it holds, else the part at fault
abbrev pub unless : Bool → Part → Option Part
unless holds at = if holds then None else Some at

-- what a check of members finds at the first of them at which it finds something
abbrev pub first_found : (Member → Option Part) → List Member → Option Part
first_found check [] = None
first_found check (m ∷ ms) = option_or (check m) (first_found check ms)

-- ---- shapes

-- a member of `set` is a register, and has a text of four digits
abbrev pub register_found : List ℕ → Data → Option Part
register_found n v =
    option_map_or (λ r. unless (is_some (word_in v)) (part.Register r)) (register_named n) (Some (part.Member Set))

abbrev pub registers_found : Members → Option Part
registers_found no_members = None
registers_found (member n v ms) = option_or (register_found n v) (registers_found ms)

-- the part at fault if the value v of a member is not of its kind: of registers the first that is at fault, else the member
abbrev pub part_at : Member → Data → Part
part_at m v =
    if is_set (kind_of m)
    then unwrap_or (option_and_then registers_found (as_object v)) (part.Member (name_of m))
    else part.Member (name_of m)

-- a member is there, unless it may be left out, and is of its kind
unfoldable pub shape_found : Data → Member → Option Part
shape_found d m =
    option_map_or (λ v. unless (is_of_kind (kind_of m) v) (part_at m v)) (get (text_of m) d)
    (unless (not (is_needed m)) part.Whole)

-- ---- ranges

-- a number of the line or frame d is in its range
unfoldable pub range_found : LineContext → Data → Member → Option Part
range_found context d m = unless (is_in_its_range context d m) (part.Member (name_of m))

-- ---- lines and frames

-- first that there are no other members, then each member of the row, then the ranges of the numbers
unfoldable pub part_found : LineContext → List Member → List Member → Data → Option Part
part_found context members numbers d =
    option_or (unless (has_only (texts_of members) d) part.Whole)
    (option_or (first_found (shape_found d) members) (first_found (range_found context d) numbers))

-- the operation of a line that has no known one: `op` if it is there, else the line
abbrev pub operation_part : Data → Part
operation_part d = option_map_or (λ v. part.Member Op) (get (codes "op") d) part.Whole

abbrev pub in_line : Part → LinePath
in_line at = record { frame = None; part = at }

-- what is wrong with a frame after its members is the length of its data
abbrev pub frame_place : LineContext → Data → ℕ → LinePath
frame_place context d index =
    record {
      frame = Some index;
      part = option_map_or (λ frame. unwrap_or (part_found context frame_row frame_numbers frame) part.Whole)
          (slice_get (frames_in d) index) part.Whole;
    }

-- after the members of a round comes its first frame at fault, and then that a node sends twice
unfoldable pub round_place : LineContext → Data → LinePath
round_place context d =
    option_map_or (frame_place context d) (position (λ frame. is_some (frame_fault context.nodes frame)) (frames_in d))
    (in_line (part.Member Send))

unfoldable pub host_place_by : LineContext → Option HostOp → Data → LinePath
host_place_by context None d = in_line (operation_part d)
host_place_by context (Some op) d =
    in_line (unwrap_or (part_found context (host_row op) (host_row op) d) part.Whole)

unfoldable pub behind_members : LineContext → BusOp → Data → LinePath
behind_members context bus.Round d = round_place context d
behind_members context _ d = in_line part.Whole

unfoldable pub bus_place_by : LineContext → Option BusOp → Data → LinePath
bus_place_by context None d = in_line (operation_part d)
bus_place_by context (Some op) d =
    option_map_or in_line (part_found context (bus_row op) (bus_row op) d) (behind_members context op d)

-- where the first fault of a line at fault is
abbrev pub host_place : LineContext → Data → LinePath
host_place context d = host_place_by context (host_op d) d

abbrev pub bus_place : LineContext → Data → LinePath
bus_place context d = bus_place_by context (bus_op d) d
