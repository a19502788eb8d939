-- What a row of the table of members says of a JSON value: whether it has the members of the row, each of its kind, and then
-- whether its numbers are in their ranges. Source: this project's own.
use Rattle.std.specs.Prelude.{ℕ, ◌-◌, ◌^◌, ◌==◌, ◌&&◌, Bool, true, false, not, List, Option, codes}
use Rattle.std.specs.Prelude.{is_some, length, nat_le, option_and_then}
use Rattle.std.specs.List.{list_all}
use Rattle.std.specs.Option.{option_map_or}
use Rattle.serde_json.specs.Data.{Data}
use Rattle.serde_json.specs.Find.{as_array, as_str, get}
use Rattle.ccan_object.specs.Profile.{objects_in}
use Rattle.ccan_accept.specs.Frame.{identifier_bits}
use Rattle.ccan_line.specs.Limits.{most_frames}
use Rattle.ccan_script.specs.declared.line_context.LineContext.{LineContext}
use Rattle.ccan_script.specs.declared.line_fault.LineFault.{LineFault}
use Rattle.ccan_script.specs.declared.member.Kind.{Kind}
use Rattle.ccan_script.specs.declared.member.Kind.TheVariants as kind
use Rattle.ccan_script.specs.declared.member.Range.{Range}
use Rattle.ccan_script.specs.declared.member.Range.TheVariants as range
use Rattle.ccan_script.specs.declared.member.Member.{Member}
use Rattle.ccan_script.specs.Json.{has_only, is_within, list_of, number_in, whole, whole_in, word_in}
use Rattle.ccan_script.specs.FaultName.{fault_named}
use Rattle.ccan_script.specs.FlagName.{flag_named}
use Rattle.ccan_script.specs.FrameLine.{is_data_text}
use Rattle.ccan_script.specs.LineFault.{shape_then_range}
use Rattle.ccan_script.specs.Member.{is_needed, kind_of, range_in, text_of, texts_of}
use Rattle.ccan_script.specs.RegisterSet.{settings_in}

-- ---- kinds

-- a list of not too many frames, whatever these are
abbrev pub are_few : Data → Bool
are_few v = option_map_or (λ items. nat_le (length (list_of items)) most_frames) (as_array v) false

-- a value is of a kind
unfoldable pub is_of_kind : Kind → Data → Bool
is_of_kind kind.Operation v = true
is_of_kind kind.Digits v = is_some (word_in v)
is_of_kind kind.Registers v = is_some (settings_in v)
is_of_kind kind.Flag v = is_some (option_and_then flag_named (as_str v))
is_of_kind kind.FaultName v = is_some (option_and_then fault_named (as_str v))
is_of_kind kind.Frames v = are_few v
is_of_kind kind.Data v = option_map_or is_data_text (as_str v) false
is_of_kind (kind.Number r) v = is_some (whole v)

-- ---- ranges

-- the least and the greatest number of a range in the line or frame d
unfoldable pub range_of : LineContext → Data → Range → ℕ × ℕ
range_of context d (range.Between least greatest) = (least, greatest)
range_of context d range.Object = (1, objects_in context.profile)
range_of context d range.Sender = (1, context.nodes)
range_of context d range.Node = (0, context.nodes)
range_of context d range.Identifier = (0, 2 ^ identifier_bits (number_in (codes "xtd") d == 1) - 1)

abbrev pub is_in : ℕ × ℕ → Option ℕ → Bool
is_in range n = is_within range.0 range.1 n

-- ---- rows

-- the member is there, unless it may be left out, and its value is of its kind
unfoldable pub has_member : Data → Member → Bool
has_member d m = option_map_or (is_of_kind (kind_of m)) (get (text_of m) d) (not (is_needed m))

-- an object of no other members than those of the row, and of each of these as the row says
unfoldable pub has_members : List Member → Data → Bool
has_members row d = has_only (texts_of row) d && list_all (has_member d) row

-- the number of the member is in its range, where one that is left out counts as 0
unfoldable pub is_in_its_range : LineContext → Data → Member → Bool
is_in_its_range context d m =
    option_map_or (λ r. is_in (range_of context d r) (whole_in (text_of m) d)) (range_in (kind_of m)) true

-- first the members of the row are checked, and then the ranges of these numbers
unfoldable pub members_fault : LineContext → List Member → List Member → Data → Option LineFault
members_fault context row numbers d = shape_then_range (has_members row d) (list_all (is_in_its_range context d) numbers)
