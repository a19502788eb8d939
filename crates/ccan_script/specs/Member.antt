-- The members that the lines of a script and the frames in them have, in the order in which they are checked: one row for
-- each operation. Source: this project's own.
use Rattle.std.specs.Prelude.{ℕ, Bool, true, false, List, [], ◌∷◌, Option, Some, None, map}
use Rattle.ccan_line.specs.Limits.{most_groups, most_turns}
use Rattle.ccan_script.specs.declared.host_op.HostOp.{HostOp}
use Rattle.ccan_script.specs.declared.host_op.HostOp.TheVariants as host
use Rattle.ccan_script.specs.declared.bus_op.BusOp.{BusOp}
use Rattle.ccan_script.specs.declared.bus_op.BusOp.TheVariants as bus
use Rattle.ccan_script.specs.declared.member_name.MemberName.{MemberName}
use Rattle.ccan_script.specs.declared.member_name.MemberName.TheVariants.{Op, Request, Set, Object, Flag, Turns, Send}
use Rattle.ccan_script.specs.declared.member_name.MemberName.TheVariants.{Fault, Sie, Eie, Node, Groups, On, Id, Xtd}
use Rattle.ccan_script.specs.declared.member_name.MemberName.TheVariants.{Rtr, Dlc, Data}
use Rattle.ccan_script.specs.declared.member.Kind.{Kind}
use Rattle.ccan_script.specs.declared.member.Kind.TheVariants as kind
use Rattle.ccan_script.specs.declared.member.Range.{Range}
use Rattle.ccan_script.specs.declared.member.Range.TheVariants as range
use Rattle.ccan_script.specs.declared.member.Member.{Member}
use Rattle.ccan_script.specs.declared.member.Member.TheVariants.{Needed, Optional}
use Rattle.ccan_script.specs.MemberName.{name_text}

abbrev pub name_of : Member → MemberName
name_of (Needed n k) = n
name_of (Optional n k) = n

abbrev pub kind_of : Member → Kind
kind_of (Needed n k) = k
kind_of (Optional n k) = k

abbrev pub is_needed : Member → Bool
is_needed (Needed n k) = true
is_needed (Optional n k) = false

-- registers with their texts
abbrev pub is_set : Kind → Bool
is_set kind.Registers = true
is_set _ = false

-- the range of a number
abbrev pub range_in : Kind → Option Range
range_in (kind.Number r) = Some r
range_in _ = None

-- the name of a member as a script has it
abbrev pub text_of : Member → List ℕ
text_of m = name_text (name_of m)

-- the names of the members of a row
abbrev pub texts_of : List Member → List (List ℕ)
texts_of row = map text_of row

-- ---- the rows

abbrev pub operation_member : Member
operation_member = Needed Op kind.Operation

abbrev pub flag_member : Member
flag_member = Needed Flag kind.Flag

abbrev pub switch : MemberName → Member
switch n = Needed n (kind.Number (range.Between 0 1))

abbrev pub host_row : HostOp → List Member
host_row host.Transfer = operation_member ∷ Needed Request kind.Digits ∷ Optional Set kind.Registers ∷ []
host_row host.Until =
    operation_member ∷ Needed Object (kind.Number range.Object) ∷ flag_member
    ∷ Needed Turns (kind.Number (range.Between 1 most_turns)) ∷ []
host_row host.Interrupt = operation_member ∷ []
host_row host.Flags = operation_member ∷ flag_member ∷ []

abbrev pub bus_row : BusOp → List Member
bus_row bus.Round = operation_member ∷ Optional Fault kind.FaultName ∷ Optional Send kind.Frames ∷ []
bus_row bus.Control = operation_member ∷ switch Sie ∷ switch Eie ∷ []
bus_row bus.Flags = operation_member ∷ flag_member ∷ []
bus_row bus.Counters = operation_member ∷ Needed Node (kind.Number range.Node) ∷ []
bus_row bus.Recessive = operation_member ∷ Needed Groups (kind.Number (range.Between 1 most_groups)) ∷ []
bus_row bus.LoopBack = operation_member ∷ switch On ∷ []
-- a line of each other operation has no other member
bus_row other = operation_member ∷ []

-- the members of a frame, as their shapes are checked
abbrev pub frame_row : List Member
frame_row =
    Needed Node (kind.Number range.Sender) ∷ Needed Id (kind.Number range.Identifier)
    ∷ Optional Xtd (kind.Number (range.Between 0 1)) ∷ Optional Rtr (kind.Number (range.Between 0 1))
    ∷ Optional Dlc (kind.Number (range.Between 0 15)) ∷ Optional Data kind.Data ∷ []

-- the numbers of a frame, as their ranges are checked: that of the identifier follows from Xtd, so Xtd comes before it
abbrev pub frame_numbers : List Member
frame_numbers =
    Needed Node (kind.Number range.Sender) ∷ Optional Xtd (kind.Number (range.Between 0 1))
    ∷ Optional Rtr (kind.Number (range.Between 0 1)) ∷ Needed Id (kind.Number range.Identifier)
    ∷ Optional Dlc (kind.Number (range.Between 0 15)) ∷ []
