-- A member of a bus while one frame is sent.
use Rattle.std.specs.Prelude.{ℕ, List, Option, None, slice_index_or, if◌then◌else◌}
use Rattle.ccan_accept.specs.declared.frame.Frame.{Frame}
use Rattle.ccan_wire.specs.declared.member.Member.{Member}
use Rattle.ccan_wire.specs.declared.role.Role.TheVariants.{Absent}
use Rattle.ccan_wire.specs.Role.{drives}

-- no member is at this place
abbrev pub nobody : Member
nobody = record { role = Absent; frame = None; flaw = None }

abbrev pub member_at : List Member → ℕ → Member
member_at members k = slice_index_or members k nobody

-- the frame that it sends: the one that it has, if its role lets it send
abbrev pub sent_by : Member → Option Frame
sent_by m = if drives m.role then m.frame else None
