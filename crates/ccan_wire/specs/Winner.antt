-- The frame that won the bus, and what each member is to it.
use Rattle.std.specs.Prelude.{ℕ, Bool, false, List, slice_index_or, if◌then◌else◌}
use Rattle.ccan_wire.specs.declared.winner.Part.{Part}
use Rattle.ccan_wire.specs.declared.winner.Part.TheVariants.{Sender, Dropped, Listener}
use Rattle.ccan_wire.specs.declared.winner.Winner.{Winner}

-- this place is meant
abbrev pub is_among : List Bool → ℕ → Bool
is_among places k = slice_index_or places k false

abbrev pub part_in : List Bool → List Bool → ℕ → Part
part_in senders dropped k = if is_among senders k then Sender else (if is_among dropped k then Dropped else Listener)

abbrev pub part_of : Winner → ℕ → Part
part_of winner k = part_in winner.senders winner.dropped k
