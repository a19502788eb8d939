-- A bus with its Status register or its error counters as they open, and all else as it was; and how many rounds no node can go
-- off in. Source: this project's own, by the steps of the error counters.
use Rattle.std.specs.Prelude.{ℕ, ◌+◌, ◌*◌, nat_lt, Bool, true, false, ◌∷◌, replicate, refl}
use Rattle.std.specs.List.{list_all}
use Rattle.ccan_confine.specs.Counters.{Counts, new_counts, off_limit, send_fault_step}
use Rattle.ccan_confine.specs.Status.{nothing_held}
use Rattle.ccan_bus.specs.declared.bus.Bus.{Bus}

-- the Status register as it opens
abbrev pub with_new_status : Bus → Bus
with_new_status bus = record bus { status = nothing_held }

-- the error counters of all nodes as they open
abbrev pub with_new_counters : Bus → Bus
with_new_counters bus = record bus { nodes = new_counts true ∷ replicate 8 (new_counts false); all = refl }

-- a round adds at most one step of a sender's fault to a transmit error counter: so many can't bring this one to bus off
abbrev pub is_low : ℕ → Counts → Bool
is_low rounds counts = nat_lt (counts.levels.tec + send_fault_step * rounds) off_limit

-- nor that of any node
abbrev pub are_low : ℕ → Bus → Bool
are_low rounds bus = list_all (is_low rounds) bus.nodes
