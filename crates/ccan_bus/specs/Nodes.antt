-- How the code counts: the counters of all nodes at once. Source: this project's own.
use Rattle.std.specs.Prelude.{ℕ, ◌≡◌, ◌<◌, Bool, false, List, length, slice_index_or, if◌then◌else◌}
use Rattle.ccan_confine.specs.declared.bus_event.BusEvent.{BusEvent}
use Rattle.ccan_confine.specs.Counters.{Counts, new_counts, counts_after, AddsEvent, Groups}

abbrev pub count_at : List Counts → ℕ → Counts
count_at nodes node = slice_index_or nodes node (new_counts false)

abbrev pub sends_at : List Bool → ℕ → Bool
sends_at senders node = slice_index_or senders node false

-- those who send have one event, and the others another
pub record AreCounted (senders : List Bool) (sending listening : BusEvent) (old new : List Counts) : Type 0 where
  pub all : length new ≡ 9
  pub each : (node : ℕ) → node < 9
      → count_at new node ≡ counts_after (if sends_at senders node then sending else listening) (count_at old node)

-- so each of the nodes 0 to 8 has its event
abbrev pub IsSharedOut : List Bool → BusEvent → BusEvent → (ℕ → BusEvent) → Type 0
IsSharedOut senders sending listening each =
    (node : ℕ) → node < 9 → each node ≡ (if sends_at senders node then sending else listening)

-- each node has this many groups of eleven recessive bits
pub record HaveGroups (groups : ℕ) (old new : List Counts) : Type 0 where
  pub all : length new ≡ 9
  pub each : (node : ℕ) → node < 9 → AddsEvent (Groups groups) (count_at old node) (count_at new node)
