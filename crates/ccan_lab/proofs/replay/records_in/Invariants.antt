use Rattle.std.proofs.Common.{◌≡◌, List, map}
use Rattle.std.specs.List.{range_with_len}
use Rattle.ccan_ram.specs.declared.event.Event.{Event}
use Rattle.ccan_ram.specs.Array.{passes_of}
use Rattle.ccan_ram.specs.History.{record_at}
use Rattle.ccan_lab.proofs.replay.records_in.Given as goal

-- the records so far
abbrev pub invariant-loop-place : goal.invariant-loop-place
invariant-loop-place l =
    (history : List Event)
    → (passes_of l.ram.profile l.ram.records l.ram.used l.ram.port l.ram.quota).has_seen history
    → l.records.items ≡ map (λ object. record_at object history) (range_with_len 1 l.place)
