use Rattle.std.proofs.Common.{ℕ, ◌≡◌, ◌≤◌, ◌<◌, length}
use Rattle.ccan_confine.specs.Counters.{Groups, AddsEvent}
use Rattle.ccan_bus.specs.Nodes.{count_at}
use Rattle.ccan_bus.proofs.nodes.grouped.Given as goal

abbrev pub invariant-loop-node : goal.invariant-loop-node
invariant-loop-node l =
    record {
      all : length l.nodes ≡ 9;
      done : (k : ℕ) → k < l.node → AddsEvent (Groups l.groups) (count_at l.fn.nodes k) (count_at l.nodes k);
      rest : (k : ℕ) → l.node ≤ k → count_at l.nodes k ≡ count_at l.fn.nodes k;
    }
