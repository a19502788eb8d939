use Rattle.std.proofs.Common.{ℕ, ◌≡◌, ◌≤◌, ◌<◌, length}
use Rattle.std.specs.Prelude.{if◌then◌else◌}
use Rattle.ccan_confine.specs.Counters.{counts_after}
use Rattle.ccan_bus.specs.Nodes.{count_at, sends_at}
use Rattle.ccan_bus.proofs.nodes.counted.Given as goal

abbrev pub invariant-loop-node : goal.invariant-loop-node
invariant-loop-node l =
    record {
      all : length l.nodes ≡ 9;
      done : (k : ℕ) → k < l.node
          → count_at l.nodes k ≡ counts_after (if sends_at l.senders k then l.sending else l.listening) (count_at l.fn.nodes k);
      rest : (k : ℕ) → l.node ≤ k → count_at l.nodes k ≡ count_at l.fn.nodes k;
    }
