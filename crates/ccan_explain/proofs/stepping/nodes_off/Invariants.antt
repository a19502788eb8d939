use Rattle.std.proofs.Common.{ℕ, ◌≡◌, ◌<◌, false, get_or, length}
use Rattle.ccan_confine.specs.Counters.{is_off}
use Rattle.ccan_bus.specs.Bus.{LedTo}
use Rattle.ccan_bus.specs.Past.{BusPast, levels_at}
use Rattle.ccan_explain.proofs.stepping.nodes_off.Given as goal

-- the nodes so far
abbrev pub invariant-loop-node : goal.invariant-loop-node
invariant-loop-node l =
    record {
      size : length l.off ≡ 9;
      told : (past : BusPast) → LedTo past l.bus → (node : ℕ) → node < l.node
          → get_or l.off node false ≡ is_off (levels_at past node);
    }
