use Rattle.std.proofs.Common.{ℕ, ◌≡◌, ◌<◌, ◌==◌, ◌&&◌, length, take}
use Rattle.std.specs.List.{list_any}
use Rattle.ccan_bus.specs.Contenders.{is_least, frames_of}
use Rattle.ccan_bus.specs.Nodes.{sends_at}
use Rattle.ccan_bus.proofs.contenders.Contenders.colliding.Given as goal

abbrev pub invariant-loop-place : goal.invariant-loop-place
invariant-loop-place l =
    record {
      all : length l.senders ≡ 9;
      so_far : (node : ℕ) → node < 9
          → sends_at l.senders node ≡ list_any (λ c. c.0 == node && is_least c.1 (frames_of l.self.all.items))
          (take l.place l.self.all.items);
    }
