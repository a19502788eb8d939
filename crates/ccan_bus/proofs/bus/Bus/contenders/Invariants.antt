use Rattle.std.proofs.Common.{◌≡◌, ◌≤◌, ◌+◌, ◌++◌, take}
use Rattle.std.specs.List.{filter}
use Rattle.arrayvec.specs.ArrayVec.{array_vec_len}
use Rattle.ccan_bus.specs.Bus.{is_on_now}
use Rattle.ccan_bus.specs.Contenders.{own_frame}
use Rattle.ccan_bus.proofs.bus.Bus.contenders.Given as goal

abbrev pub invariant-loop-place : goal.invariant-loop-place
invariant-loop-place l =
    record {
      room : array_vec_len l.found.all ≤ l.place + 1;
      so_far : l.found.all.items ≡ filter (λ c. is_on_now l.self c.0) (own_frame l.self.loaded)
          ++ filter (λ c. is_on_now l.self c.0) (take l.place l.line.send.items);
    }
