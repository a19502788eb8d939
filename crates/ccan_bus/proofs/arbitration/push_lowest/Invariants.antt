use Rattle.std.proofs.Common.{◌≡◌, ◌+◌, ◌≤◌, ◌-◌, ◌++◌}
use Rattle.arrayvec.specs.ArrayVec.{array_vec_len}
use Rattle.ccan_bus.specs.Arbitration.{lowest_bits}
use Rattle.ccan_bus.proofs.arbitration.push_lowest.Given as goal

abbrev pub invariant-loop-done : goal.invariant-loop-done
invariant-loop-done l =
    record {
      room : array_vec_len l.bits + (l.count - l.done) ≤ 32;
      len : array_vec_len l.bits ≡ array_vec_len l.initial.bits + l.done;
      rest : l.bits.items ++ lowest_bits (l.count - l.done) l.number ≡ l.initial.bits.items ++ lowest_bits l.count l.number;
    }
