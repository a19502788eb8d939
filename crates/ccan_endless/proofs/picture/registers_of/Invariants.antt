use Rattle.std.proofs.Common.{◌≡◌, ℕ, ◌+◌, ◌<◌, get_or}
use Rattle.ccan_object.specs.Profile.{objects_in}
use Rattle.ccan_ram.specs.HandlerRegisters.{AreBelow, first_records, registers_of}
use Rattle.ccan_ram.specs.History.{History}
use Rattle.ccan_ram.specs.Sound.{AreRecords}
use Rattle.ccan_endless.specs.Rule.{IsHead}
use Rattle.ccan_endless.proofs.picture.registers_of.Given as goal

-- the registers so far are those of the first objects
abbrev pub invariant-loop-place : goal.invariant-loop-place
invariant-loop-place l =
    record {
      below : AreBelow l.place l.registers;
      shown : (log : History) → AreRecords log
          → ((k : ℕ) → k < objects_in l.fn.profile → IsHead (k + 1) (get_or l.values k 0) log)
          → l.registers ≡ registers_of (first_records l.place log);
    }
