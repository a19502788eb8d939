use Rattle.std.proofs.Common.{◌≡◌, List}
use Rattle.ccan_ram.specs.declared.event.Event.{Event}
use Rattle.ccan_ram.specs.Array.{Explains}
use Rattle.ccan_ram.specs.HandlerRegisters.{AreBelow, first_records, registers_of}
use Rattle.ccan_ram.proofs.array.ArrayAccess.look_all.Given as goal

-- the registers so far are those of the first objects
abbrev pub invariant-loop-place : goal.invariant-loop-place
invariant-loop-place l =
    record {
      below : AreBelow l.place l.registers;
      shown : (seen : List Event) → Explains l.self.profile l.self.records l.self.used seen
          → l.registers ≡ registers_of (first_records l.place seen);
    }
