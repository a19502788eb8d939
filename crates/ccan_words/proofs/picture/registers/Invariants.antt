use Rattle.std.proofs.Common.{◌≡◌, ℕ, ◌+◌, ◌<◌, get_or}
use Rattle.ccan_object.specs.Profile.{objects_in}
use Rattle.ccan_ram.specs.declared.port.PortName.{PortName}
use Rattle.ccan_ram.specs.HandlerRegisters.{AreBelow, first_records, registers_of}
use Rattle.ccan_ram.specs.History.{last_number, BeginsWith, History}
use Rattle.ccan_words.specs.declared.view.PortView.{PortView}
use Rattle.ccan_ram.specs.Sound.{IsSound}
use Rattle.ccan_words.specs.Version.{IsSeatOf}
use Rattle.ccan_words.proofs.picture.registers.Given as goal

-- the registers so far are those of the first objects
abbrev pub invariant-loop-place : goal.invariant-loop-place
invariant-loop-place g l =
    record {
      table : l.seat.table_id ≡ l.fn.seat.table_id;
      me : l.seat.me ≡ l.fn.seat.me;
      below : AreBelow l.place l.registers;
      shown : (p : PortName) (x : PortView) (log : History) → IsSeatOf p x l.fn.seat.me → BeginsWith x.seen log
          → IsSound l.words.profile x.quota log
          → ((k : ℕ) → k < objects_in l.words.profile → get_or l.numbers k 0 ≡ last_number g.L.Layout.contends (k + 1) log)
          → l.registers ≡ registers_of (first_records l.place log);
    }
