-- What is stored of the Status register and may be written: C_CAN User's Manual 1.2, "Status Register".
use Rattle.std.specs.Prelude.{ℕ, Bool, false, ◌||◌, unwrap_or}
use Rattle.ccan_confine.specs.declared.status_event.StatusEvent.{StatusEvent}
use Rattle.ccan_confine.specs.StatusEvent.{code_of, is_sent, is_received}

-- LEC has three bits
abbrev pub highest_code : ℕ
highest_code = 7

pub record Flags : Type 0 where
  pub tx_ok : Bool
  pub rx_ok : Bool
  pub lec : ℕ

-- what an event makes of them
abbrev pub flags_after : StatusEvent → Flags → Flags
flags_after event flags =
    record {
      tx_ok = flags.tx_ok || is_sent event;
      rx_ok = flags.rx_ok || is_received event;
      lec = unwrap_or (code_of event) flags.lec;
    }

abbrev pub no_flags : Flags
no_flags = record { tx_ok = false; rx_ok = false; lec = 0 }
