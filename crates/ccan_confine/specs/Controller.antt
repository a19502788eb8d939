-- The registers of a controller at one moment, what each step makes of them, and the word that they pack to. Source: C_CAN
-- User's Manual 1.2, "CAN Control Register", "Status Register", "Error Counter", "Bit Timing Register", "BRP Extension
-- Register", "Test Register" and "Hardware Reset Description". (own): a status interrupt is raised whatever SIE and EIE say;
-- groups of recessive bits count on the way back from bus off even while Init is 1 again; that a controller has left the bus
-- is remembered until the message handler joins again; and the packed word. The clearing read and the reset of a D_CAN: Texas
-- Instruments, AM335x Technical Reference Manual, chapter DCAN, "Error and Status Register" (LEC is 7 after a reset; PDA)
-- and "CAN Control Register" (SWR, PDR) and "Local Power-Down Mode".
use Rattle.std.specs.Prelude.{ℕ, ◌≡◌, ◌+◌, ◌<◌, ◌≤◌, Bool, true, false, ◌&&◌, ◌||◌, not, nat_le, min, ◌^◌, if◌then◌else◌}
use Rattle.ccan_confine.specs.declared.status_event.StatusEvent.{StatusEvent}
use Rattle.ccan_confine.specs.declared.status_event.StatusEvent.TheVariants.{Recovery, Level}
use Rattle.ccan_confine.specs.declared.controller.Controller.{Controller}
use Rattle.ccan_confine.specs.declared.control_register.ControlRegister.{ControlRegister}
use Rattle.ccan_confine.specs.declared.test_register.TestRegister.{TestRegister}
use Rattle.ccan_confine.specs.declared.controller_change.ControllerChange.{ControllerChange}
use Rattle.ccan_confine.specs.declared.controller_change.ControllerChange.TheVariants as change
use Rattle.ccan_confine.specs.Bits.{flag, at, bit, part}
use Rattle.ccan_confine.specs.StatusEvent.{HasFaultCode, is_transfer_or_error}
use Rattle.ccan_confine.specs.StatusFlags.{flags_after, no_flags, highest_code}
use Rattle.ccan_confine.specs.BitTiming.{Timing, timing_of, no_timing, reset_timing, register_bits, extension_bits}
use Rattle.ccan_confine.specs.RegisterWords.{control_with}
use Rattle.ccan_confine.specs.Status.{warning_limit, differ, word_of}
use Rattle.ccan_confine.specs.Counters.{Levels, Counts, counts_after, counts_cleared, is_recovering, is_off, reaches, new_counts}
use Rattle.ccan_confine.specs.Counters.{groups_to_return, off_limit, send_fault_step, most_rec}

-- going off: on before and off after
abbrev pub goes_off : Levels → Levels → Bool
goes_off before after = not (is_off before) && is_off after

-- BOff or EWarn changes
abbrev pub changes_level : Levels → Levels → Bool
changes_level before after =
    differ (is_off before) (is_off after) || differ (reaches warning_limit before) (reaches warning_limit after)

-- The controller with these counters, after this event of the Status register. Going off sets Init. A transfer or an error
-- raises the one status interrupt, a change of BOff or EWarn the other.
abbrev pub counted : StatusEvent → Counts → Controller → Controller
counted event counts c =
    record c {
      counters = counts;
      control = record c.control { init = c.control.init || goes_off c.counters.levels counts.levels };
      status = flags_after event c.status;
      transfer_pending = c.transfer_pending || is_transfer_or_error event;
      level_pending = c.level_pending || changes_level c.counters.levels counts.levels;
    }

-- the counters after this many groups of eleven recessive bits
abbrev pub counts_grouped : ℕ → Counts → Counts
counts_grouped groups counts =
    if is_recovering counts then
    (if nat_le groups_to_return (counts.groups + groups) then new_counts counts.host
    else record counts { groups = counts.groups + groups })
    else counts

-- a group of recessive bits on the way back sets LEC
abbrev pub recovery_of : ℕ → Counts → StatusEvent
recovery_of groups counts = if nat_le 1 groups && is_recovering counts then Recovery else Level

-- a write of the Control register clears Init
abbrev pub clears_init_of : Controller → ControlRegister → Bool
clears_init_of c control = c.control.init && not control.init

-- after a write of the Control register
abbrev pub controlled : ControlRegister → Controller → Controller
controlled control c =
    record c { control = control; counters = (if clears_init_of c control then counts_cleared c.counters else c.counters) }

-- a host may write the bit timing: Init and CCE are 1
abbrev pub configures : Controller → Bool
configures c = c.control.init && c.control.cce

-- after a write of the bit timing
abbrev pub timed : Timing → Controller → Controller
timed timing c = record c { timing = (if configures c then timing else c.timing) }

-- as it opens: nothing happened, everything is 0
abbrev pub no_control : ControlRegister
no_control =
    record { init = false; ie = false; sie = false; eie = false; dar = false; cce = false; test = false; pdr = false }

abbrev pub no_test : TestRegister
no_test = record { basic = false; silent = false; lback = false }

abbrev pub new_controller : Controller
new_controller =
    record {
      counters = new_counts true;
      control = no_control;
      status = no_flags;
      transfer_pending = false;
      level_pending = false;
      test = no_test;
      timing = no_timing;
      has_left = false;
    }

-- A controller has left the bus if Init is 1, even for only a moment: setting Init stops all transfer of messages.
abbrev pub leaving : Controller → Controller
leaving c = record c { has_left = c.has_left || c.control.init }

-- as a hardware reset leaves it: Init is 1, so it has left the bus, and the Bit Timing register has its value of that
abbrev pub reset_controller : Controller
reset_controller =
    record new_controller { control = record no_control { init = true }; timing = reset_timing; has_left = true }

-- local power down: if PDR asks for it, Init is set
abbrev pub powered_down : Controller → Controller
powered_down c = record c { control = record c.control { init = c.control.init || c.control.pdr } }

-- PDA: local power down was asked for, and Init is 1
abbrev pub is_powered_down : Controller → Bool
is_powered_down c = c.control.pdr && c.control.init

-- what a step makes of its registers
abbrev pub changed_by : ControllerChange → Controller → Controller
changed_by (change.Frame event noted) c = counted noted (counts_after event c.counters) c
changed_by (change.Recessive groups) c = counted (recovery_of groups c.counters) (counts_grouped groups c.counters) c
changed_by change.ReadStatus c = record c { transfer_pending = false; level_pending = false }
changed_by change.ReadAndClearStatus c =
    record c {
      status = record { tx_ok = false; rx_ok = false; lec = 7 };
      transfer_pending = false;
      level_pending = false;
    }
changed_by (change.WriteStatus flags) c = record c { status = flags }
changed_by (change.WriteControl control) c = controlled control c
changed_by (change.WriteControlBits which to) c = controlled (control_with which to c.control) c
changed_by (change.WriteTest test) c = record c { test = (if c.control.test then test else c.test) }
changed_by (change.WriteBitTiming word) c = timed (timing_of word c.timing.extension) c
changed_by (change.WriteExtension word) c = timed (timing_of c.timing.register word) c
changed_by (change.WriteTiming register extension) c = timed (timing_of register extension) c
changed_by change.Reset c = reset_controller
changed_by change.ResetDcan c = record reset_controller { status = record { tx_ok = false; rx_ok = false; lec = 7 } }
changed_by change.Join c = record c { has_left = false }
changed_by change.PowerDown c = powered_down c

-- what a step makes of a controller: the message handler joins the bus, or the controller leaves it if Init is then 1
abbrev pub controller_after : ControllerChange → Controller → Controller
controller_after change c = leaving (changed_by change c)

-- the event has a code that the register can show
abbrev pub CanMake : ControllerChange → Type 0
CanMake (change.Frame event noted) = HasFaultCode noted
CanMake _ = Unit {0}

-- The message handler's side makes the ends of frames, the groups of recessive bits, a reset, a joining and a power down; a host
-- makes all else; and either makes a reset of a D_CAN.
abbrev pub is_handlers : ControllerChange → Bool
is_handlers (change.Frame event noted) = true
is_handlers (change.Recessive groups) = true
is_handlers change.Reset = true
is_handlers change.Join = true
is_handlers change.PowerDown = true
is_handlers _ = false

-- the Interrupt register shows a status interrupt: one that was raised, and is not masked
abbrev pub shows_interrupt : Controller → Bool
shows_interrupt c = (c.control.sie && c.transfer_pending) || (c.control.eie && c.level_pending)

-- the word of the Status register
abbrev pub status_word : Controller → ℕ
status_word c = word_of c.status.tx_ok c.status.rx_ok c.status.lec c.counters.levels

-- it is a controller, its numbers are in their ranges, and if Init is 1 it has left the bus
pub record IsController (c : Controller) : Type 0 where
  pub host : c.counters.host ≡ true
  pub tec : c.counters.levels.tec < off_limit + send_fault_step
  pub rec : c.counters.levels.rec ≤ most_rec
  pub groups : c.counters.groups < groups_to_return
  pub lec : c.status.lec ≤ highest_code
  pub register : c.timing.register < 2 ^ register_bits
  pub extension : c.timing.extension < 2 ^ extension_bits
  pub out : c.control.init ≡ true → c.has_left ≡ true

-- REC at bits 0 to 7, TEC at 8 to 16, the groups at 17 to 23, LEC at 24 to 26
abbrev pub packed_numbers : Controller → ℕ
packed_numbers c = at 24 c.status.lec + at 17 c.counters.groups + at 8 c.counters.levels.tec + c.counters.levels.rec

-- from bit 27 on: TxOk, RxOk, the two pending interrupts, whether Init was cleared since the controller went off, Init, IE,
-- SIE, EIE, DAR, CCE, Test, Basic, Silent, LBack
abbrev pub packed_flags : Controller → ℕ
packed_flags c =
    at 14 (flag c.test.lback) + at 13 (flag c.test.silent) + at 12 (flag c.test.basic) + at 11 (flag c.control.test)
    + at 10 (flag c.control.cce) + at 9 (flag c.control.dar) + at 8 (flag c.control.eie) + at 7 (flag c.control.sie)
    + at 6 (flag c.control.ie) + at 5 (flag c.control.init) + at 4 (flag c.counters.init_cleared)
    + at 3 (flag c.level_pending) + at 2 (flag c.transfer_pending) + at 1 (flag c.status.rx_ok) + flag c.status.tx_ok

-- from bit 42 on: the Bit Timing register, and from 57 on the BRP Extension register
abbrev pub packed_timing : Controller → ℕ
packed_timing c = at 15 c.timing.extension + c.timing.register

-- at bit 61 that it has left the bus, and at 62 PDR
abbrev pub packed_left : Controller → ℕ
packed_left c = at 62 (flag c.control.pdr) + at 61 (flag c.has_left)

-- the word
abbrev pub packed : Controller → ℕ
packed c = packed_left c + at 42 (packed_timing c) + at 27 (packed_flags c) + packed_numbers c

-- the flags in a word
abbrev pub flags_part : ℕ → ℕ
flags_part word = part word 27 15

-- the controller in a word; some controller if none packs to it
abbrev pub unpacked : ℕ → Controller
unpacked word =
    record {
      counters =
          record {
            host = true;
            levels = record { tec = min (part word 8 9) 263; rec = part word 0 8 };
            init_cleared = bit (flags_part word) 4;
            groups = part word 17 7;
          };
      control =
          record {
            init = bit (flags_part word) 5;
            ie = bit (flags_part word) 6;
            sie = bit (flags_part word) 7;
            eie = bit (flags_part word) 8;
            dar = bit (flags_part word) 9;
            cce = bit (flags_part word) 10;
            test = bit (flags_part word) 11;
            pdr = bit word 62;
          };
      status =
          record { tx_ok = bit (flags_part word) 0; rx_ok = bit (flags_part word) 1; lec = part word 24 3 };
      transfer_pending = bit (flags_part word) 2;
      level_pending = bit (flags_part word) 3;
      test =
          record {
            basic = bit (flags_part word) 12;
            silent = bit (flags_part word) 13;
            lback = bit (flags_part word) 14;
          };
      timing = timing_of (part word 42 15) (part word 57 4);
      has_left = bit word 61;
    }
