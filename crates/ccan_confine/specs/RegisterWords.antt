-- The words of registers that a host reads and writes, by the places of their bits. Source: C_CAN User's Manual 1.2, "CAN
-- Control Register", "Status Register", "Error Counter" and "Test Register"; of PDR: Texas Instruments, AM335x Technical
-- Reference Manual, chapter DCAN, "CAN Control Register". That the Error Counter shows a transmit error count above 255 as 255
-- is this project's own.
use Rattle.std.specs.Prelude.{ℕ, ◌+◌, ◌%◌, ◌^◌, nat_le, min, if◌then◌else◌}
use Rattle.ccan_confine.specs.declared.controller.Controller.{Controller}
use Rattle.ccan_confine.specs.declared.control_register.ControlRegister.{ControlRegister}
use Rattle.ccan_confine.specs.declared.test_register.TestRegister.{TestRegister}
use Rattle.ccan_confine.specs.Bits.{flag, at, bit, part}
use Rattle.ccan_confine.specs.StatusFlags.{Flags}
use Rattle.ccan_confine.specs.Counters.{passive_limit}

-- Control, its low word: Init 0, IE 1, SIE 2, EIE 3, DAR 5, CCE 6, Test 7; the others are 0
abbrev pub control_word : ControlRegister → ℕ
control_word control =
    at 7 (flag control.test) + at 6 (flag control.cce) + at 5 (flag control.dar) + at 3 (flag control.eie)
    + at 2 (flag control.sie) + at 1 (flag control.ie) + flag control.init

-- the register that a word writes; of a D_CAN a word of 32 bits has PDR at 24
abbrev pub control_in : ℕ → ControlRegister
control_in word =
    record {
      init = bit word 0;
      ie = bit word 1;
      sie = bit word 2;
      eie = bit word 3;
      dar = bit word 5;
      cce = bit word 6;
      test = bit word 7;
      pdr = bit word 24;
    }

-- the bits that are 1 in the first as they are in the second, and the others as they are in the third
abbrev pub control_with : ControlRegister → ControlRegister → ControlRegister → ControlRegister
control_with which to control =
    record {
      init = (if which.init then to.init else control.init);
      ie = (if which.ie then to.ie else control.ie);
      sie = (if which.sie then to.sie else control.sie);
      eie = (if which.eie then to.eie else control.eie);
      dar = (if which.dar then to.dar else control.dar);
      cce = (if which.cce then to.cce else control.cce);
      test = (if which.test then to.test else control.test);
      pdr = (if which.pdr then to.pdr else control.pdr);
    }

-- Test: Basic 2, Silent 3, LBack 4; the others, of the pins and reserved, are 0
abbrev pub test_word : TestRegister → ℕ
test_word test = at 4 (flag test.lback) + at 3 (flag test.silent) + at 2 (flag test.basic)

abbrev pub test_in : ℕ → TestRegister
test_in word = record { basic = bit word 2; silent = bit word 3; lback = bit word 4 }

-- Status, what is written of it: RxOk 4, TxOk 3, LEC 2 to 0
abbrev pub flags_in : ℕ → Flags
flags_in word = record { tx_ok = bit word 3; rx_ok = bit word 4; lec = part word 0 3 }

-- Error Counter: RP 15 (REC has reached the error passive level), the low seven bits of REC 14 to 8, TEC 7 to 0
abbrev pub error_counter_word : Controller → ℕ
error_counter_word c =
    at 15 (flag (nat_le passive_limit c.counters.levels.rec)) + at 8 (c.counters.levels.rec % 2 ^ 7)
    + min c.counters.levels.tec 255
