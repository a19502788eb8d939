-- What a D_CAN does differently from a C_CAN. Source: Texas Instruments AM335x Technical Reference Manual, chapter DCAN: "CAN
-- Control Register" (SWR, PMD, PDR), "Error and Status Register" (PDA) and "Test Register" (their bits), "IF1 and IF2 Command
-- Registers" (TxRqst/NewDat, Message Number). (own): parity is not there, so PMD reads 5, which is off, and can't be written; a
-- write with SWR resets if it has Init too, whatever Init was before, and otherwise its SWR is dropped; a write of one half of
-- Control leaves the other half; waking up by bus traffic is not there, so WUBA and WakeUpPnd read 0; a request of a number that no
-- object has does nothing.
use Rattle.std.specs.Prelude.{ℕ, ◌≡◌, ◌+◌, Bool, true, false, ◌&&◌, [], Option, Some, None, Result, Ok, Err, nat_le}
use Rattle.ccan_object.specs.declared.command.CommandMask.{CommandMask}
use Rattle.ccan_object.specs.declared.profile.Profile.{Profile}
use Rattle.ccan_object.specs.Command.{has_txrqst_newdat, is_write}
use Rattle.ccan_object.specs.Interface.{filled}
use Rattle.ccan_object.specs.Profile.{objects_in}
use Rattle.ccan_confine.specs.declared.control_register.ControlRegister.{ControlRegister}
use Rattle.ccan_confine.specs.declared.controller.Controller.{Controller}
use Rattle.ccan_confine.specs.declared.controller_change.ControllerChange.{ControllerChange}
use Rattle.ccan_confine.specs.declared.controller_change.ControllerChange.TheVariants as change
use Rattle.ccan_confine.specs.declared.test_register.TestRegister.{TestRegister}
use Rattle.ccan_confine.specs.Bits.{at, bit, flag, part}
use Rattle.ccan_confine.specs.Controller.{is_powered_down, no_control, status_word}
use Rattle.ccan_confine.specs.RegisterWords.{control_in, control_word, test_in}
use Rattle.ccan_ram.specs.declared.change.Change.TheVariants.{Send}
use Rattle.ccan_ram.specs.declared.change.Changed.{Changed}
use Rattle.ccan_ram.specs.declared.change.Changed.TheVariants.{Done}
use Rattle.ccan_ram.specs.declared.change.Refused.{Refused}
use Rattle.ccan_ram.specs.declared.change.Refused.TheVariants as refused
use Rattle.ccan_ram.specs.Attempt.{Attempt}
use Rattle.ccan_ram.specs.Terms.{Terms}
use Rattle.ccan_endless.specs.Chip.{ChipHistory}
use Rattle.ccan_chip.specs.declared.map.Map.{Map}
use Rattle.ccan_chip.specs.declared.map.Map.TheVariants.{Dcan, Narrow, Wide}
use Rattle.ccan_chip.specs.declared.register.Register.{Register}
use Rattle.ccan_chip.specs.declared.register.Register.TheVariants as register
use Rattle.ccan_registers.specs.declared.access_error.AccessError.{AccessError}
use Rattle.ccan_registers.specs.declared.access_error.AccessError.TheVariants.{Busy, Spent}
use Rattle.ccan_registers.specs.declared.interface_set.InterfaceSet.{InterfaceSet}
use Rattle.ccan_registers.specs.ChipSteps.{OnObjects}

-- ---- registers of the controller

-- the reset of the layout's part
abbrev pub reset_of : Map → ControllerChange
reset_of Narrow = change.Reset
reset_of Wide = change.Reset
reset_of Dcan = change.ResetDcan

-- what the low half of Control reads: in a D_CAN with PMD, bits 13 to 10
abbrev pub control_shown : Map → ControlRegister → ℕ
control_shown Narrow control = control_word control
control_shown Wide control = control_word control
control_shown Dcan control = at 10 5 + control_word control

-- what the upper half of Control reads: PDR, bit 24 of the whole; a C_CAN has no upper half
abbrev pub upper_shown : Map → ControlRegister → ℕ
upper_shown Narrow control = 0
upper_shown Wide control = 0
upper_shown Dcan control = at 8 (flag control.pdr)

-- the bits of Control that a write of its low half sets
abbrev pub low_bits : ControlRegister
low_bits =
    record { init = true; ie = true; sie = true; eie = true; dar = true; cce = true; test = true; pdr = false }

-- PDR, or not
abbrev pub pdr_bit : Bool → ControlRegister
pdr_bit on = record no_control { pdr = on }

-- what a write of the low half of Control is to the controller: in a D_CAN PDR stays
abbrev pub control_written : Map → ℕ → ControllerChange
control_written Narrow word = change.WriteControl (control_in word)
control_written Wide word = change.WriteControl (control_in word)
control_written Dcan word = change.WriteControlBits low_bits (control_in word)

-- what a write of the upper half of Control is: PDR alone is set
abbrev pub upper_written : Map → ℕ → Option ControllerChange
upper_written Narrow word = None
upper_written Wide word = None
upper_written Dcan word = Some (change.WriteControlBits (pdr_bit true) (pdr_bit (bit word 8)))

-- what the Status register reads: in a D_CAN with PDA, bit 10
abbrev pub status_shown : Map → Controller → ℕ
status_shown Narrow c = status_word c
status_shown Wide c = status_word c
status_shown Dcan c = at 10 (flag (is_powered_down c)) + status_word c

-- what a write of Test sets: a D_CAN has no Basic
abbrev pub test_written : Map → ℕ → TestRegister
test_written Narrow word = test_in word
test_written Wide word = test_in word
test_written Dcan word = record (test_in word) { basic = false }

-- a write of Control of a D_CAN asks for a software reset: SWR, bit 15, in addition to Init
abbrev pub asks_for_reset : Map → Register → ℕ → Bool
asks_for_reset Dcan register.Control word = bit word 15 && bit word 0
asks_for_reset map r word = false

-- ---- requests

-- the command writes an object, and requests a transmission
abbrev pub is_sending : CommandMask → Bool
is_sending command = is_write command && has_txrqst_newdat command

-- the number in a request: its low eight bits
abbrev pub number_in : ℕ → ℕ
number_in word = part word 0 8

-- it is that of an object
abbrev pub is_object_of : Profile → ℕ → Bool
is_object_of profile number = nat_le 1 number && nat_le number (objects_in profile)

-- a request that names no object: nothing happens, and the register still reads the number of the object that was named last
pub record NamesNone (own : InterfaceSet) (added : ChipHistory) (told : Result (Unit {0}) AccessError)
    (left : InterfaceSet) : Type 0 where
  pub quiet : added ≡ []
  pub told_is : told ≡ Ok tt
  pub left_is : left ≡ own

-- how a change of an object that fits each record ends, so that only a refusal keeps it from being made
abbrev pub change_told : Result Changed Refused → Result (Unit {0}) AccessError
change_told (Ok changed) = Ok tt
change_told (Err (refused.Busy tries now)) = Err Busy
change_told (Err refused.Spent) = Err Spent

-- the registers of an interface after it: they have the whole object, as after each write, unless it was refused
abbrev pub sent_from : Result Changed Refused → InterfaceSet → InterfaceSet
sent_from (Ok (Done before after number)) own =
    record own { registers = filled own.registers.command after own.registers }
sent_from outcome own = own

-- A transfer that requests a transmission is one change of the object, which sets NewDat too.
pub record Sends (terms : Terms) (tries object : ℕ) (own : InterfaceSet) (seen added : ChipHistory)
    (told : Result (Unit {0}) AccessError) (left : InterfaceSet) : Type 0 where
  pub outcome : Result Changed Refused
  pub attempt : OnObjects terms.port
      (λ s a. Attempt terms object (Send own.registers.command own.registers.buffer) tries s a outcome) seen added
  pub told_is : told ≡ change_told outcome
  pub left_is : left ≡ record (sent_from outcome own) { asked = object }
