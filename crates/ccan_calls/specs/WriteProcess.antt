-- Writes of registers of the chip, and changes of all its objects, as processes. Source: this project's own, after what they come
-- to (C_CAN User's Manual 1.2, section 3, Programmer's Model; Texas Instruments AM335x Technical Reference Manual, chapter DCAN).
use Rattle.std.specs.Prelude.{ℕ, zero, suc, Option, Some, None, Result, Ok, Err, if◌then◌else◌}
use Rattle.std.specs.Option.{option_map_or}
use Rattle.ccan_object.specs.Interface.{filled, set_register, shown}
use Rattle.ccan_object.specs.Number.{requested}
use Rattle.ccan_object.specs.Profile.{objects_in}
use Rattle.ccan_confine.specs.declared.controller_change.ControllerChange.{ControllerChange}
use Rattle.ccan_confine.specs.declared.controller_change.ControllerChange.TheVariants.{ResetDcan}
use Rattle.ccan_ram.specs.declared.change.Change.{Change}
use Rattle.ccan_ram.specs.declared.change.Change.TheVariants.{Reset, Send}
use Rattle.ccan_ram.specs.Terms.{Terms}
use Rattle.ccan_chip.specs.declared.map.Map.{Map}
use Rattle.ccan_chip.specs.declared.map.Map.TheVariants.{Dcan, Narrow, Wide}
use Rattle.ccan_chip.specs.declared.register.Register.{Register}
use Rattle.ccan_chip.specs.declared.register.Register.TheVariants as register
use Rattle.ccan_process.specs.Act.{Attempted, GaveUp, Made, Unfit, WasSpent}
use Rattle.ccan_process.specs.Process.{Does, Ended}
use Rattle.ccan_registers.specs.declared.access_error.AccessError.{AccessError}
use Rattle.ccan_registers.specs.declared.access_error.AccessError.TheVariants as why
use Rattle.ccan_registers.specs.declared.byte.Byte.{Byte}
use Rattle.ccan_registers.specs.declared.byte.Byte.TheVariants.{Lower, Upper}
use Rattle.ccan_registers.specs.declared.interface_set.InterfaceSet.{InterfaceSet}
use Rattle.ccan_registers.specs.Bytes.{byte_in, has_reset, start_of, with_byte}
use Rattle.ccan_registers.specs.ChipSteps.{made_or_busy}
use Rattle.ccan_registers.specs.Dcan.{asks_for_reset, is_object_of, is_sending, number_in}
use Rattle.ccan_registers.specs.Register.{change_by, is_own, transfer_told}
use Rattle.ccan_calls.specs.Parts.{transfer}
use Rattle.ccan_calls.specs.Process.{Attempts, ChangesController, LooksAtController, Process, ending}
use Rattle.ccan_calls.specs.Offsets.{register_at}

-- whether something was done, or why not
abbrev pub Written : Type 0
Written = Result (Unit {0}) AccessError

-- and the interface registers after it
abbrev pub WriteEnd : Type 0
WriteEnd = Written × InterfaceSet

abbrev pub WriteProcess : Type 0
WriteProcess = Process WriteEnd

-- done without a step
abbrev pub sets : InterfaceSet → WriteProcess
sets left = Ended (Ok tt, left)

-- ---- changes of all objects

-- how a change that fits each record ends
abbrev pub attempt_told : Attempted → Written
attempt_told (Made before after) = Ok tt
attempt_told (Unfit shown) = Ok tt
attempt_told GaveUp = Err why.Busy
attempt_told WasSpent = Err why.Spent

abbrev pub change_one : Change → ℕ → Process Written
change_one change object = Does (Attempts object change) (λ end. Ended (attempt_told end))

-- what comes next, unless something was refused
abbrev pub unless_refused : Written → Process Written → Process Written
unless_refused (Ok done) next = next
unless_refused (Err why) next = Ended (Err why)

-- this many objects from this one on are changed, one after another, until one is refused
abbrev pub change_each : Change → ℕ → ℕ → Process Written
change_each change zero object = Ended (Ok tt)
change_each change (suc more) object =
    Does (Attempts object change) (λ end. unless_refused (attempt_told end) (change_each change more (suc object)))

abbrev pub change_all : Terms → Change → Process Written
change_all terms change = change_each change (objects_in terms.profile) 1

-- ---- the controller

abbrev pub change_controller : ControllerChange → Process Written
change_controller change = Does (ChangesController change) (λ outcome. Ended (made_or_busy outcome))

-- a reset of the chip by this change of its controller: if that was given up, nothing is reset
abbrev pub resets : Terms → ControllerChange → Process Written
resets terms reset =
    Does (ChangesController reset) (λ outcome. unless_refused (made_or_busy outcome) (change_all terms Reset))

-- a process that leaves the interface registers
abbrev pub keeping : InterfaceSet → Process Written → WriteProcess
keeping own process = ending process (λ told. (told, own))

-- ---- requests

-- the registers after a transfer that requests a transmission
abbrev pub sent_set : ℕ → InterfaceSet → Attempted → InterfaceSet
sent_set object own (Made before after) =
    record { registers = filled own.registers.command after own.registers; asked = object }
sent_set object own end = record own { asked = object }

abbrev pub sends : ℕ → InterfaceSet → WriteProcess
sends object own =
    Does (Attempts object (Send own.registers.command own.registers.buffer))
    (λ end. Ended (attempt_told end, sent_set object own end))

abbrev pub requests : Terms → ℕ → InterfaceSet → WriteProcess
requests terms value own =
    ending (transfer (requested terms.profile value) own) (λ end. (transfer_told end.0, end.1))

abbrev pub requests_object : Terms → ℕ → InterfaceSet → WriteProcess
requests_object terms object own =
    if is_sending own.registers.command then sends object own else requests terms object own

-- a write of the Command Request register
abbrev pub requests_by : Map → Terms → ℕ → InterfaceSet → WriteProcess
requests_by Narrow terms value own = requests terms value own
requests_by Wide terms value own = requests terms value own
requests_by Dcan terms value own =
    if is_object_of terms.profile (number_in value) then requests_object terms (number_in value) own else sets own

-- ---- a write

-- the register is of another port's interface, and nothing happens
abbrev pub others : InterfaceSet → WriteProcess
others own = Ended (Err why.OtherInterface, own)

-- a write of another register: of an interface, or of one that can only be read
abbrev pub writes_rest : Terms → Map → Register → ℕ → InterfaceSet → WriteProcess
writes_rest terms map (register.Request interface) value own =
    if is_own terms.port interface then requests_by map terms value own else others own
writes_rest terms map (register.Buffer interface reg) value own =
    if is_own terms.port interface then sets (record own { registers = set_register reg value own.registers }) else others own
writes_rest terms map r value own = sets own

abbrev pub writes : Terms → Map → Register → ℕ → InterfaceSet → WriteProcess
writes terms map r value own =
    if asks_for_reset map r value then keeping own (resets terms ResetDcan)
    else option_map_or (λ change. keeping own (change_controller change)) (change_by map r value)
    (writes_rest terms map r value own)

-- ---- a byte

-- a byte of Bit Timing, with the other one as a look at the controller showed it
abbrev pub writes_timing_byte : Terms → Map → Byte → ℕ → InterfaceSet → WriteProcess
writes_timing_byte terms map byte value own =
    Does LooksAtController (λ found. writes terms map register.BitTiming (with_byte byte value found.timing.register) own)

-- SWR of a D_CAN, if a look at the controller showed Init
abbrev pub resets_in_init : Terms → InterfaceSet → WriteProcess
resets_in_init terms own =
    Does LooksAtController (λ found. if found.control.init then keeping own (resets terms ResetDcan) else sets own)

abbrev pub writes_lower : Terms → Map → Register → ℕ → InterfaceSet → WriteProcess
writes_lower terms map register.ControlUpper value own = sets own
writes_lower terms map register.BitTiming value own = writes_timing_byte terms map Lower value own
writes_lower terms map (register.Buffer interface reg) value own =
    writes terms map (register.Buffer interface reg) (with_byte Lower value (shown reg own.registers)) own
writes_lower terms map r value own = writes terms map r value own

abbrev pub writes_upper : Terms → Map → Register → ℕ → InterfaceSet → WriteProcess
writes_upper terms map register.Control value own = if has_reset map value then resets_in_init terms own else sets own
writes_upper terms map register.ControlUpper value own = writes terms map register.ControlUpper (with_byte Upper value 0) own
writes_upper terms map register.BitTiming value own = writes_timing_byte terms map Upper value own
writes_upper terms map (register.Request interface) value own =
    if is_own terms.port interface then sets own else others own
writes_upper terms map (register.Buffer interface reg) value own =
    writes terms map (register.Buffer interface reg) (with_byte Upper value (shown reg own.registers)) own
writes_upper terms map r value own = sets own

abbrev pub writes_byte_of : Byte → Terms → Map → Register → ℕ → InterfaceSet → WriteProcess
writes_byte_of Lower terms map r value own = writes_lower terms map r value own
writes_byte_of Upper terms map r value own = writes_upper terms map r value own

-- ---- at an offset

-- an access to the register that begins at an offset; if none does, nothing happens
abbrev pub access_at : Terms → Map → ℕ → InterfaceSet → (Register → WriteProcess) → Process (Option Written × InterfaceSet)
access_at terms map offset own access =
    option_map_or (λ r. ending (access r) (λ end. (Some end.0, end.1))) (register_at map terms.profile offset)
    (Ended (None, own))

abbrev pub writes_at : Terms → Map → ℕ → ℕ → InterfaceSet → Process (Option Written × InterfaceSet)
writes_at terms map offset value own = access_at terms map offset own (λ r. writes terms map r value own)

abbrev pub writes_byte : Terms → Map → ℕ → ℕ → InterfaceSet → Process (Option Written × InterfaceSet)
writes_byte terms map offset value own =
    access_at terms map (start_of offset) own (λ r. writes_byte_of (byte_in offset) terms map r value own)
