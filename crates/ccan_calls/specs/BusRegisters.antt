-- Reads and writes of registers by the bus's port as processes. No interface is the bus's, so none of its registers is read or
-- written. Source: this project's own, after what they come to.
use Rattle.std.specs.Prelude.{ℕ, ◌+◌, ◌/◌, ◌%◌, ◌^◌, ◌==◌, Option, Some, None, Ok, Err, if◌then◌else◌}
use Rattle.std.specs.Option.{option_map_or}
use Rattle.ccan_confine.specs.declared.controller_change.ControllerChange.TheVariants.{ResetDcan, WriteControl, WriteTiming}
use Rattle.ccan_confine.specs.RegisterWords.{control_in}
use Rattle.ccan_ram.specs.Terms.{Terms}
use Rattle.ccan_chip.specs.declared.map.Map.{Map}
use Rattle.ccan_chip.specs.declared.register.Register.{Register}
use Rattle.ccan_chip.specs.declared.register.Register.TheVariants as register
use Rattle.ccan_process.specs.Process.{Does, Ended, followed_by}
use Rattle.ccan_registers.specs.declared.access_error.AccessError.TheVariants as why
use Rattle.ccan_registers.specs.declared.byte.Byte.{Byte}
use Rattle.ccan_registers.specs.declared.byte.Byte.TheVariants.{Lower, Upper}
use Rattle.ccan_registers.specs.Bytes.{byte_in, has_reset, start_of, with_byte}
use Rattle.ccan_registers.specs.Dcan.{asks_for_reset}
use Rattle.ccan_registers.specs.Register.{both_written, change_by, is_refused}
use Rattle.ccan_calls.specs.Offsets.{are_halves, register_at}
use Rattle.ccan_calls.specs.Process.{LooksAtController, Process, ending}
use Rattle.ccan_calls.specs.WriteProcess.{Written, change_controller, resets}

-- a write of a register that is no register of the controller: those of interfaces are others'
abbrev pub refuses_interface : Register → Process Written
refuses_interface (register.Request interface) = Ended (Err why.OtherInterface)
refuses_interface (register.Buffer interface reg) = Ended (Err why.OtherInterface)
refuses_interface r = Ended (Ok tt)

abbrev pub bus_writes : Terms → Map → Register → ℕ → Process Written
bus_writes terms map r value =
    if asks_for_reset map r value then resets terms ResetDcan
    else option_map_or change_controller (change_by map r value) (refuses_interface r)

-- ---- a byte

abbrev pub bus_writes_timing : Terms → Map → Byte → ℕ → Process Written
bus_writes_timing terms map byte value =
    Does LooksAtController (λ found. bus_writes terms map register.BitTiming (with_byte byte value found.timing.register))

abbrev pub bus_resets_in_init : Terms → Process Written
bus_resets_in_init terms =
    Does LooksAtController (λ found. if found.control.init then resets terms ResetDcan else Ended (Ok tt))

abbrev pub bus_writes_lower : Terms → Map → Register → ℕ → Process Written
bus_writes_lower terms map register.ControlUpper value = Ended (Ok tt)
bus_writes_lower terms map register.BitTiming value = bus_writes_timing terms map Lower value
bus_writes_lower terms map (register.Buffer interface reg) value = Ended (Err why.OtherInterface)
bus_writes_lower terms map r value = bus_writes terms map r value

abbrev pub bus_writes_upper : Terms → Map → Register → ℕ → Process Written
bus_writes_upper terms map register.Control value =
    if has_reset map value then bus_resets_in_init terms else Ended (Ok tt)
bus_writes_upper terms map register.ControlUpper value = bus_writes terms map register.ControlUpper (with_byte Upper value 0)
bus_writes_upper terms map register.BitTiming value = bus_writes_timing terms map Upper value
bus_writes_upper terms map (register.Request interface) value = Ended (Err why.OtherInterface)
bus_writes_upper terms map (register.Buffer interface reg) value = Ended (Err why.OtherInterface)
bus_writes_upper terms map r value = Ended (Ok tt)

abbrev pub bus_writes_byte_of : Byte → Terms → Map → Register → ℕ → Process Written
bus_writes_byte_of Lower terms map r value = bus_writes_lower terms map r value
bus_writes_byte_of Upper terms map r value = bus_writes_upper terms map r value

-- ---- at an offset

abbrev pub bus_access_at : Terms → Map → ℕ → (Register → Process Written) → Process (Option Written)
bus_access_at terms map offset access =
    option_map_or (λ r. ending (access r) (λ told. Some told)) (register_at map terms.profile offset) (Ended None)

abbrev pub bus_writes_at : Terms → Map → ℕ → ℕ → Process (Option Written)
bus_writes_at terms map offset value = bus_access_at terms map offset (λ r. bus_writes terms map r value)

abbrev pub bus_writes_byte : Terms → Map → ℕ → ℕ → Process (Option Written)
bus_writes_byte terms map offset value =
    bus_access_at terms map (start_of offset) (λ r. bus_writes_byte_of (byte_in offset) terms map r value)

-- ---- a word of 32 bits

-- the halves one after the other, the upper one first
abbrev pub bus_writes_halves : Terms → Map → ℕ → ℕ → Process (Option Written)
bus_writes_halves terms map offset value =
    followed_by (bus_writes_at terms map (offset + 2) (value / 2 ^ 16)) (λ high. if is_refused high then Ended high
    else ending (bus_writes_at terms map offset (value % 2 ^ 16)) (λ low. both_written high low))

abbrev pub bus_writes_control_word : Terms → Map → ℕ → Process Written
bus_writes_control_word terms map value =
    if asks_for_reset map register.Control (value % 2 ^ 16) then resets terms ResetDcan
    else change_controller (WriteControl (control_in value))

abbrev pub bus_writes_word : Terms → Map → ℕ → ℕ → Process (Option Written)
bus_writes_word terms map offset value =
    if offset % 4 == 0
    then (if are_halves map terms.profile offset register.BitTiming register.Extension
    then ending (change_controller (WriteTiming (value % 2 ^ 16) (value / 2 ^ 16))) (λ told. Some told)
    else (if are_halves map terms.profile offset register.Control register.ControlUpper
    then ending (bus_writes_control_word terms map value) (λ told. Some told)
    else bus_writes_halves terms map offset value))
    else Ended None
