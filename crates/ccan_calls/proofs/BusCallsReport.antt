-- A call on the bus's handle of which a step was refused gets the code for busy or for spent.
use Rattle.std.proofs.Common.{ℕ, ◌+◌, ◌/◌, ◌%◌, ◌^◌, ◌==◌, Bool, true, false, List, map, length, nat_le, Option, Some, None, Result, Ok, Err, inl, inr, refl, if◌then◌else◌}
use Rattle.std.specs.List.{list_all}
use Rattle.ccan_object.specs.declared.profile.Profile.{Profile}
use Rattle.ccan_accept.specs.declared.frame.Frame.{Frame}
use Rattle.ccan_confine.specs.declared.controller_change.ControllerChange.TheVariants.{Recessive, ResetDcan, WriteControl, WriteTiming}
use Rattle.ccan_confine.specs.RegisterWords.{control_in}
use Rattle.ccan_ram.specs.Terms.{Terms}
use Rattle.ccan_bus.specs.declared.answer.LoadAnswer.TheVariants as load_answer
use Rattle.ccan_bus.specs.declared.round_line.Fault.{Fault}
use Rattle.ccan_bus.specs.Past.{BusPast}
use Rattle.ccan_process.specs.Process.{Ended}
use Rattle.ccan_line.specs.Limits.{most_frames, most_groups}
use Rattle.ccan_endless.specs.declared.controller_changed.ControllerBusy.{ControllerBusy}
use Rattle.ccan_endless.specs.declared.controller_changed.ControllerChanged.{ControllerChanged}
use Rattle.ccan_chip.specs.declared.map.Map.{Map}
use Rattle.ccan_chip.specs.declared.map.Map.TheVariants.{Narrow}
use Rattle.ccan_chip.specs.declared.register.Register.{Register}
use Rattle.ccan_chip.specs.declared.register.Register.TheVariants as register
use Rattle.ccan_registers.specs.declared.byte.Byte.{Byte}
use Rattle.ccan_registers.specs.declared.byte.Byte.TheVariants.{Lower, Upper}
use Rattle.ccan_registers.specs.Bytes.{byte_in, has_reset, start_of}
use Rattle.ccan_registers.specs.ChipSteps.{made_or_busy}
use Rattle.ccan_registers.specs.Dcan.{asks_for_reset}
use Rattle.ccan_registers.specs.InterfaceSet.{zero_set}
use Rattle.ccan_registers.specs.Register.{both_written, change_by, is_refused, read_of}
use Rattle.ccan_c.specs.declared.offer.Offer.{Offer}
use Rattle.ccan_c.specs.Bus.{enabling, is_on, looping, starting, testing}
use Rattle.ccan_c.specs.Codes.{done}
use Rattle.ccan_c.specs.Host.{flag_numbered, number_of}
use Rattle.ccan_c.specs.HostCall.{code_of_access}
use Rattle.ccan_c.specs.Round.{fault_numbered, is_frame, sending_of}
use Rattle.ccan_c.specs.Settings.{is_from_one_to}
use Rattle.ccan_calls.specs.Answer.{Nothing, Number, end_of, word_given}
use Rattle.ccan_calls.specs.BusAsk.{BusAsk, load, status, control, init, loop_back, recessive, interrupt, flags, counters, round, read8, write8, read16, write16, read32, write32, line, tell, heed}
use Rattle.ccan_calls.specs.BusCallProcess.{asked_round, bus_process, coded, counts, load_end, loops_back, offered_round, recessive_bits, recessive_end, round_end, status_read, writes_by}
use Rattle.ccan_calls.specs.BusRegisters.{bus_access_at, bus_resets_in_init, bus_writes, bus_writes_at, bus_writes_byte, bus_writes_byte_of, bus_writes_control_word, bus_writes_halves, bus_writes_lower, bus_writes_timing, bus_writes_upper, bus_writes_word, refuses_interface}
use Rattle.ccan_calls.specs.LoadProcess.{LoadEnd, loads}
use Rattle.ccan_calls.specs.Offsets.{are_halves, register_at}
use Rattle.ccan_calls.specs.Parts.{line_pulled}
use Rattle.ccan_calls.specs.Process.{Process, ending}
use Rattle.ccan_calls.specs.ReadProcess.{reads_at, reads_byte}
use Rattle.ccan_calls.specs.RoundProcess.{are_senders, rounds}
use Rattle.ccan_calls.specs.WordProcess.{reads_word}
use Rattle.ccan_calls.specs.WriteProcess.{Written, change_controller, resets}
use Rattle.ccan_calls.proofs.HostCallsReport.{CodeIsBusy, access_busy, read_reports}
use Rattle.ccan_calls.proofs.LoadsReport.{LoadsBusy, loads_report}
use Rattle.ccan_calls.proofs.RegistersReport.{IsBusy, IsBusyOff, controller_reports, flags_report, given_up, line_reports, reset_reports, unless_bad, unless_reports, value_reports}
use Rattle.ccan_calls.proofs.Reporting.{EndsBad, IsGivenUp, Reports, change_reports, end_reports, found_answered, if_reports, option_reports, then_reports}
use Rattle.ccan_calls.proofs.RoundsReport.{RoundCodeIsBusy, rounds_report}
use Rattle.ccan_calls.proofs.WordsReport.{both_busy, reads_at_report, reads_byte_report, reads_word_report, status_given_up}

-- ---- writes of registers

interface_reports : (r : Register) → Reports IsBusy (refuses_interface r)
interface_reports (register.Request interface) = tt
interface_reports (register.Buffer interface reg) = tt
interface_reports register.Control = tt
interface_reports register.ControlUpper = tt
interface_reports register.Status = tt
interface_reports register.ErrorCounter = tt
interface_reports register.BitTiming = tt
interface_reports register.Interrupt = tt
interface_reports register.Test = tt
interface_reports register.Extension = tt
interface_reports (register.Flags flag place) = tt

module _ (terms : Terms) (map : Map) where
  software_reports : Reports IsBusy (resets terms ResetDcan)
  software_reports = reset_reports terms ResetDcan

  write_reports : (r : Register) (value : ℕ) → Reports IsBusy (bus_writes terms map r value)
  write_reports r value =
      if_reports IsBusy (asks_for_reset map r value) _ _ software_reports
      (option_reports IsBusy change_controller (change_by map r value) _ controller_reports (interface_reports r))

  timing_reports : (byte : Byte) (value : ℕ) → Reports IsBusy (bus_writes_timing terms map byte value)
  timing_reports byte value = λ found. (inl (found_answered found), write_reports register.BitTiming _)

  init_reports : Reports IsBusy (bus_resets_in_init terms)
  init_reports = λ found. (inl (found_answered found), if_reports IsBusy found.control.init _ _ software_reports tt)

  lower_reports : (r : Register) (value : ℕ) → Reports IsBusy (bus_writes_lower terms map r value)
  lower_reports register.ControlUpper value = tt
  lower_reports register.BitTiming value = timing_reports Lower value
  lower_reports (register.Buffer interface reg) value = tt
  lower_reports (register.Request interface) value = write_reports (register.Request interface) value
  lower_reports register.Control value = write_reports register.Control value
  lower_reports register.Status value = write_reports register.Status value
  lower_reports register.ErrorCounter value = write_reports register.ErrorCounter value
  lower_reports register.Interrupt value = write_reports register.Interrupt value
  lower_reports register.Test value = write_reports register.Test value
  lower_reports register.Extension value = write_reports register.Extension value
  lower_reports (register.Flags flag place) value = write_reports (register.Flags flag place) value

  upper_reports : (r : Register) (value : ℕ) → Reports IsBusy (bus_writes_upper terms map r value)
  upper_reports register.Control value = if_reports IsBusy (has_reset map value) _ _ init_reports tt
  upper_reports register.ControlUpper value = write_reports register.ControlUpper _
  upper_reports register.BitTiming value = timing_reports Upper value
  upper_reports (register.Request interface) value = tt
  upper_reports (register.Buffer interface reg) value = tt
  upper_reports register.Status value = tt
  upper_reports register.ErrorCounter value = tt
  upper_reports register.Interrupt value = tt
  upper_reports register.Test value = tt
  upper_reports register.Extension value = tt
  upper_reports (register.Flags flag place) value = tt

  byte_reports : (byte : Byte) (r : Register) (value : ℕ) → Reports IsBusy (bus_writes_byte_of byte terms map r value)
  byte_reports Lower r value = lower_reports r value
  byte_reports Upper r value = upper_reports r value

  some_reports : (process : Process Written) → Reports IsBusy process → Reports IsBusyOff (ending process (λ told. Some told))
  some_reports process reports = end_reports IsBusy IsBusyOff (λ told. Some told) process (λ told is. is) reports

  access_reports : (offset : ℕ) (access : Register → Process Written) → ((r : Register) → Reports IsBusy (access r))
      → Reports IsBusyOff (bus_access_at terms map offset access)
  access_reports offset access each =
      option_reports IsBusyOff _ (register_at map terms.profile offset) _ (λ r. some_reports (access r) (each r)) tt

  at_reports : (offset value : ℕ) → Reports IsBusyOff (bus_writes_at terms map offset value)
  at_reports offset value = access_reports offset (λ r. bus_writes terms map r value) (λ r. write_reports r value)

  byte_at_reports : (offset value : ℕ) → Reports IsBusyOff (bus_writes_byte terms map offset value)
  byte_at_reports offset value =
      access_reports (start_of offset) (λ r. bus_writes_byte_of (byte_in offset) terms map r value)
      (λ r. byte_reports (byte_in offset) r value)

  -- ---- of words

  abbrev after_high : ℕ → ℕ → Option Written → Process (Option Written)
  after_high offset value high =
      if is_refused high then Ended high
      else ending (bus_writes_at terms map offset (value % 2 ^ 16)) (λ low. both_written high low)

  high_busy : (offset value : ℕ) (high : Option Written) → IsBusyOff high → EndsBad IsBusyOff (after_high offset value high)
  high_busy offset value None is = absurd is
  high_busy offset value (Some (Ok so)) is = absurd is
  high_busy offset value (Some (Err why)) is = is

  low_reports : (offset value : ℕ) (high : Option Written) → Reports IsBusyOff
      (ending (bus_writes_at terms map offset (value % 2 ^ 16)) (λ low. both_written high low))
  low_reports offset value high =
      end_reports IsBusyOff IsBusyOff (λ low. both_written high low) (bus_writes_at terms map offset (value % 2 ^ 16))
      (both_busy high) (at_reports offset (value % 2 ^ 16))

  after_high_reports : (offset value : ℕ) (high : Option Written) → Reports IsBusyOff (after_high offset value high)
  after_high_reports offset value None = low_reports offset value None
  after_high_reports offset value (Some (Ok so)) = low_reports offset value (Some (Ok so))
  after_high_reports offset value (Some (Err why)) = tt

  halves_report : (offset value : ℕ) → Reports IsBusyOff (bus_writes_halves terms map offset value)
  halves_report offset value =
      then_reports IsBusyOff IsBusyOff (after_high offset value) (bus_writes_at terms map (offset + 2) (value / 2 ^ 16))
      (high_busy offset value) (after_high_reports offset value) (at_reports (offset + 2) (value / 2 ^ 16))

  control_word_reports : (value : ℕ) → Reports IsBusy (bus_writes_control_word terms map value)
  control_word_reports value =
      if_reports IsBusy (asks_for_reset map register.Control (value % 2 ^ 16)) _ _ software_reports
      (controller_reports (WriteControl (control_in value)))

  word_reports : (offset value : ℕ) → Reports IsBusyOff (bus_writes_word terms map offset value)
  word_reports offset value =
      if_reports IsBusyOff (offset % 4 == 0) _ _
      (if_reports IsBusyOff (are_halves map terms.profile offset register.BitTiming register.Extension) _ _
      (some_reports (change_controller (WriteTiming (value % 2 ^ 16) (value / 2 ^ 16)))
      (controller_reports (WriteTiming (value % 2 ^ 16) (value / 2 ^ 16))))
      (if_reports IsBusyOff (are_halves map terms.profile offset register.Control register.ControlUpper) _ _
      (some_reports (bus_writes_control_word terms map value) (control_word_reports value)) (halves_report offset value))) tt

-- ---- calls

-- the code of a load
load_code : (told : LoadEnd) → LoadsBusy told → CodeIsBusy (load_end told)
load_code (load_answer.Busy object, past) is = inl refl
load_code (load_answer.Spent object, past) is = inr refl
load_code (told, past) is = absurd is

-- two changes, one after the other
loop_back_reports : (on : Bool) → Reports IsBusy (loops_back on)
loop_back_reports true =
    λ outcome. (
      change_reports (testing true) outcome
          (λ lost. unless_bad (made_or_busy outcome) (change_controller looping) (given_up outcome lost)),
      unless_reports (made_or_busy outcome) (change_controller looping) (controller_reports looping),
    )
loop_back_reports false = controller_reports (testing false)

module _ (past : BusPast) where
  recessive_code : (groups : ℕ) (outcome : Result ControllerChanged ControllerBusy) → IsGivenUp outcome
      → CodeIsBusy (recessive_end groups past outcome)
  recessive_code groups (Ok made) lost = absurd lost
  recessive_code groups (Err busy) lost = inl refl

  bits_report : (groups : ℕ) → Reports IsGivenUp (recessive_bits groups)
  bits_report groups = λ outcome. (change_reports (Recessive groups) outcome (λ lost. lost), tt)

  coded_reports : (process : Process Written) → Reports IsBusy process → Reports CodeIsBusy (coded process past)
  coded_reports process reports =
      end_reports IsBusy CodeIsBusy (λ told. end_of (code_of_access (Some told)) Nothing past) process
      (λ told. access_busy (Some told)) reports

  by_reports : (process : Process (Option Written)) → Reports IsBusyOff process → Reports CodeIsBusy (writes_by process past)
  by_reports process reports =
      end_reports IsBusyOff CodeIsBusy (λ told. end_of (code_of_access told) Nothing past) process access_busy reports

  counts_report : (node : ℕ) → Reports CodeIsBusy (counts node past)
  counts_report node = if_reports CodeIsBusy (node == 0) _ _ (λ found. (inl (found_answered found), tt)) tt

  module _ (profile : Profile) (nodes : ℕ) where
    offered_reports : (sends : List (ℕ × Frame)) (fault : Fault)
        → Reports CodeIsBusy (offered_round profile nodes sends fault past)
    offered_reports sends fault =
        if_reports CodeIsBusy (are_senders nodes sends) _ _
        (λ by. (
          inl tt,
          end_reports RoundCodeIsBusy CodeIsBusy round_end (rounds profile by past) (λ told is. is)
              (rounds_report profile by past),
        )) tt

    asked_reports : (offers : List Offer) (number : ℕ) → Reports CodeIsBusy (asked_round profile nodes offers number past)
    asked_reports offers number =
        if_reports CodeIsBusy (nat_le (length offers) most_frames) _ _
        (if_reports CodeIsBusy (list_all is_frame offers) _ _
        (option_reports CodeIsBusy _ (fault_numbered number) _ (offered_reports (map sending_of offers)) tt) tt) tt

module _ (terms : Terms) (layout : Map) (nodes : ℕ) (past : BusPast) where
  -- each call
  pub bus_reports : (ask : BusAsk) → Reports CodeIsBusy (bus_process terms layout nodes ask past)
  bus_reports load =
      end_reports LoadsBusy CodeIsBusy load_end (loads terms.profile past) load_code (loads_report terms.profile past)
  bus_reports status =
      end_reports IsBusy CodeIsBusy (λ told. end_of (code_of_access (Some told)) (word_given (Some told)) past) status_read
      (λ told. access_busy (Some told))
      (λ outcome. (change_reports (read_of Narrow) outcome (status_given_up Narrow outcome), tt))
  bus_reports (control sie eie) =
      coded_reports past (change_controller (enabling (is_on sie) (is_on eie)))
      (controller_reports (enabling (is_on sie) (is_on eie)))
  bus_reports init = coded_reports past (change_controller starting) (controller_reports starting)
  bus_reports (loop_back on) = coded_reports past (loops_back (is_on on)) (loop_back_reports (is_on on))
  bus_reports (recessive groups) =
      if_reports CodeIsBusy (is_from_one_to most_groups groups) _ _
      (end_reports IsGivenUp CodeIsBusy (recessive_end groups past) (recessive_bits groups) (recessive_code past groups)
      (bits_report past groups)) tt
  bus_reports interrupt = value_reports CodeIsBusy (λ value. end_of done (Number value) past)
  bus_reports (flags number) =
      option_reports CodeIsBusy _ (flag_numbered number) _
      (λ flag. flags_report CodeIsBusy flag (λ word. end_of done (Number word) past)) tt
  bus_reports (counters node) = if_reports CodeIsBusy (nat_le node nodes) _ _ (counts_report past node) tt
  bus_reports (round offers number) = asked_reports past terms.profile nodes offers number
  bus_reports (read8 offset) =
      read_reports past (reads_byte terms layout offset zero_set) (reads_byte_report terms layout zero_set offset)
  bus_reports (write8 offset value) =
      by_reports past (bus_writes_byte terms layout offset value) (byte_at_reports terms layout offset value)
  bus_reports (read16 offset) =
      read_reports past (reads_at terms layout offset zero_set) (reads_at_report terms layout zero_set offset)
  bus_reports (write16 offset value) =
      by_reports past (bus_writes_at terms layout offset value) (at_reports terms layout offset value)
  bus_reports (read32 offset) =
      read_reports past (reads_word terms layout offset zero_set) (reads_word_report terms layout zero_set offset)
  bus_reports (write32 offset value) =
      by_reports past (bus_writes_word terms layout offset value) (word_reports terms layout offset value)
  bus_reports line =
      end_reports (λ pulled. ⊥) CodeIsBusy (λ pulled. end_of done (Number (number_of pulled)) past) line_pulled
      (λ pulled is. absurd is) (line_reports (λ pulled. ⊥))
  bus_reports tell = λ seen. (inl tt, tt)
  bus_reports (heed note) = option_reports CodeIsBusy _ note _ (λ told. λ done_so. (inl tt, tt)) tt
