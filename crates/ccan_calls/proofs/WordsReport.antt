-- Reads of registers, and accesses to words of 32 bits: if a step was refused, they end as busy or spent.
use Rattle.std.proofs.Common.{ℕ, ◌+◌, ◌/◌, ◌%◌, ◌^◌, ◌==◌, Option, Some, None, Result, Ok, Err, inl, if◌then◌else◌}
use Rattle.ccan_confine.specs.declared.controller.Controller.{Controller}
use Rattle.ccan_confine.specs.declared.controller_change.ControllerChange.TheVariants.{WriteControl, WriteTiming}
use Rattle.ccan_confine.specs.RegisterWords.{control_in, error_counter_word}
use Rattle.ccan_ram.specs.declared.port.PortName.{PortName}
use Rattle.ccan_ram.specs.Terms.{Terms}
use Rattle.ccan_chip.specs.declared.map.Map.{Map}
use Rattle.ccan_chip.specs.declared.register.Register.{Register}
use Rattle.ccan_chip.specs.declared.register.Register.TheVariants as register
use Rattle.ccan_process.specs.Process.{Ended}
use Rattle.ccan_endless.specs.declared.controller_changed.ControllerBusy.{ControllerBusy}
use Rattle.ccan_endless.specs.declared.controller_changed.ControllerChanged.{ControllerChanged}
use Rattle.ccan_registers.specs.declared.byte.Byte.{Byte}
use Rattle.ccan_registers.specs.declared.interface_set.InterfaceSet.{InterfaceSet}
use Rattle.ccan_registers.specs.Bytes.{byte_in, byte_told, start_of}
use Rattle.ccan_registers.specs.Dcan.{asks_for_reset, control_shown, upper_shown}
use Rattle.ccan_registers.specs.Register.{both_written, is_refused, joined, read_of, status_told, test_shown}
use Rattle.ccan_calls.specs.Offsets.{FlagWord, are_halves, flag_word_at, register_at}
use Rattle.ccan_calls.specs.Process.{Process, ending}
use Rattle.ccan_calls.specs.ReadProcess.{Word, reads, reads_at, reads_byte, shows}
use Rattle.ccan_calls.specs.WordProcess.{OffEnd, control_word_shown, reads_flags, reads_halves, reads_other_word, reads_word, shows_word, some_written, timing_word, writes_control_word, writes_halves, writes_word}
use Rattle.ccan_calls.specs.WriteProcess.{WriteProcess, Written, change_controller, keeping, writes_at}
use Rattle.ccan_calls.proofs.RegistersReport.{EndsBusy, EndsBusyOff, IsBusy, IsBusyOff, change_kept, software_reports, value_reports, writes_at_report}
use Rattle.ccan_calls.proofs.Reporting.{EndsBad, IsGivenUp, Reports, change_reports, end_reports, found_answered, if_reports, option_reports, picture_answered, then_reports}

-- ---- reads

shows_reports : (word : Controller → ℕ) → Reports IsBusy (shows word)
shows_reports word = λ found. (inl (found_answered found), tt)

-- a read of Status that was given up
pub status_given_up : (map : Map) (outcome : Result ControllerChanged ControllerBusy) → IsGivenUp outcome
    → IsBusy (status_told map outcome)
status_given_up map (Ok made) lost = absurd lost
status_given_up map (Err busy) lost = tt

reads_report : (port : PortName) (map : Map) (r : Register) (own : InterfaceSet) → Reports IsBusy (reads port map r own)
reads_report port map register.Control own = shows_reports (λ c. control_shown map c.control)
reads_report port map register.ControlUpper own = shows_reports (λ c. upper_shown map c.control)
reads_report port map register.Status own =
    λ outcome. (change_reports (read_of map) outcome (status_given_up map outcome), tt)
reads_report port map register.ErrorCounter own = shows_reports error_counter_word
reads_report port map register.BitTiming own = shows_reports (λ c. c.timing.register)
reads_report port map register.Interrupt own = value_reports IsBusy (λ value. Ok value)
reads_report port map register.Test own = shows_reports (λ c. test_shown c.test)
reads_report port map register.Extension own = shows_reports (λ c. c.timing.extension)
reads_report port map (register.Request interface) own = tt
reads_report port map (register.Buffer interface reg) own = tt
reads_report port map (register.Flags flag place) own = λ found. (inl (picture_answered found), tt)

-- the byte of a word
byte_busy : (byte : Byte) (told : Option Word) → IsBusyOff told → IsBusyOff (byte_told byte told)
byte_busy byte None is = absurd is
byte_busy byte (Some (Ok word)) is = absurd is
byte_busy byte (Some (Err why)) is = is

-- the halves of a word
none_joined : (high : Option Word) → IsBusyOff high → IsBusyOff (joined None high)
none_joined None is = absurd is
none_joined (Some (Ok word)) is = absurd is
none_joined (Some (Err why)) is = is

some_joined : (low : ℕ) (high : Option Word) → IsBusyOff high → IsBusyOff (joined (Some (Ok low)) high)
some_joined low None is = absurd is
some_joined low (Some (Ok word)) is = absurd is
some_joined low (Some (Err why)) is = is

pub both_busy : (high low : Option Written) → IsBusyOff low → IsBusyOff (both_written high low)
both_busy high None is = absurd is
both_busy high (Some told) is = is

module _ (terms : Terms) (map : Map) (own : InterfaceSet) where
  pub reads_at_report : (offset : ℕ) → Reports IsBusyOff (reads_at terms map offset own)
  reads_at_report offset =
      option_reports IsBusyOff _ (register_at map terms.profile offset) _
      (λ r. end_reports IsBusy IsBusyOff (λ word. Some word) (reads terms.port map r own) (λ word is. is)
      (reads_report terms.port map r own)) tt

  pub reads_byte_report : (offset : ℕ) → Reports IsBusyOff (reads_byte terms map offset own)
  reads_byte_report offset =
      end_reports IsBusyOff IsBusyOff (byte_told (byte_in offset)) (reads_at terms map (start_of offset) own)
      (byte_busy (byte_in offset)) (reads_at_report (start_of offset))

  -- ---- reads of words

  shows_word_reports : (word : Controller → ℕ) → Reports IsBusyOff (shows_word word)
  shows_word_reports word = λ found. (inl (found_answered found), tt)

  flag_word_reports : (halves : FlagWord) → Reports IsBusyOff (reads_flags halves)
  flag_word_reports (flag, low, high) = λ found. (inl (picture_answered found), tt)

  abbrev after_low : ℕ → Option Word → Process (Option Word)
  after_low offset low =
      if is_refused low then Ended low else ending (reads_at terms map (offset + 2) own) (λ high. joined low high)

  low_busy : (offset : ℕ) (low : Option Word) → IsBusyOff low → EndsBad IsBusyOff (after_low offset low)
  low_busy offset None is = absurd is
  low_busy offset (Some (Ok word)) is = absurd is
  low_busy offset (Some (Err why)) is = is

  high_reports : (offset : ℕ) (low : Option Word) → Reports IsBusyOff (after_low offset low)
  high_reports offset None =
      end_reports IsBusyOff IsBusyOff (λ high. joined None high) (reads_at terms map (offset + 2) own) none_joined
      (reads_at_report (offset + 2))
  high_reports offset (Some (Ok low)) =
      end_reports IsBusyOff IsBusyOff (λ high. joined (Some (Ok low)) high) (reads_at terms map (offset + 2) own)
      (some_joined low) (reads_at_report (offset + 2))
  high_reports offset (Some (Err why)) = tt

  halves_report : (offset : ℕ) → Reports IsBusyOff (reads_halves terms map offset own)
  halves_report offset =
      then_reports IsBusyOff IsBusyOff (after_low offset) (reads_at terms map offset own) (low_busy offset)
      (high_reports offset) (reads_at_report offset)

  other_word_reports : (offset : ℕ) → Reports IsBusyOff (reads_other_word terms map offset own)
  other_word_reports offset =
      if_reports IsBusyOff (are_halves map terms.profile offset register.BitTiming register.Extension) _ _
      (shows_word_reports timing_word)
      (if_reports IsBusyOff (are_halves map terms.profile offset register.Control register.ControlUpper) _ _
      (shows_word_reports (control_word_shown map)) (halves_report offset))

  pub reads_word_report : (offset : ℕ) → Reports IsBusyOff (reads_word terms map offset own)
  reads_word_report offset =
      if_reports IsBusyOff (offset % 4 == 0) _ _
      (option_reports IsBusyOff reads_flags (flag_word_at map terms.profile offset) _ flag_word_reports
      (other_word_reports offset)) tt

-- ---- writes of words

module _ (terms : Terms) (map : Map) where
  abbrev after_high : ℕ → ℕ → OffEnd → Process OffEnd
  after_high offset value high =
      if is_refused high.0 then Ended high
      else ending (writes_at terms map offset (value % 2 ^ 16) high.1) (λ low. (both_written high.0 low.0, low.1))

  high_busy : (offset value : ℕ) (high : OffEnd) → EndsBusyOff high → EndsBad EndsBusyOff (after_high offset value high)
  high_busy offset value (None, left) is = absurd is
  high_busy offset value (Some (Ok done), left) is = absurd is
  high_busy offset value (Some (Err why), left) is = is

  low_reports : (offset value : ℕ) (high : Option Written) (left : InterfaceSet) → Reports EndsBusyOff
      (ending (writes_at terms map offset (value % 2 ^ 16) left) (λ low. (both_written high low.0, low.1)))
  low_reports offset value high left =
      end_reports EndsBusyOff EndsBusyOff (λ low. (both_written high low.0, low.1))
      (writes_at terms map offset (value % 2 ^ 16) left) (λ low is. both_busy high low.0 is)
      (writes_at_report terms left map offset (value % 2 ^ 16))

  after_high_reports : (offset value : ℕ) (high : OffEnd)
      → Reports EndsBusyOff (after_high offset value high)
  after_high_reports offset value (None, left) = low_reports offset value None left
  after_high_reports offset value (Some (Ok done), left) = low_reports offset value (Some (Ok done)) left
  after_high_reports offset value (Some (Err why), left) = tt

  module _ (own : InterfaceSet) where
    writes_halves_report : (offset value : ℕ) → Reports EndsBusyOff (writes_halves terms map offset value own)
    writes_halves_report offset value =
        then_reports EndsBusyOff EndsBusyOff (after_high offset value)
        (writes_at terms map (offset + 2) (value / 2 ^ 16) own) (high_busy offset value)
        (after_high_reports offset value) (writes_at_report terms own map (offset + 2) (value / 2 ^ 16))

    some_reports : (process : WriteProcess) → Reports EndsBusy process → Reports EndsBusyOff (some_written process)
    some_reports process reports =
        end_reports EndsBusy EndsBusyOff (λ end. (Some end.0, end.1)) process (λ end is. is) reports

    control_word_reports : (value : ℕ) → Reports EndsBusy (writes_control_word terms map value own)
    control_word_reports value =
        if_reports EndsBusy (asks_for_reset map register.Control (value % 2 ^ 16)) _ _ (software_reports terms own map)
        (change_kept terms own map (WriteControl (control_in value)))

    pub writes_word_report : (offset value : ℕ) → Reports EndsBusyOff (writes_word terms map offset value own)
    writes_word_report offset value =
        if_reports EndsBusyOff (offset % 4 == 0) _ _
        (if_reports EndsBusyOff (are_halves map terms.profile offset register.BitTiming register.Extension) _ _
        (some_reports (keeping own (change_controller (WriteTiming (value % 2 ^ 16) (value / 2 ^ 16))))
        (change_kept terms own map (WriteTiming (value % 2 ^ 16) (value / 2 ^ 16))))
        (if_reports EndsBusyOff (are_halves map terms.profile offset register.Control register.ControlUpper) _ _
        (some_reports (writes_control_word terms map value own) (control_word_reports value))
        (writes_halves_report offset value))) tt
