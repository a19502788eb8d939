-- Reads and writes of words of 32 bits as processes. Source: this project's own, after what they come to (C_CAN User's Manual 1.2,
-- section 3, Programmer's Model).
use Rattle.std.specs.Prelude.{ℕ, ◌+◌, ◌*◌, ◌/◌, ◌%◌, ◌^◌, ◌==◌, Option, Some, None, Ok, if◌then◌else◌}
use Rattle.std.specs.Option.{option_map_or}
use Rattle.ccan_object.specs.Bits.{part}
use Rattle.ccan_confine.specs.declared.controller.Controller.{Controller}
use Rattle.ccan_confine.specs.declared.controller_change.ControllerChange.TheVariants.{ResetDcan, WriteControl, WriteTiming}
use Rattle.ccan_confine.specs.RegisterWords.{control_in}
use Rattle.ccan_ram.specs.Terms.{Terms}
use Rattle.ccan_chip.specs.declared.map.Map.{Map}
use Rattle.ccan_chip.specs.declared.register.Register.TheVariants.{BitTiming, Control, ControlUpper, Extension}
use Rattle.ccan_chip.specs.FlagPart.{index_of}
use Rattle.ccan_process.specs.Process.{Ended, followed_by}
use Rattle.ccan_registers.specs.declared.interface_set.InterfaceSet.{InterfaceSet}
use Rattle.ccan_registers.specs.Dcan.{asks_for_reset, control_shown, upper_shown}
use Rattle.ccan_registers.specs.Register.{both_written, is_refused, joined}
use Rattle.ccan_calls.specs.Offsets.{FlagWord, are_halves, flag_word_at}
use Rattle.ccan_calls.specs.Parts.{flag_shown}
use Rattle.ccan_calls.specs.Process.{Process, ending}
use Rattle.ccan_calls.specs.ReadProcess.{Word, reads_at, shows}
use Rattle.ccan_calls.specs.WriteProcess.{WriteProcess, Written, change_controller, keeping, resets, writes_at}

-- ---- a read

-- the objects of both halves, from a word of the flag
abbrev pub flag_word_shown : FlagWord → ℕ → ℕ
flag_word_shown (flag, low, high) word =
    part word (16 * index_of high) 16 * 2 ^ 16 + part word (16 * index_of low) 16

-- both halves are registers of a flag: all their objects at one moment
abbrev pub reads_flags : FlagWord → Process (Option Word)
reads_flags (flag, low, high) = ending (flag_shown flag) (λ word. Some (Ok (flag_word_shown (flag, low, high) word)))

-- one look at the controller
abbrev pub shows_word : (Controller → ℕ) → Process (Option Word)
shows_word word = ending (shows word) (λ told. Some told)

abbrev pub timing_word : Controller → ℕ
timing_word found = found.timing.extension * 2 ^ 16 + found.timing.register

abbrev pub control_word_shown : Map → Controller → ℕ
control_word_shown map found = upper_shown map found.control * 2 ^ 16 + control_shown map found.control

-- the halves one after the other, the lower one first
abbrev pub reads_halves : Terms → Map → ℕ → InterfaceSet → Process (Option Word)
reads_halves terms map offset own =
    followed_by (reads_at terms map offset own) (λ low. if is_refused low then Ended low
    else ending (reads_at terms map (offset + 2) own) (λ high. joined low high))

-- the word of the controller whose halves are at an offset, or its halves
abbrev pub reads_other_word : Terms → Map → ℕ → InterfaceSet → Process (Option Word)
reads_other_word terms map offset own =
    if are_halves map terms.profile offset BitTiming Extension then shows_word timing_word
    else (if are_halves map terms.profile offset Control ControlUpper then shows_word (control_word_shown map)
    else reads_halves terms map offset own)

abbrev pub reads_word : Terms → Map → ℕ → InterfaceSet → Process (Option Word)
reads_word terms map offset own =
    if offset % 4 == 0
    then option_map_or reads_flags (flag_word_at map terms.profile offset) (reads_other_word terms map offset own)
    else Ended None

-- ---- a write

abbrev pub OffEnd : Type 0
OffEnd = Option Written × InterfaceSet

-- a register that is there is written
abbrev pub some_written : WriteProcess → Process OffEnd
some_written process = ending process (λ end. (Some end.0, end.1))

-- the halves one after the other, the upper one first
abbrev pub writes_halves : Terms → Map → ℕ → ℕ → InterfaceSet → Process OffEnd
writes_halves terms map offset value own =
    followed_by (writes_at terms map (offset + 2) (value / 2 ^ 16) own) (λ high. if is_refused high.0 then Ended high
    else ending (writes_at terms map offset (value % 2 ^ 16) high.1) (λ low. (both_written high.0 low.0, low.1)))

-- CAN Control as a word
abbrev pub writes_control_word : Terms → Map → ℕ → InterfaceSet → WriteProcess
writes_control_word terms map value own =
    if asks_for_reset map Control (value % 2 ^ 16) then keeping own (resets terms ResetDcan)
    else keeping own (change_controller (WriteControl (control_in value)))

abbrev pub writes_word : Terms → Map → ℕ → ℕ → InterfaceSet → Process OffEnd
writes_word terms map offset value own =
    if offset % 4 == 0
    then (if are_halves map terms.profile offset BitTiming Extension
    then some_written (keeping own (change_controller (WriteTiming (value % 2 ^ 16) (value / 2 ^ 16))))
    else (if are_halves map terms.profile offset Control ControlUpper
    then some_written (writes_control_word terms map value own)
    else writes_halves terms map offset value own))
    else Ended (None, own)
