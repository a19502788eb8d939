-- Each call on the handle of a host as a process. Source: this project's own, after what the calls stand for.
use Rattle.std.specs.Prelude.{ℕ, false, Option, Some, None, if◌then◌else◌}
use Rattle.std.specs.Option.{option_map_or}
use Rattle.ccan_object.specs.Interface.{set_register, shown}
use Rattle.ccan_object.specs.Number.{requested}
use Rattle.ccan_ram.specs.declared.flag.Flag.{Flag}
use Rattle.ccan_ram.specs.Terms.{Terms}
use Rattle.ccan_process.specs.Process.{Does, Ended}
use Rattle.ccan_line.specs.Limits.{most_turns}
use Rattle.ccan_endless.specs.Chip.{ChipHistory}
use Rattle.ccan_chip.specs.declared.map.Map.{Map}
use Rattle.ccan_registers.specs.declared.interface_set.InterfaceSet.{InterfaceSet}
use Rattle.ccan_registers.specs.Clearing.{zeros}
use Rattle.ccan_c.specs.Answer.{code_of}
use Rattle.ccan_c.specs.Codes.{done, no_memory, register_range, object_range, flag_range, turns_range, untold}
use Rattle.ccan_c.specs.Host.{register_numbered, flag_numbered, is_object, number_of}
use Rattle.ccan_c.specs.HostCall.{code_of_access}
use Rattle.ccan_c.specs.Record.{c_record}
use Rattle.ccan_c.specs.Settings.{is_from_one_to}
use Rattle.ccan_calls.specs.Answer.{CallEnd, CallProcess, Noted, Nothing, Number, Shown, end_of, refuses, word_given}
use Rattle.ccan_calls.specs.HostAsk.{HostAsk, set, get, request, flags, interrupt, peek, until, read8, write8, read16, write16, read32, write32, line, clear, tell, heed}
use Rattle.ccan_calls.specs.Parts.{flag_shown, interrupt_value, line_pulled, look, transfer, until_shown}
use Rattle.ccan_calls.specs.Process.{Heeds, Notes, Process, ending}
use Rattle.ccan_calls.specs.ReadProcess.{Word, reads_at, reads_byte}
use Rattle.ccan_calls.specs.WordProcess.{reads_word, writes_word}
use Rattle.ccan_calls.specs.WriteProcess.{Written, change_all, writes_at, writes_byte}

abbrev pub HostEnd : Type 0
HostEnd = CallEnd InterfaceSet

abbrev pub HostProcess : Type 0
HostProcess = CallProcess InterfaceSet

-- looks for a flag, at most this many
abbrev pub waits : ℕ → ℕ → InterfaceSet → Flag → HostProcess
waits object turns own flag =
    if is_from_one_to most_turns turns
    then ending (until_shown object flag turns) (λ found. end_of done (Number (number_of found)) own)
    else refuses turns_range own

-- a read at an offset
abbrev pub reads_off : {State : Type 0} → Process (Option Word) → State → CallProcess State
reads_off process own = ending process (λ told. end_of (code_of_access told) (word_given told) own)

-- a write at an offset
abbrev pub writes_off : Process (Option Written × InterfaceSet) → HostProcess
writes_off process = ending process (λ end. end_of (code_of_access end.0) Nothing end.1)

-- ---- notes

abbrev pub noted : Process (Option ChipHistory)
noted = Does Notes (λ seen. Ended seen)

-- a note, or memory has run out
abbrev pub note_end : {State : Type 0} → State → Option ChipHistory → CallEnd State
note_end own None = end_of no_memory Nothing own
note_end own (Some seen) = end_of done (Noted seen) own

abbrev pub heeded : ChipHistory → Process (Unit {0})
heeded told = Does (Heeds told) (λ done_so. Ended done_so)

-- ---- all calls

abbrev pub host_process : Terms → Map → HostAsk → InterfaceSet → HostProcess
host_process terms map (set number value) own =
    option_map_or (λ reg. Ended (end_of done Nothing (record own { registers = set_register reg value own.registers })))
    (register_numbered number) (refuses register_range own)
host_process terms map (get number) own =
    option_map_or (λ reg. Ended (end_of done (Number (shown reg own.registers)) own)) (register_numbered number)
    (refuses register_range own)
host_process terms map (request number) own =
    ending (transfer (requested terms.profile number) own) (λ end. end_of (code_of end.0) Nothing end.1)
host_process terms map (flags number) own =
    option_map_or (λ flag. ending (flag_shown flag) (λ word. end_of done (Number word) own)) (flag_numbered number)
    (refuses flag_range own)
host_process terms map interrupt own = ending (interrupt_value false) (λ value. end_of done (Number value) own)
host_process terms map (peek object) own =
    if is_object terms.profile object then ending (look object) (λ found. end_of done (Shown (c_record found)) own)
    else refuses object_range own
host_process terms map (until object number turns) own =
    if is_object terms.profile object
    then option_map_or (waits object turns own) (flag_numbered number) (refuses flag_range own)
    else refuses object_range own
host_process terms map (read8 offset) own = reads_off (reads_byte terms map offset own) own
host_process terms map (write8 offset value) own = writes_off (writes_byte terms map offset value own)
host_process terms map (read16 offset) own = reads_off (reads_at terms map offset own) own
host_process terms map (write16 offset value) own = writes_off (writes_at terms map offset value own)
host_process terms map (read32 offset) own = reads_off (reads_word terms map offset own) own
host_process terms map (write32 offset value) own = writes_off (writes_word terms map offset value own)
host_process terms map line own = ending line_pulled (λ pulled. end_of done (Number (number_of pulled)) own)
host_process terms map clear own =
    ending (change_all terms zeros) (λ told. end_of (code_of_access (Some told)) Nothing own)
host_process terms map tell own = ending noted (note_end own)
host_process terms map (heed note) own =
    option_map_or (λ told. ending (heeded told.whole) (λ done_so. end_of done Nothing own)) note (refuses untold own)
