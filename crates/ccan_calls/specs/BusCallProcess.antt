-- Calls on the bus's handle as processes. Source: this project's own, after what the calls stand for.
use Rattle.std.specs.Prelude.{ℕ, ◌==◌, Bool, true, false, List, length, map, Option, Some, Result, Ok, Err, nat_le, if◌then◌else◌}
use Rattle.std.specs.List.{list_all}
use Rattle.std.specs.Option.{option_map_or}
use Rattle.ccan_object.specs.declared.profile.Profile.{Profile}
use Rattle.ccan_accept.specs.declared.frame.Frame.{Frame}
use Rattle.ccan_confine.specs.declared.controller.Controller.{Controller}
use Rattle.ccan_confine.specs.declared.controller_change.ControllerChange.TheVariants.{Recessive}
use Rattle.ccan_confine.specs.Counters.{counts_of, state_of}
use Rattle.ccan_ram.specs.Terms.{Terms}
use Rattle.ccan_bus.specs.declared.round_line.Fault.{Fault}
use Rattle.ccan_bus.specs.Past.{BusPast, recovers}
use Rattle.ccan_process.specs.Process.{Does, Ended}
use Rattle.ccan_line.specs.declared.line_answer.LineAnswer.TheVariants as answer
use Rattle.ccan_line.specs.Limits.{most_frames, most_groups}
use Rattle.ccan_endless.specs.declared.controller_changed.ControllerBusy.{ControllerBusy}
use Rattle.ccan_endless.specs.declared.controller_changed.ControllerChanged.{ControllerChanged}
use Rattle.ccan_chip.specs.declared.map.Map.{Map}
use Rattle.ccan_chip.specs.declared.map.Map.TheVariants.{Narrow}
use Rattle.ccan_registers.specs.ChipSteps.{made_or_busy}
use Rattle.ccan_registers.specs.InterfaceSet.{zero_set}
use Rattle.ccan_registers.specs.Register.{read_of, status_told}
use Rattle.ccan_c.specs.declared.offer.Offer.{Offer}
use Rattle.ccan_c.specs.Answer.{c_counters, code_of, state_number}
use Rattle.ccan_c.specs.Bus.{enabling, is_on, looping, starting, testing}
use Rattle.ccan_c.specs.Codes.{busy, done, fault_range, flag_range, frame_range, frames_range, groups_range, node_range, senders, untold}
use Rattle.ccan_c.specs.Host.{flag_numbered, number_of}
use Rattle.ccan_c.specs.HostCall.{code_of_access}
use Rattle.ccan_c.specs.Load.{c_load}
use Rattle.ccan_c.specs.Outcome.{c_outcome, code_of_round}
use Rattle.ccan_c.specs.Round.{fault_numbered, is_frame, sending_of}
use Rattle.ccan_c.specs.Settings.{is_from_one_to}
use Rattle.ccan_calls.specs.Answer.{CallEnd, CallProcess, Counters, Loading, Nothing, Number, Outcome, end_of, refuses, word_given}
use Rattle.ccan_calls.specs.BusAsk.{BusAsk, load, status, control, init, loop_back, recessive, interrupt, flags, counters, round, read8, write8, read16, write16, read32, write32, line, tell, heed}
use Rattle.ccan_calls.specs.BusRegisters.{bus_writes_at, bus_writes_byte, bus_writes_word}
use Rattle.ccan_calls.specs.LoadProcess.{LoadEnd, loads}
use Rattle.ccan_calls.specs.HostCallProcess.{heeded, note_end, noted, reads_off}
use Rattle.ccan_calls.specs.Parts.{flag_shown, line_pulled, value_shown}
use Rattle.ccan_calls.specs.Process.{ChangesController, LooksAtController, Offers, Process, ending}
use Rattle.ccan_calls.specs.ReadProcess.{Word, reads_at, reads_byte}
use Rattle.ccan_calls.specs.RoundProcess.{RoundTold, are_senders, rounds}
use Rattle.ccan_calls.specs.WordProcess.{reads_word}
use Rattle.ccan_calls.specs.WriteProcess.{Written, change_controller, unless_refused}

-- a call, and what has led to the bus after it
abbrev pub BusProcess : Type 0
BusProcess = CallProcess BusPast

-- what came of a load, and what is loaded then
abbrev pub load_end : LoadEnd → CallEnd BusPast
load_end (loading, after) = end_of (code_of (answer.Load loading)) (Loading (c_load loading after.loaded)) after

-- the Status register is read, as a C_CAN does it
abbrev pub status_read : Process Word
status_read = Does (ChangesController (read_of Narrow)) (λ outcome. Ended (status_told Narrow outcome))

-- loop back mode is set, which wants test mode first; or test mode is left
abbrev pub loops_back : Bool → Process Written
loops_back true =
    Does (ChangesController (testing true))
    (λ outcome. unless_refused (made_or_busy outcome) (change_controller looping))
loops_back false = change_controller (testing false)

-- groups of recessive bits
abbrev pub recessive_bits : ℕ → Process (Result ControllerChanged ControllerBusy)
recessive_bits groups = Does (ChangesController (Recessive groups)) (λ outcome. Ended outcome)

abbrev pub recessive_end : ℕ → BusPast → Result ControllerChanged ControllerBusy → CallEnd BusPast
recessive_end groups past (Ok made) =
    end_of done (Number (state_number (state_of made.after.counters.levels))) (recovers groups past)
recessive_end groups past (Err lost) = end_of busy Nothing past

-- what was done or refused is the code
abbrev pub coded : Process Written → BusPast → BusProcess
coded process past = ending process (λ told. end_of (code_of_access (Some told)) Nothing past)

-- one look at the controller
abbrev pub controller_shown : Process Controller
controller_shown = Does LooksAtController (λ found. Ended found)

-- the counters of the controller, by a look at it; or those of another node
abbrev pub counts : ℕ → BusPast → BusProcess
counts node past =
    if node == 0
    then ending controller_shown (λ found. end_of done (Counters (c_counters found.counters.levels)) past)
    else Ended (end_of done (Counters (c_counters (counts_of false (past.events node)).levels)) past)

-- a write of a register
abbrev pub writes_by : Process (Option Written) → BusPast → BusProcess
writes_by process past = ending process (λ told. end_of (code_of_access told) Nothing past)

-- what came of a round, and the bus after it
abbrev pub round_end : RoundTold → CallEnd BusPast
round_end (told, after) = end_of (code_of_round told) (Outcome (c_outcome told)) after

-- a round of these frames, if each sender is one of the other nodes and sends once
abbrev pub offered_round : Profile → ℕ → List (ℕ × Frame) → Fault → BusPast → BusProcess
offered_round profile nodes sends fault past =
    if are_senders nodes sends
    then Does (Offers sends fault) (λ line. ending (rounds profile line past) round_end)
    else refuses senders past

-- what C passed is in its range, or is refused
abbrev pub asked_round : Profile → ℕ → List Offer → ℕ → BusPast → BusProcess
asked_round profile nodes offers number past =
    if nat_le (length offers) most_frames
    then (if list_all is_frame offers
    then option_map_or (λ fault. offered_round profile nodes (map sending_of offers) fault past) (fault_numbered number)
    (refuses fault_range past)
    else refuses frame_range past)
    else refuses frames_range past

-- there are so many other nodes. No interface is the bus's, so what its registers hold makes no difference
abbrev pub bus_process : Terms → Map → ℕ → BusAsk → BusPast → BusProcess
bus_process terms map nodes load past = ending (loads terms.profile past) load_end
bus_process terms map nodes status past =
    ending status_read (λ told. end_of (code_of_access (Some told)) (word_given (Some told)) past)
bus_process terms map nodes (control sie eie) past = coded (change_controller (enabling (is_on sie) (is_on eie))) past
bus_process terms map nodes init past = coded (change_controller starting) past
bus_process terms map nodes (loop_back on) past = coded (loops_back (is_on on)) past
bus_process terms map nodes (recessive groups) past =
    if is_from_one_to most_groups groups then ending (recessive_bits groups) (recessive_end groups past)
    else refuses groups_range past
bus_process terms map nodes interrupt past = ending value_shown (λ value. end_of done (Number value) past)
bus_process terms map nodes (flags number) past =
    option_map_or (λ flag. ending (flag_shown flag) (λ word. end_of done (Number word) past)) (flag_numbered number)
    (refuses flag_range past)
bus_process terms map nodes (counters node) past = if nat_le node nodes then counts node past else refuses node_range past
bus_process terms map nodes (round offers number) past = asked_round terms.profile nodes offers number past
bus_process terms map nodes (read8 offset) past = reads_off (reads_byte terms map offset zero_set) past
bus_process terms map nodes (write8 offset value) past = writes_by (bus_writes_byte terms map offset value) past
bus_process terms map nodes (read16 offset) past = reads_off (reads_at terms map offset zero_set) past
bus_process terms map nodes (write16 offset value) past = writes_by (bus_writes_at terms map offset value) past
bus_process terms map nodes (read32 offset) past = reads_off (reads_word terms map offset zero_set) past
bus_process terms map nodes (write32 offset value) past = writes_by (bus_writes_word terms map offset value) past
bus_process terms map nodes line past = ending line_pulled (λ pulled. end_of done (Number (number_of pulled)) past)
bus_process terms map nodes tell past = ending noted (note_end past)
bus_process terms map nodes (heed note) past =
    option_map_or (λ told. ending (heeded told.whole) (λ done_so. end_of done Nothing past)) note (refuses untold past)
