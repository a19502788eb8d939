-- The calls on the bus's handle, and what each stands for in the history of the chip. Source: this project's own, over the
-- definitions of the steps of a round, of looks of one moment, and of the registers of the chip.
use Rattle.std.specs.Prelude.{ℕ, ◌≡◌, ◌==◌, ◌||◌, ◌⊎◌, if◌then◌else◌, Bool, true, false, List, map, length, Option, Some, Result, Ok, Err, MatchBool, MatchOption, nat_le}
use Rattle.std.specs.List.{list_all}
use Rattle.ccan_ram.specs.Terms.{Terms}
use Rattle.ccan_confine.specs.declared.controller.Controller.{Controller}
use Rattle.ccan_confine.specs.declared.controller_change.ControllerChange.{ControllerChange}
use Rattle.ccan_confine.specs.Counters.{AreAfter, Counts, state_of}
use Rattle.ccan_bus.specs.declared.answer.LoadAnswer.{LoadAnswer}
use Rattle.ccan_bus.specs.declared.round_line.Fault.{Fault}
use Rattle.ccan_bus.specs.declared.round_line.RoundLine.{RoundLine}
use Rattle.ccan_bus.specs.Bus.{LedTo}
use Rattle.ccan_bus.specs.Past.{BusPast}
use Rattle.ccan_bus.specs.RoundLine.{AreSenders}
use Rattle.ccan_chip.specs.declared.chip_report.ChipReport.{ChipReport}
use Rattle.ccan_endless.specs.declared.chip.ControllerStep.TheVariants.{Look}
use Rattle.ccan_endless.specs.declared.controller_changed.ControllerBusy.{ControllerBusy}
use Rattle.ccan_endless.specs.declared.controller_changed.ControllerChanged.{ControllerChanged}
use Rattle.ccan_endless.specs.Chip.{ChipHistory}
use Rattle.ccan_endless.specs.Note.{Told}
use Rattle.ccan_line.specs.declared.line_answer.LineAnswer.TheVariants as answer
use Rattle.ccan_line.specs.Limits.{most_frames, most_groups}
use Rattle.ccan_chip.specs.declared.map.Map.{Map}
use Rattle.ccan_chip.specs.declared.map.Map.TheVariants.{Narrow}
use Rattle.ccan_registers.specs.declared.access_error.AccessError.{AccessError}
use Rattle.ccan_registers.specs.declared.interface_set.InterfaceSet.{InterfaceSet}
use Rattle.ccan_registers.specs.ChipSteps.{AtController, ChipGoes, Makes, Then}
use Rattle.ccan_registers.specs.Frames.{StationState, at_rest}
use Rattle.ccan_registers.specs.Objects.{ShowsFlags}
use Rattle.ccan_registers.specs.Register.{InterruptValue, PullsLine, ReadsStatus}
use Rattle.ccan_registers.specs.Rounds.{LoadsOnChip, RecoversOnChip, RoundOnChip}
use Rattle.ccan_c.specs.declared.held.Held.{Held}
use Rattle.ccan_c.specs.declared.offer.Offer.{Offer}
use Rattle.ccan_c.specs.declared.shown_counters.ShownCounters.{ShownCounters}
use Rattle.ccan_c.specs.declared.shown_load.ShownLoad.{ShownLoad}
use Rattle.ccan_c.specs.declared.shown_outcome.ShownOutcome.{ShownOutcome}
use Rattle.ccan_c.specs.Answer.{c_counters, code_of, state_number}
use Rattle.ccan_c.specs.Bus.{enabling, is_on, looping, starting, testing}
use Rattle.ccan_c.specs.Call.{IsCall}
use Rattle.ccan_c.specs.Codes.{busy, done, spent, fault_range, flag_range, frame_range, frames_range, groups_range, node_range, senders}
use Rattle.ccan_c.specs.Held.{IsOpenAs, WorksAsBefore, port_of, station_of, map_of, tries_of}
use Rattle.ccan_c.specs.Host.{flag_numbered, number_of}
use Rattle.ccan_c.specs.HostCall.{IsRead, ReadsAtOffset, ReadsByteAtOffset, ReadsWordAtOffset, code_of_access}
use Rattle.ccan_c.specs.HostCall.{WritesAtOffset, WritesByteAtOffset, WritesWordAtOffset}
use Rattle.ccan_c.specs.Load.{c_load}
use Rattle.ccan_c.specs.Note.{HeedsNote, Tells}
use Rattle.ccan_c.specs.Outcome.{c_outcome, code_of_round}
use Rattle.ccan_c.specs.Round.{IsRound, fault_numbered, is_frame, sending_of}
use Rattle.ccan_c.specs.Settings.{is_from_one_to}
use Rattle.ccan_c.specs.Step.{Rests}

-- a call that was made: what C passed, the code that it got, and then what it got in the place for the result
pub data BusCall : Type 0 where
  load : ℕ → ShownLoad → BusCall
  status : ℕ → ℕ → BusCall
  control : ℕ → ℕ → ℕ → BusCall
  init : ℕ → BusCall
  loop_back : ℕ → ℕ → BusCall
  recessive : ℕ → ℕ → ℕ → BusCall
  interrupt : ℕ → ℕ → BusCall
  flags : ℕ → ℕ → ℕ → BusCall
  counters : ℕ → ℕ → ShownCounters → BusCall
  round : List Offer → ℕ → ℕ → ShownOutcome → BusCall
  read8 : ℕ → ℕ → ℕ → BusCall
  write8 : ℕ → ℕ → ℕ → BusCall
  read16 : ℕ → ℕ → ℕ → BusCall
  write16 : ℕ → ℕ → ℕ → BusCall
  read32 : ℕ → ℕ → ℕ → BusCall
  write32 : ℕ → ℕ → ℕ → BusCall
  line : ℕ → ℕ → BusCall
  -- with the note as the call left it
  tell : Option Told → ℕ → BusCall
  -- with the note as the call found it
  heed : Option Told → ℕ → BusCall

-- the code that it got
abbrev pub code_got : BusCall → ℕ
code_got (load result out) = result
code_got (status result out) = result
code_got (control sie eie result) = result
code_got (init result) = result
code_got (loop_back on result) = result
code_got (recessive groups result out) = result
code_got (interrupt result out) = result
code_got (flags number result out) = result
code_got (counters node result out) = result
code_got (round offers number result out) = result
code_got (read8 offset result out) = result
code_got (write8 offset value result) = result
code_got (read16 offset result out) = result
code_got (write16 offset value result) = result
code_got (read32 offset result out) = result
code_got (write32 offset value result) = result
code_got (line result out) = result
code_got (tell _ result) = result
code_got (heed _ result) = result

-- ---- the controller

-- a change of the controller, with the code that C gets
abbrev pub MakesChange : Terms → ControllerChange → ℕ → ChipHistory → ChipHistory → ℕ → Type 0
MakesChange terms z tries seen added result =
    (told : Result (Unit {0}) AccessError) × Makes terms z tries seen added told × (result ≡ code_of_access (Some told))

-- loop back mode is set: test mode, and then LBack, if test mode could be set
abbrev pub SetsLoopBack : Terms → ℕ → ChipHistory → ChipHistory → ℕ → Type 0
SetsLoopBack terms tries seen added result =
    (((result ≡ busy) × MakesChange terms (testing true) tries seen added busy)
    ⊎ Then (λ s a. MakesChange terms (testing true) tries s a done)
    (λ s a. MakesChange terms looping tries s a result) seen added)

-- loop back mode is set, or test mode is left
abbrev pub LoopsBack : Terms → ℕ → Bool → ChipHistory → ChipHistory → ℕ → Type 0
LoopsBack terms tries true seen added result = SetsLoopBack terms tries seen added result
LoopsBack terms tries false seen added result = MakesChange terms (testing false) tries seen added result

-- the Status register is read, as a C_CAN does it
abbrev pub TellsStatus : Terms → ℕ → ChipHistory → ChipHistory → ℕ → ℕ → Type 0
TellsStatus terms tries seen added result out =
    (told : Result ℕ AccessError) × ReadsStatus terms Narrow tries seen added told
    × (result ≡ code_of_access (Some told)) × IsRead (Some told) out

-- how groups of recessive bits end, with what C gets
abbrev pub TellsState : Result ControllerChanged ControllerBusy → ℕ → ℕ → Type 0
TellsState (Ok made) result out = (result ≡ done) × (out ≡ state_number (state_of made.after.counters.levels))
TellsState (Err lost) result out = result ≡ busy

-- the error counters of the controller, by one look at it; those of another node, which the bus has
abbrev pub CountsController : Terms → ChipHistory → ChipHistory → ℕ → ShownCounters → Type 0
CountsController terms seen added result out =
    (found : Controller) × AtController terms.port Look found seen added × (result ≡ done)
    × (out ≡ c_counters found.counters.levels)

abbrev pub CountsNode : ℕ → BusPast → ChipHistory → BusPast → ℕ → ShownCounters → Type 0
CountsNode node past added after result out =
    (counts : Counts) × AreAfter false (past.events node) counts × (out ≡ c_counters counts.levels)
    × Rests done past after added result

abbrev pub Counts0 : Terms → ℕ → BusPast → ChipHistory → ChipHistory → BusPast → ℕ → ShownCounters → Type 0
Counts0 terms node past seen added after result out =
    MatchBool (node == 0) (CountsController terms seen added result out × (after ≡ past))
    (CountsNode node past added after result out)

-- ---- rounds

-- the round, if each sender is one of the other nodes and sends once
pub record RoundPlayed (terms : Terms) (tries nodes : ℕ) (offers : List Offer) (fault : Fault) (past : BusPast)
    (seen added : ChipHistory) (after : BusPast) (result : ℕ) (out : ShownOutcome) : Type 0 where
  pub round : RoundLine
  pub is_round : IsRound offers fault round
  pub are_senders : AreSenders nodes (map sending_of offers)
  pub report : ChipReport
  pub runs : RoundOnChip terms round tries past seen added after report
  pub code_is : result ≡ code_of_round report
  pub shows : out ≡ c_outcome report

-- else the call is refused
abbrev pub RoundTried : Terms → ℕ → ℕ → List Offer → Fault → BusPast → ChipHistory → ChipHistory → BusPast → ℕ → ShownOutcome
    → Type 0
RoundTried terms tries nodes offers fault past seen added after result out =
    RoundPlayed terms tries nodes offers fault past seen added after result out
    ⊎ ((AreSenders nodes (map sending_of offers) → ⊥) × Rests senders past after added result)

-- the events that the call adds, what C gets, and the past of the bus after it; there are so many other nodes. No interface is
-- the bus's, so what its registers hold makes no difference.
abbrev pub BusCallMeans : Terms → ℕ → ℕ → Map → BusCall → BusPast → ChipHistory → ChipHistory → BusPast → Type 0
BusCallMeans terms tries nodes map (load result out) past seen added after =
    (found : Controller) × (loading : LoadAnswer) × LoadsOnChip terms tries past seen added after found loading
    × (result ≡ code_of (answer.Load loading)) × (out ≡ c_load loading after.loaded)
BusCallMeans terms tries nodes map (status result out) past seen added after =
    TellsStatus terms tries seen added result out × (after ≡ past)
BusCallMeans terms tries nodes map (control sie eie result) past seen added after =
    MakesChange terms (enabling (is_on sie) (is_on eie)) tries seen added result × (after ≡ past)
BusCallMeans terms tries nodes map (init result) past seen added after =
    MakesChange terms starting tries seen added result × (after ≡ past)
BusCallMeans terms tries nodes map (loop_back on result) past seen added after =
    LoopsBack terms tries (is_on on) seen added result × (after ≡ past)
BusCallMeans terms tries nodes map (recessive groups result out) past seen added after =
    MatchBool (is_from_one_to most_groups groups)
    ((outcome : Result ControllerChanged ControllerBusy) × RecoversOnChip terms groups tries past seen added after outcome
    × TellsState outcome result out)
    (Rests groups_range past after added result)
BusCallMeans terms tries nodes map (interrupt result out) past seen added after =
    (result ≡ done) × ((found : Controller) × InterruptValue terms seen added found out) × (after ≡ past)
BusCallMeans terms tries nodes map (flags number result out) past seen added after =
    MatchOption (flag_numbered number) (Rests flag_range past after added result)
    (λ flag. (result ≡ done) × ShowsFlags terms flag seen added out × (after ≡ past))
BusCallMeans terms tries nodes map (counters node result out) past seen added after =
    MatchBool (nat_le node nodes) (Counts0 terms node past seen added after result out)
    (Rests node_range past after added result)
BusCallMeans terms tries nodes map (round offers number result out) past seen added after =
    MatchBool (nat_le (length offers) most_frames)
    (MatchBool (list_all is_frame offers)
    (MatchOption (fault_numbered number) (Rests fault_range past after added result)
    (λ fault. RoundTried terms tries nodes offers fault past seen added after result out))
    (Rests frame_range past after added result))
    (Rests frames_range past after added result)
BusCallMeans terms tries nodes map (read8 offset result out) past seen added after =
    (own : InterfaceSet) × ReadsByteAtOffset terms tries map offset own seen added result out × (after ≡ past)
BusCallMeans terms tries nodes map (write8 offset value result) past seen added after =
    (own : InterfaceSet) × WritesByteAtOffset terms tries map offset value own seen added result own × (after ≡ past)
BusCallMeans terms tries nodes map (read16 offset result out) past seen added after =
    (own : InterfaceSet) × ReadsAtOffset terms tries map offset own seen added result out × (after ≡ past)
BusCallMeans terms tries nodes map (write16 offset value result) past seen added after =
    (own : InterfaceSet) × WritesAtOffset terms tries map offset value own seen added result own × (after ≡ past)
BusCallMeans terms tries nodes map (read32 offset result out) past seen added after =
    (own : InterfaceSet) × ReadsWordAtOffset terms tries map offset own seen added result out × (after ≡ past)
BusCallMeans terms tries nodes map (write32 offset value result) past seen added after =
    (own : InterfaceSet) × WritesWordAtOffset terms tries map offset value own seen added result own × (after ≡ past)
BusCallMeans terms tries nodes map (line result out) past seen added after =
    (result ≡ done) × ((pulls : Bool) × (out ≡ number_of pulls) × PullsLine terms seen added pulls) × (after ≡ past)
BusCallMeans terms tries nodes map (tell note result) past seen added after = Tells note past seen added result after
BusCallMeans terms tries nodes map (heed note result) past seen added after = HeedsNote terms note past seen added result after

-- ---- its part in a frame on a bus of several

-- a round was played, whether or not a step of it was refused
abbrev pub is_played : ℕ → Bool
is_played result = result == done || result == busy || result == spent

-- a load or a round drops what the start of a frame has loaded, and what is under way; each other call leaves it
abbrev pub station_after : BusCall → StationState → StationState
station_after (load result out) old = at_rest
station_after (round offers fault result out) old = if is_played result then at_rest else old
station_after call old = old

-- a call on an open handle: each past that may have led to the bus goes on to one that may have led to it afterwards, what its
-- port had seen goes on by what the call stands for, and all else of the handle stays
pub record BusRuns (call : BusCall) (old new : Held) : Type 0 where
  pub works : WorksAsBefore old new
  pub own : new.own ≡ old.own
  pub station : station_of new ≡ station_after call (station_of old)
  pub goes : (past : BusPast) → LedTo past old.bus.bus
      → (after : BusPast) × LedTo after new.bus.bus
      × ChipGoes (port_of old) (port_of new) (λ terms seen added.
      BusCallMeans terms (tries_of old) old.nodes (map_of old) call past seen added after)

-- what the contract of the call says of what the handle stands for before and after it
abbrev pub BusCallDoes : BusCall → Option Held → Option Held → Type 0
BusCallDoes call before after = IsCall before after (code_got call) (λ held. IsOpenAs (BusRuns call held) after)
