-- A call during which nobody else acts is one over a memory of one thread, as its steps at objects and its accesses to registers
-- are.
use Rattle.std.proofs.Common.{◌≤◌, inl, inr, ℕ, Bool, true, false, List, ◌++◌, refl, Some, None, Ok, Err}
use Rattle.std.specs.Prelude.{is_some, length, nat_le, nat_lt}
use Rattle.std.specs.declared.option.Option.{Option}
use Rattle.std.specs.declared.result.Result.{Result}
use Rattle.std.specs.List.{list_all}
use Rattle.ccan_object.specs.declared.record.Record.{Record}
use Rattle.ccan_object.specs.Interface.{shown}
use Rattle.ccan_confine.specs.declared.controller.Controller.{Controller}
use Rattle.ccan_ram.specs.declared.event.Event.{Event}
use Rattle.ccan_ram.specs.declared.flag.Flag.{Flag}
use Rattle.ccan_ram.specs.History.{NobodyElse}
use Rattle.ccan_ram.specs.Laws.{as_one_thread}
use Rattle.ccan_ram.specs.declared.sending.Sending.{Sending}
use Rattle.ccan_ram.specs.Terms.{Terms}
use Rattle.ccan_ram.proofs.Undisturbed.{looks_undisturbed}
use Rattle.ccan_bus.specs.declared.answer.LoadAnswer.{LoadAnswer}
use Rattle.ccan_bus.specs.declared.round_line.Fault.{Fault}
use Rattle.ccan_bus.specs.declared.round_line.RoundLine.{RoundLine}
use Rattle.ccan_bus.specs.Past.{BusPast}
use Rattle.ccan_chip.specs.declared.chip_report.ChipReport.{ChipReport}
use Rattle.ccan_chip.specs.Arrival.{left_behind}
use Rattle.ccan_chip.specs.Round.{as_found, events_in}
use Rattle.ccan_endless.specs.declared.controller_changed.ControllerBusy.{ControllerBusy}
use Rattle.ccan_endless.specs.declared.controller_changed.ControllerChanged.{ControllerChanged}
use Rattle.ccan_endless.specs.Chip.{ChipHistory}
use Rattle.ccan_line.specs.Limits.{most_frames, most_groups, most_turns}
use Rattle.ccan_line.proofs.ChoicesApart.{at_once_apart}
use Rattle.ccan_line.proofs.LoadsApart.{loads_apart}
use Rattle.ccan_line.proofs.ScansApart.{watches_apart}
use Rattle.ccan_chip.specs.declared.map.Map.{Map}
use Rattle.ccan_registers.specs.declared.interface_set.InterfaceSet.{InterfaceSet}
use Rattle.ccan_registers.specs.Frames.{BeginsOnChip, EndsOnChip, StationState}
use Rattle.ccan_registers.specs.Objects.{ShowsObject, WaitsFor}
use Rattle.ccan_registers.specs.Clearing.{zeros}
use Rattle.ccan_registers.specs.Rounds.{LoadsOnChip, RecoversOnChip, RoundOnChip}
use Rattle.ccan_station.specs.declared.begun.Begun.{Begun}
use Rattle.ccan_station.specs.declared.ended.Ended.{Ended}
use Rattle.ccan_station.specs.Station as station
use Rattle.ccan_station.specs.declared.loaded.Loaded.{Loaded}
use Rattle.ccan_station.specs.Station.{due, frame_won, loaded_before, may_send, role_now, sending_now, sent_as, still_loaded}
use Rattle.ccan_wire.specs.declared.flaw.Flaw.{Flaw}
use Rattle.ccan_wire.specs.declared.wire.Wire.{Wire}
use Rattle.ccan_wire.specs.Wire.{start_of}
use Rattle.ccan_c.specs.declared.offer.Offer.{Offer}
use Rattle.ccan_c.specs.declared.shown_finished.ShownFinished.{ShownFinished}
use Rattle.ccan_c.specs.declared.shown_wire.ShownWire.{ShownWire}
use Rattle.ccan_c.specs.declared.shown_outcome.ShownOutcome.{ShownOutcome}
use Rattle.ccan_c.specs.Bus.{is_on}
use Rattle.ccan_c.specs.BusCall as bus
use Rattle.ccan_c.specs.BusCall.{BusCall, BusCallMeans, LoopsBack, RoundTried}
use Rattle.ccan_c.specs.FrameCall as frame
use Rattle.ccan_c.specs.FrameCall.{BusState, CallOnBus, CallOnBusMeans, FrameCall, FrameCallMeans, FrameEnds, of_frames, of_rounds}
use Rattle.ccan_c.specs.Host.{flag_numbered, is_object}
use Rattle.ccan_c.specs.HostCall as host
use Rattle.ccan_c.specs.HostCall.{HostCall, HostCallMeans, ReadsAtOffset, WritesAtOffset}
use Rattle.ccan_c.specs.Round.{fault_numbered, is_frame}
use Rattle.ccan_c.specs.Settings.{is_from_one_to}
use Rattle.ccan_c.specs.Wire.{flaw_in, is_flaw, is_wire, most_members, wire_in}
use Rattle.ccan_c.proofs.OwnEvents.{ActsAlone, alone_in_parts}
use Rattle.ccan_c.proofs.AccessesApart.{known_or_not, passed_or_not, same, completes_apart, steps_apart, objects_apart, shown_flags_apart, shown_interrupt_apart, transferred_apart, value_apart, line_apart, objects_changed_apart, reads_at_apart, writes_at_apart, reads_byte_apart, writes_byte_apart, reads_word_apart, writes_word_apart, powers_down_apart}

module _ (terms : Terms) (tries : ℕ) (some : 1 ≤ tries) where
  abbrev single : Terms
  single = as_one_thread terms

  -- ---- loads and rounds

  load_apart : (past after : BusPast) (found : Controller) (loading : LoadAnswer) (seen added : ChipHistory)
      → ActsAlone terms.port added
      → LoadsOnChip terms tries past seen added after found loading
      → LoadsOnChip single tries past seen added after found loading
  load_apart past after found loading seen added alone h =
      let parts = alone_in_parts terms.port h.later h.looked added h.whole alone in
      let from : BusPast = as_found found (events_in (h.looked ++ seen)) (left_behind h.first past) in
      record {
        looked = h.looked;
        later = h.later;
        whole = h.whole;
        first = h.first;
        arrives = h.arrives;
        loads =
            objects_apart terms tries some _ _ (h.looked ++ seen) h.later parts.0
            (λ s a only. loads_apart terms tries some s a from after loading only) h.loads;
      }

  round_apart : (round : RoundLine) (past after : BusPast) (told : ChipReport) (seen added : ChipHistory)
      → ActsAlone terms.port added
      → RoundOnChip terms round tries past seen added after told → RoundOnChip single round tries past seen added after told
  round_apart round past after told seen added alone h =
      let outer = alone_in_parts terms.port h.last (h.steps ++ h.looked) added h.whole alone in
      let inner = alone_in_parts terms.port h.steps h.looked (h.steps ++ h.looked) refl outer.1 in
      let from : BusPast = as_found told.found (events_in (h.looked ++ seen)) (left_behind h.first past) in
      record {
        looked = h.looked;
        steps = h.steps;
        last = h.last;
        whole = h.whole;
        first = h.first;
        arrives = h.arrives;
        runs =
            objects_apart terms tries some _ _ (h.looked ++ seen) h.steps inner.0
            (λ s a only. steps_apart terms tries some round s a from after told.report only) h.runs;
        own = h.own;
        notes = h.notes;
      }

  -- ---- a chip's part in a frame on a bus of several

  station_loads_apart : (sends : Bool) (sending : Sending) (seen added : List Event) (old new : Option Loaded)
      (loading : LoadAnswer) → NobodyElse terms.port added
      → station.Loads sends sending terms tries seen added old new loading
      → station.Loads sends sending single tries seen added old new loading
  station_loads_apart false sending seen added old new loading alone h = h
  station_loads_apart true sending seen added (Some started) new loading alone h = h
  station_loads_apart true sending seen added None new loading alone (chosen, h, is, told) =
      (chosen, at_once_apart terms tries some sending seen added chosen alone h, is, told)

  begins_apart : (old new : StationState) (told : Begun) (seen added : ChipHistory) → ActsAlone terms.port added
      → BeginsOnChip terms tries old seen added new told → BeginsOnChip single tries old seen added new told
  begins_apart old new told seen added alone h =
      let parts = alone_in_parts terms.port h.later h.looked added h.whole alone in
      record {
        looked = h.looked;
        later = h.later;
        whole = h.whole;
        first = h.first;
        arrives = h.arrives;
        loads =
            objects_apart terms tries some _ _ (h.looked ++ seen) h.later parts.0
            (λ s a only. station_loads_apart (may_send (role_now told.found)) (sending_now told.found) s a (loaded_before h.first old.loaded) new.loaded
            told.loading only) h.loads;
        member = h.member;
        waits = h.waits;
      }

  ends_apart : (on : Wire) (place : ℕ) (flaw : Option Flaw) (old new : StationState) (told : Ended) (seen added : ChipHistory)
      → ActsAlone terms.port added
      → EndsOnChip terms tries on place flaw old seen added new told
      → EndsOnChip single tries on place flaw old seen added new told
  ends_apart on place flaw old new told seen added alone h =
      let outer = alone_in_parts terms.port h.last (h.steps ++ h.looked) added h.whole alone in
      let inner = alone_in_parts terms.port h.steps h.looked (h.steps ++ h.looked) refl outer.1 in
      let decided = due told.own (still_loaded told.found old.loaded) (frame_won (start_of on)) in
      record {
        looked = h.looked;
        steps = h.steps;
        last = h.last;
        whole = h.whole;
        looks = h.looks;
        own = h.own;
        completes =
            objects_apart terms tries some _ _ (h.looked ++ seen) h.steps inner.0
            (λ s a only. completes_apart terms tries some (sent_as (still_loaded told.found old.loaded)) s a decided told.end only) h.completes;
        left = h.left;
        over = h.over;
        notes = h.notes;
      }

  -- ---- calls

  module _ (layout : Map) (seen added : ChipHistory) (alone : ActsAlone terms.port added) where
    read_apart : (offset : ℕ) (own : InterfaceSet) (result out : ℕ)
        → ReadsAtOffset terms tries layout offset own seen added result out
        → ReadsAtOffset single tries layout offset own seen added result out
    read_apart offset own result out (told, h, code, is) =
        (told, reads_at_apart terms tries some layout offset own seen added told alone h, code, is)

    write_apart : (offset value : ℕ) (own left : InterfaceSet) (result : ℕ)
        → WritesAtOffset terms tries layout offset value own seen added result left
        → WritesAtOffset single tries layout offset value own seen added result left
    write_apart offset value own left result (told, h, code) =
        (told, writes_at_apart terms tries some layout offset value own left seen added told alone h, code)

    look_apart : (object : ℕ) (found : Record) → ShowsObject terms object seen added found
        → ShowsObject single object seen added found
    look_apart object found h =
        objects_apart terms tries some _ _ seen added alone (λ s a only. looks_undisturbed terms object found a only) h

    wait_apart : (object : ℕ) (flag : Flag) (turns : ℕ) (shown : Bool) → WaitsFor terms object flag turns seen added shown
        → WaitsFor single object flag turns seen added shown
    wait_apart object flag turns shown h =
        objects_apart terms tries some _ _ seen added alone (λ s a only. watches_apart terms a only object flag turns shown) h

    pub host_call_apart : (call : HostCall) (own left : InterfaceSet)
        → HostCallMeans terms tries layout call own seen added left → HostCallMeans single tries layout call own seen added left
    host_call_apart (host.set number value result) own left h = h
    host_call_apart (host.get number result out) own left h = h
    host_call_apart (host.request number result) own left (reply, code, h) =
        (reply, code, transferred_apart terms tries some number own left seen added reply alone h)
    host_call_apart (host.flags number result out) own left h =
        known_or_not (flag_numbered number) _ _ _ _ same
        (λ flag (code, word, keeps). (code, shown_flags_apart terms tries some flag seen added out alone word, keeps)) h
    host_call_apart (host.interrupt result out) own left (code, value, keeps) =
        (code, shown_interrupt_apart terms tries some false seen added out alone value, keeps)
    host_call_apart (host.peek object result out) own left h =
        passed_or_not (is_object terms.profile object) _ _ _ _
        (λ (code, (found, shows, look), keeps). (code, (found, shows, look_apart object found look), keeps))
        same h
    host_call_apart (host.until object number turns result out) own left h =
        passed_or_not (is_object terms.profile object) _ _ _ _
        (known_or_not (flag_numbered number) _ _ _ _ same
        (λ flag. passed_or_not (is_from_one_to most_turns turns) _ _ _ _
        (λ (code, (shown, shows, m), keeps). (code, (shown, shows, wait_apart object flag turns shown m), keeps))
        same))
        same h
    host_call_apart (host.read8 offset result out) own left ((told, h, code, is), keeps) =
        ((told, reads_byte_apart terms tries some layout offset own seen added told alone h, code, is), keeps)
    host_call_apart (host.write8 offset value result) own left (told, h, code) =
        (told, writes_byte_apart terms tries some layout offset value own left seen added told alone h, code)
    host_call_apart (host.read16 offset result out) own left (h, keeps) = (read_apart offset own result out h, keeps)
    host_call_apart (host.write16 offset value result) own left h = write_apart offset value own left result h
    host_call_apart (host.read32 offset result out) own left ((told, h, code, is), keeps) =
        ((told, reads_word_apart terms tries some layout offset own seen added told alone h, code, is), keeps)
    host_call_apart (host.write32 offset value result) own left (told, h, code) =
        (told, writes_word_apart terms tries some layout offset value own left seen added told alone h, code)
    host_call_apart (host.line result out) own left (code, (pulls, is, h), keeps) =
        (code, (pulls, is, line_apart terms tries some pulls seen added alone h), keeps)
    host_call_apart (host.clear result) own left ((told, h, code), keeps) =
        ((told, objects_changed_apart terms tries some zeros seen added told alone h, code), keeps)
    host_call_apart (host.tell note result) own left h = h
    host_call_apart (host.heed note result) own left h = h

    loops_apart : (on : Bool) (result : ℕ) → LoopsBack terms tries on seen added result
        → LoopsBack single tries on seen added result
    loops_apart true result h = h
    loops_apart false result h = h

    recovery_apart : (groups : ℕ) (past after : BusPast) (outcome : Result ControllerChanged ControllerBusy)
        → RecoversOnChip terms groups tries past seen added after outcome
        → RecoversOnChip single groups tries past seen added after outcome
    recovery_apart groups past after (Ok made) h = h
    recovery_apart groups past after (Err busy) h = h

    tried_apart : (nodes : ℕ) (offers : List Offer) (fault : Fault) (past after : BusPast) (result : ℕ) (out : ShownOutcome)
        → RoundTried terms tries nodes offers fault past seen added after result out
        → RoundTried single tries nodes offers fault past seen added after result out
    tried_apart nodes offers fault past after result out (inl h) = inl (record {
      round = h.round;
      is_round = h.is_round;
      are_senders = h.are_senders;
      report = h.report;
      runs = round_apart h.round past after h.report seen added alone h.runs;
      code_is = h.code_is;
      shows = h.shows;
    })
    tried_apart nodes offers fault past after result out (inr h) = inr h

    bus_call_apart : (nodes : ℕ) (call : BusCall) (past after : BusPast)
        → BusCallMeans terms tries nodes layout call past seen added after
        → BusCallMeans single tries nodes layout call past seen added after
    bus_call_apart nodes (bus.load result out) past after (found, loading, h, code, shows) =
        (found, loading, load_apart past after found loading seen added alone h, code, shows)
    bus_call_apart nodes (bus.status result out) past after h = h
    bus_call_apart nodes (bus.control sie eie result) past after h = h
    bus_call_apart nodes (bus.init result) past after h = h
    bus_call_apart nodes (bus.loop_back on result) past after (h, is) = (loops_apart (is_on on) result h, is)
    bus_call_apart nodes (bus.recessive groups result out) past after h =
        passed_or_not (is_from_one_to most_groups groups) _ _ _ _
        (λ (outcome, recovers, tells). (outcome, recovery_apart groups past after outcome recovers, tells)) same h
    bus_call_apart nodes (bus.interrupt result out) past after (code, (found, h), is) =
        (code, (found, value_apart terms tries some found out seen added alone h), is)
    bus_call_apart nodes (bus.flags number result out) past after h =
        known_or_not (flag_numbered number) _ _ _ _ same
        (λ flag (code, word, keeps). (code, shown_flags_apart terms tries some flag seen added out alone word, keeps)) h
    bus_call_apart nodes (bus.counters node result out) past after h = h
    bus_call_apart nodes (bus.round offers number result out) past after h =
        passed_or_not (nat_le (length offers) most_frames) _ _ _ _
        (passed_or_not (list_all is_frame offers) _ _ _ _
        (known_or_not (fault_numbered number) _ _ _ _ same
        (λ fault. tried_apart nodes offers fault past after result out)) same) same h
    bus_call_apart nodes (bus.read8 offset result out) past after (own, (told, h, code, read), is) =
        (own, (told, reads_byte_apart terms tries some layout offset own seen added told alone h, code, read), is)
    bus_call_apart nodes (bus.write8 offset value result) past after (own, (told, h, code), is) =
        (own, (told, writes_byte_apart terms tries some layout offset value own own seen added told alone h, code), is)
    bus_call_apart nodes (bus.read16 offset result out) past after (own, h, is) =
        (own, read_apart offset own result out h, is)
    bus_call_apart nodes (bus.write16 offset value result) past after (own, h, is) =
        (own, write_apart offset value own own result h, is)
    bus_call_apart nodes (bus.read32 offset result out) past after (own, (told, h, code, read), is) =
        (own, (told, reads_word_apart terms tries some layout offset own seen added told alone h, code, read), is)
    bus_call_apart nodes (bus.write32 offset value result) past after (own, (told, h, code), is) =
        (own, (told, writes_word_apart terms tries some layout offset value own own seen added told alone h, code), is)
    bus_call_apart nodes (bus.line result out) past after (code, (pulls, is, h), keeps) =
        (code, (pulls, is, line_apart terms tries some pulls seen added alone h), keeps)
    bus_call_apart nodes (bus.tell note result) past after h = h
    bus_call_apart nodes (bus.heed note result) past after h = h

    frame_ends_apart : (on : ShownWire) (place fault : ℕ) (old new : BusState) (result : ℕ) (out : ShownFinished)
        → FrameEnds terms tries on place fault old seen added new result out
        → FrameEnds single tries on place fault old seen added new result out
    frame_ends_apart on place fault old new result out h = record {
      told = h.told;
      ends = ends_apart (wire_in on) place (flaw_in fault) old.station new.station h.told seen added alone h.ends;
      code_is = h.code_is;
      shows = h.shows;
      keeps = h.keeps;
    }

    frame_call_apart : (call : FrameCall) (old new : BusState) → FrameCallMeans terms tries call old seen added new
        → FrameCallMeans single tries call old seen added new
    frame_call_apart (frame.begin result out) old new (told, h, code, shows, keeps) =
        (told, begins_apart old.station new.station told seen added alone h, code, shows, keeps)
    frame_call_apart (frame.stay result out) old new (told, h, code, shows, keeps) =
        (told, record { looks = h.looks; kept = h.kept; held = h.held; member = h.member }, code, shows, keeps)
    frame_call_apart (frame.finish on place fault result out) old new h =
        passed_or_not (is_wire on) _ _ _ _
        (passed_or_not (nat_lt place most_members) _ _ _ _
        (passed_or_not (is_flaw fault) _ _ _ _ (frame_ends_apart on place fault old new result out) same) same) same h
    frame_call_apart (frame.retry lost result) old new h = h
    frame_call_apart (frame.power_down result out) old new ((told, h, code, is), keeps) = (
      (
        told,
        passed_or_not (is_some old.station.under_way) _ _ _ _ same
            (λ k. powers_down_apart terms tries some seen added told alone k) h,
        code,
        is,
      ),
      keeps,
    )

    pub call_on_bus_apart : (nodes : ℕ) (call : CallOnBus) (old new : BusState)
        → CallOnBusMeans terms tries nodes layout call old seen added new
        → CallOnBusMeans single tries nodes layout call old seen added new
    call_on_bus_apart nodes (of_rounds call) old new (h, station) = (bus_call_apart nodes call old.past new.past h, station)
    call_on_bus_apart nodes (of_frames call) old new h = frame_call_apart call old new h
