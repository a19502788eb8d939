-- Steps at objects and accesses to registers during which nobody else acts are those over a memory of one thread. What is done at
-- objects stands in the part of the history that is the message RAM's, of which that is known already; a step at the controller is
-- the same under all terms of one port.
use Rattle.std.proofs.Common.{◌≤◌, zero, suc, inl, inr, ℕ, Bool, true, false, List, [], ◌++◌, Some, None, Ok, Err, ◌+◌, ◌/◌, ◌%◌, ◌^◌, ◌==◌}
use Rattle.std.specs.Prelude.{◌⊎◌, MatchBool, MatchOption}
use Rattle.std.specs.declared.option.Option.{Option}
use Rattle.std.specs.declared.result.Result.{Result}
use Rattle.ccan_object.specs.declared.record.Record.{Record}
use Rattle.ccan_object.specs.Interface.{shown}
use Rattle.ccan_object.specs.Profile.{objects_in}
use Rattle.ccan_accept.specs.declared.frame.Frame.{Frame}
use Rattle.ccan_confine.specs.declared.controller.Controller.{Controller}
use Rattle.ccan_confine.specs.declared.controller_change.ControllerChange.{ControllerChange}
use Rattle.ccan_confine.specs.declared.controller_change.ControllerChange.TheVariants.{ResetDcan}
use Rattle.ccan_confine.specs.Controller.{shows_interrupt}
use Rattle.ccan_ram.specs.declared.change.Change.{Change}
use Rattle.ccan_ram.specs.declared.change.Change.TheVariants.{Reset, Send, Store}
use Rattle.ccan_ram.specs.declared.change.Changed.TheVariants.{Done}
use Rattle.ccan_ram.specs.declared.change.Refused.{Refused}
use Rattle.ccan_ram.specs.declared.event.Event.{Event}
use Rattle.ccan_ram.specs.declared.flag.Flag.{Flag}
use Rattle.ccan_ram.specs.declared.flag.Flag.TheVariants.{TxRqst}
use Rattle.ccan_ram.specs.History.{NobodyElse}
use Rattle.ccan_ram.specs.Laws.{as_one_thread}
use Rattle.ccan_ram.specs.declared.sending.Sending.{Sending}
use Rattle.ccan_ram.specs.declared.sending.Sending.TheVariants.{UntilSent}
use Rattle.ccan_ram.specs.Sending.{finish_by}
use Rattle.ccan_ram.specs.Terms.{Terms}
use Rattle.ccan_ram.proofs.Undisturbed.{attempts_undisturbed}
use Rattle.ccan_ram.proofs.UndisturbedPictures.{pictures_undisturbed}
use Rattle.ccan_handler.specs.declared.scan.ScanRefused.{ScanRefused}
use Rattle.ccan_handler.specs.declared.scan.Stored.{Stored}
use Rattle.ccan_handler.specs.Moment.{FlagsAtOnce, InterruptAtOnce}
use Rattle.ccan_handler.specs.Scan.{Nowhere, MadeAt, RefusedAt, Scans}
use Rattle.ccan_bus.specs.declared.answer.RoundAnswer.{RoundAnswer}
use Rattle.ccan_bus.specs.declared.decision.Decision.{Decision}
use Rattle.ccan_bus.specs.declared.decision.Decision.TheVariants as decision
use Rattle.ccan_bus.specs.declared.round_end.RoundEnd.{RoundEnd}
use Rattle.ccan_bus.specs.declared.round_line.RoundLine.{RoundLine}
use Rattle.ccan_bus.specs.declared.round_report.RoundReport.{RoundReport}
use Rattle.ccan_bus.specs.Complete.{Finishes, TakesBack, Stops, Scanned, Completes}
use Rattle.ccan_bus.specs.Past.{BusPast}
use Rattle.ccan_bus.specs.Round.{refusal_of_round}
use Rattle.ccan_bus.specs.RoundReport.{RunsOn, RunsSteps}
use Rattle.ccan_endless.specs.declared.chip.ControllerStep.TheVariants.{Look}
use Rattle.ccan_endless.specs.Chip.{ChipHistory, ram_of}
use Rattle.ccan_line.specs.declared.line_answer.LineAnswer.{LineAnswer}
use Rattle.ccan_line.specs.declared.host_line.HostLine.TheVariants as line
use Rattle.ccan_line.proofs.LinesApart.{host_adds_apart}
use Rattle.ccan_line.proofs.LoadsApart.{loads_apart}
use Rattle.ccan_line.proofs.ScansApart.{apart, scans_apart}
use Rattle.ccan_chip.specs.declared.map.Map.{Map}
use Rattle.ccan_chip.specs.declared.map.Map.TheVariants.{Dcan, Narrow, Wide}
use Rattle.ccan_chip.specs.declared.register.Register.{Register}
use Rattle.ccan_chip.specs.declared.register.Register.TheVariants as register
use Rattle.ccan_registers.specs.declared.access_error.AccessError.{AccessError}
use Rattle.ccan_registers.specs.declared.interface_set.InterfaceSet.{InterfaceSet}
use Rattle.ccan_registers.specs.declared.byte.Byte.{Byte}
use Rattle.ccan_registers.specs.declared.byte.Byte.TheVariants.{Lower, Upper}
use Rattle.ccan_registers.specs.Bytes.{ReadsByte, ResetsInInit, WritesByte, WritesByteOf, WritesLower, WritesTimingByte, WritesUpper}
use Rattle.ccan_registers.specs.Bytes.{byte_in, has_reset, start_of as start_of_register, with_byte}
use Rattle.ccan_registers.specs.ChipSteps.{AtController, OnObjects, Then}
use Rattle.ccan_registers.specs.InterfaceSet.{Transferred}
use Rattle.ccan_registers.specs.Objects.{ShowsFlags, ShowsInterrupt}
use Rattle.ccan_registers.specs.Register as access
use Rattle.ccan_registers.specs.Register.{InterruptValue, PullsLine, Reads, ReadsApart, ReadsAt, ReadsControl, ReadsFlags, ReadsHalves, ReadsTiming, ReadsWord, Writes, WritesApart, WritesAt, WritesControl, WritesControlWord, WritesHalves, WritesRest, WritesTiming, WritesWord, is_refused}
use Rattle.ccan_registers.specs.Register.{RequestsBy, change_by, is_own}
use Rattle.ccan_registers.specs.Dcan.{Sends, asks_for_reset, is_object_of, is_sending, number_in}
use Rattle.ccan_registers.specs.AllObjects.{ChangesObject, ChangesObjects, HaveChanged}
use Rattle.ccan_registers.specs.PowerDown.{PowersDown, is_to_power_down}
use Rattle.ccan_registers.specs.Resetting.{ResetsChip}
use Rattle.ccan_c.proofs.OwnEvents.{ActsAlone, alone_at_objects, alone_in_parts}

pub known_or_not : {X : Type 0} (o : Option X) (P P' : Type 0) (Q Q' : X → Type 0) → (P → P') → ((x : X) → Q x → Q' x)
    → MatchOption o P Q → MatchOption o P' Q'
known_or_not None P P' Q Q' f g h = f h
known_or_not (Some x) P P' Q Q' f g h = g x h

pub passed_or_not : (b : Bool) (P P' Q Q' : Type 0) → (P → P') → (Q → Q') → MatchBool b P Q → MatchBool b P' Q'
passed_or_not true P P' Q Q' f g h = f h
passed_or_not false P P' Q Q' f g h = g h

pub same : {X : Type 0} → X → X
same x = x

-- ---- steps of a round

module _ (terms : Terms) (tries : ℕ) (some : 1 ≤ tries) where
  abbrev single : Terms
  single = as_one_thread terms

  pub finishes_apart : (sending : Sending) (seen added : List Event) (object : ℕ) (outcome : Result Record Refused) → NobodyElse terms.port added
      → Finishes terms sending tries seen added object outcome → Finishes single sending tries seen added object outcome
  finishes_apart sending seen added object (Ok finished) alone (before, number, h) = (
    before,
    number,
    attempts_undisturbed terms object (finish_by sending) tries seen added (Ok (Done before finished number)) some alone h,
  )
  finishes_apart sending seen added object (Err why) alone h =
      attempts_undisturbed terms object (finish_by sending) tries seen added (Err why) some alone h

  pub stores_apart : (frame : Frame) (seen added : List Event) (outcome : Result (Option Stored) ScanRefused)
      → NobodyElse terms.port added
      → Scans terms (Store frame) 1 tries seen added outcome → Scans single (Store frame) 1 tries seen added outcome
  stores_apart frame seen added (Ok None) alone h = scans_apart terms (Store frame) tries some 1 seen added Nowhere alone h
  stores_apart frame seen added (Ok (Some found)) alone (number, h) = (
    number,
    scans_apart terms (Store frame) tries some 1 seen added (MadeAt found.object found.before found.after number) alone h,
  )
  stores_apart frame seen added (Err refused) alone h =
      scans_apart terms (Store frame) tries some 1 seen added (RefusedAt refused.at refused.why) alone h

  pub takes_apart : (sending : Sending) (seen added : List Event) (object : ℕ) (frame : Frame) (end : RoundEnd) → NobodyElse terms.port added
      → TakesBack terms sending tries seen added object frame end → TakesBack single sending tries seen added object frame end
  takes_apart sending seen added object frame end alone (Stops h) = Stops (record {
    why = h.why;
    finish = attempts_undisturbed terms object (finish_by sending) tries seen added (Err h.why) some alone h.finish;
    told = h.told;
  })
  takes_apart sending seen added object frame end alone (Scanned h) =
      let parts = apart terms added h.last h.first h.whole alone in
      Scanned (record {
        finished = h.finished;
        first = h.first;
        last = h.last;
        whole = h.whole;
        finish = finishes_apart sending seen h.first object (Ok h.finished) parts.1 h.finish;
        outcome = h.outcome;
        scan = stores_apart frame (h.first ++ seen) h.last h.outcome parts.0 h.scan;
        told = h.told;
      })

  pub completes_apart : (sending : Sending) (seen added : List Event) (decided : Decision) (end : RoundEnd) → NobodyElse terms.port added
      → Completes terms sending tries seen added decided end → Completes single sending tries seen added decided end
  completes_apart sending seen added decision.Idle end alone h = h
  completes_apart sending seen added decision.Collision end alone h = h
  completes_apart sending seen added (decision.Fault winner frame) end alone h = h
  completes_apart sending seen added (decision.NoAck winner frame) end alone h = h
  completes_apart sending seen added (decision.Passed winner frame) end alone h = h
  completes_apart sending seen added (decision.Finish object frame) end alone (outcome, h, told) =
      (outcome, finishes_apart sending seen added object outcome alone h, told)
  completes_apart sending seen added (decision.Receipt winner frame) end alone (outcome, h, told) =
      (outcome, stores_apart frame seen added outcome alone h, told)
  completes_apart sending seen added (decision.LoopBack object frame) end alone h = takes_apart sending seen added object frame end alone h

  pub rest_apart : (refusal : Option RoundAnswer) (round : RoundLine) (seen added : List Event) (past after : BusPast)
      (decided : Option Decision) (end : RoundEnd) → NobodyElse terms.port added
      → RunsOn refusal terms round tries seen added past after decided end
      → RunsOn refusal single round tries seen added past after decided end
  rest_apart (Some refusal) round seen added past after None end alone h = h
  rest_apart (Some refusal) round seen added past after (Some decided) end alone h = absurd h
  rest_apart None round seen added past after (Some decided) end alone (decides, h) =
      (decides, completes_apart UntilSent seen added decided end alone h)
  rest_apart None round seen added past after None end alone h = absurd h

  pub steps_apart : (round : RoundLine) (seen added : List Event) (past after : BusPast) (report : RoundReport)
      → NobodyElse terms.port added
      → RunsSteps terms round tries seen added past after report → RunsSteps single round tries seen added past after report
  steps_apart round seen added past after report alone h =
      let parts = apart terms added h.last h.first h.whole alone in
      record {
        between = h.between;
        first = h.first;
        last = h.last;
        whole = h.whole;
        loads = loads_apart terms tries some seen h.first past h.between report.loading parts.1 h.loads;
        runs = rest_apart (refusal_of_round report.loading) round (h.first ++ seen) h.last h.between after report.decision
            report.end parts.0 h.runs;
      }

  -- ---- looks of one moment

  pub flags_apart : (flag : Flag) (seen added : List Event) (word : ℕ) → NobodyElse terms.port added
      → FlagsAtOnce terms flag seen added word → FlagsAtOnce single flag seen added word
  flags_apart flag seen added word alone h =
      record { shown = h.shown; picture = pictures_undisturbed terms h.shown seen added alone h.picture; is = h.is }

  pub interrupt_apart : (pending : Bool) (seen added : List Event) (value : ℕ) → NobodyElse terms.port added
      → InterruptAtOnce terms pending seen added value → InterruptAtOnce single pending seen added value
  interrupt_apart true seen added value alone h = h
  interrupt_apart false seen added value alone (shown, picture, is) =
      (shown, pictures_undisturbed terms shown seen added alone picture, is)

  -- ---- steps in the history of a chip

  pub objects_apart : (what what' : List Event → List Event → Type 0) (seen added : ChipHistory) → ActsAlone terms.port added
      → ((s a : List Event) → NobodyElse terms.port a → what s a → what' s a)
      → OnObjects terms.port what seen added → OnObjects terms.port what' seen added
  objects_apart what what' seen added alone f h = record {
    none = h.none;
    means = f (ram_of seen) (ram_of added) (alone_at_objects terms.port added alone) h.means;
  }

  pub then_apart : (first second second' : ChipHistory → ChipHistory → Type 0) (seen added : ChipHistory)
      → ActsAlone terms.port added
      → ((s a : ChipHistory) → ActsAlone terms.port a → second s a → second' s a)
      → Then first second seen added → Then first second' seen added
  then_apart first second second' seen added alone f h = record {
    earlier = h.earlier;
    later = h.later;
    whole = h.whole;
    begins = h.begins;
    ends =
        f (h.earlier ++ seen) h.later (alone_in_parts terms.port h.later h.earlier added h.whole alone).0 h.ends;
  }

  pub shown_flags_apart : (flag : Flag) (seen added : ChipHistory) (word : ℕ) → ActsAlone terms.port added
      → ShowsFlags terms flag seen added word → ShowsFlags single flag seen added word
  shown_flags_apart flag seen added word alone h =
      objects_apart (λ s a. FlagsAtOnce terms flag s a word) (λ s a. FlagsAtOnce single flag s a word) seen added alone
      (λ s a only. flags_apart flag s a word only) h

  pub shown_interrupt_apart : (pending : Bool) (seen added : ChipHistory) (value : ℕ) → ActsAlone terms.port added
      → ShowsInterrupt terms pending seen added value → ShowsInterrupt single pending seen added value
  shown_interrupt_apart pending seen added value alone h =
      objects_apart (λ s a. InterruptAtOnce terms pending s a value) (λ s a. InterruptAtOnce single pending s a value)
      seen added alone (λ s a only. interrupt_apart pending s a value only) h

  pub transferred_apart : (request : ℕ) (own left : InterfaceSet) (seen added : ChipHistory) (reply : LineAnswer)
      → ActsAlone terms.port added
      → Transferred terms tries request own seen added reply left → Transferred single tries request own seen added reply left
  transferred_apart request own left seen added reply alone h = record {
    transfers =
        objects_apart _ _ seen added alone
        (λ s a only. host_adds_apart terms tries some s a only (line.Transfer request (record { items = [] })) own.registers reply
        left.registers) h.transfers;
    asked = h.asked;
  }

  pub value_apart : (found : Controller) (value : ℕ) (seen added : ChipHistory) → ActsAlone terms.port added
      → InterruptValue terms seen added found value → InterruptValue single seen added found value
  value_apart found value seen added alone h = record {
    steps =
        then_apart (AtController terms.port Look found) (λ s a. ShowsInterrupt terms (shows_interrupt found) s a value)
        (λ s a. ShowsInterrupt single (shows_interrupt found) s a value) seen added alone
        (λ s a only. shown_interrupt_apart (shows_interrupt found) s a value only) h.steps;
  }

  pub line_apart : (pulls : Bool) (seen added : ChipHistory) → ActsAlone terms.port added
      → PullsLine terms seen added pulls → PullsLine single seen added pulls
  line_apart pulls seen added alone (found, value, h, is) = (found, value, value_apart found value seen added alone h, is)

  -- ---- registers

  pub reads_apart : (layout : Map) (r : Register) (own : InterfaceSet) (seen added : ChipHistory) (told : Result ℕ AccessError)
      → ActsAlone terms.port added
      → Reads terms tries layout r own seen added told → Reads single tries layout r own seen added told
  reads_apart layout register.Control own seen added told alone h = h
  reads_apart layout register.ControlUpper own seen added told alone h = h
  reads_apart layout register.Status own seen added told alone h = h
  reads_apart layout register.ErrorCounter own seen added told alone h = h
  reads_apart layout register.BitTiming own seen added told alone h = h
  reads_apart layout register.Interrupt own seen added told alone (found, value, h, is) =
      (found, value, value_apart found value seen added alone h, is)
  reads_apart layout register.Test own seen added told alone h = h
  reads_apart layout register.Extension own seen added told alone h = h
  reads_apart layout (register.Request interface) own seen added told alone h = h
  reads_apart layout (register.Buffer interface reg) own seen added told alone h = h
  reads_apart layout (register.Flags flag place) own seen added told alone (word, h, is) =
      (word, shown_flags_apart flag seen added word alone h, is)

  pub both_apart : (first first' second second' : ChipHistory → ChipHistory → Type 0) (seen added : ChipHistory)
      → ActsAlone terms.port added
      → ((s a : ChipHistory) → ActsAlone terms.port a → first s a → first' s a)
      → ((s a : ChipHistory) → ActsAlone terms.port a → second s a → second' s a)
      → Then first second seen added → Then first' second' seen added
  both_apart first first' second second' seen added alone f g h =
      let parts = alone_in_parts terms.port h.later h.earlier added h.whole alone in
      record {
        earlier = h.earlier;
        later = h.later;
        whole = h.whole;
        begins = f seen h.earlier parts.1 h.begins;
        ends = g (h.earlier ++ seen) h.later parts.0 h.ends;
      }

  -- a change of each object, which no other port disturbs
  pub object_changed_apart : (change : Change) (object : ℕ) (seen added : ChipHistory) (told : Result (Unit {0}) AccessError)
      → ActsAlone terms.port added
      → ChangesObject terms change tries object seen added told → ChangesObject single change tries object seen added told
  object_changed_apart change object seen added told alone (outcome, h, is) = (
    outcome,
    objects_apart _ _ seen added alone (λ s a only. attempts_undisturbed terms object change tries s a outcome some only) h,
    is,
  )

  pub have_changed_apart : (change : Change) (n : ℕ) (seen added : ChipHistory) → ActsAlone terms.port added
      → HaveChanged terms change tries n seen added → HaveChanged single change tries n seen added
  have_changed_apart change zero seen added alone h = h
  have_changed_apart change (suc n) seen added alone h =
      both_apart _ _ _ _ seen added alone (λ s a only. have_changed_apart change n s a only)
      (λ s a only. object_changed_apart change (suc n) s a (Ok tt) only) h

  pub objects_changed_apart : (change : Change) (seen added : ChipHistory) (told : Result (Unit {0}) AccessError)
      → ActsAlone terms.port added
      → ChangesObjects terms change tries seen added told → ChangesObjects single change tries seen added told
  objects_changed_apart change seen added (Ok done) alone h =
      have_changed_apart change (objects_in terms.profile) seen added alone h
  objects_changed_apart change seen added (Err why) alone (n, below, h) = (
    n,
    below,
    both_apart _ _ _ _ seen added alone (λ s a only. have_changed_apart change n s a only)
        (λ s a only. object_changed_apart change (suc n) s a (Err why) only) h,
  )

  pub chip_reset_apart : (reset : ControllerChange) (seen added : ChipHistory) (told : Result (Unit {0}) AccessError)
      → ActsAlone terms.port added
      → ResetsChip terms reset tries seen added told → ResetsChip single reset tries seen added told
  chip_reset_apart reset seen added told alone (inl h) = inl h
  chip_reset_apart reset seen added told alone (inr h) =
      inr (then_apart _ _ _ seen added alone (λ s a only. objects_changed_apart Reset s a told only) h)

  pub requests_apart : (value : ℕ) (own left : InterfaceSet) (seen added : ChipHistory) (told : Result (Unit {0}) AccessError)
      → ActsAlone terms.port added
      → access.Requests terms tries value own seen added told left → access.Requests single tries value own seen added told left
  requests_apart value own left seen added told alone k = record {
    reply = k.reply;
    transferred = transferred_apart value own left seen added k.reply alone k.transferred;
    told_is = k.told_is;
  }

  pub sends_apart : (object : ℕ) (own left : InterfaceSet) (seen added : ChipHistory) (told : Result (Unit {0}) AccessError)
      → ActsAlone terms.port added
      → Sends terms tries object own seen added told left → Sends single tries object own seen added told left
  sends_apart object own left seen added told alone k = record {
    outcome = k.outcome;
    attempt =
        objects_apart _ _ seen added alone
        (λ s a only. attempts_undisturbed terms object (Send own.registers.command own.registers.buffer) tries s a k.outcome some
        only) k.attempt;
    told_is = k.told_is;
    left_is = k.left_is;
  }

  pub requests_by_apart : (layout : Map) (value : ℕ) (own left : InterfaceSet) (seen added : ChipHistory)
      (told : Result (Unit {0}) AccessError) → ActsAlone terms.port added
      → RequestsBy layout terms tries value own seen added told left → RequestsBy layout single tries value own seen added told left
  requests_by_apart Narrow value own left seen added told alone h = requests_apart value own left seen added told alone h
  requests_by_apart Wide value own left seen added told alone h = requests_apart value own left seen added told alone h
  requests_by_apart Dcan value own left seen added told alone h =
      passed_or_not (is_object_of terms.profile (number_in value)) _ _ _ _
      (passed_or_not (is_sending own.registers.command) _ _ _ _
      (sends_apart (number_in value) own left seen added told alone)
      (requests_apart (number_in value) own left seen added told alone))
      (λ k. record { quiet = k.quiet; told_is = k.told_is; left_is = k.left_is }) h

  pub rest_written_apart : (layout : Map) (r : Register) (value : ℕ) (own left : InterfaceSet) (seen added : ChipHistory)
      (told : Result (Unit {0}) AccessError) → ActsAlone terms.port added
      → WritesRest terms tries layout r value own seen added told left
      → WritesRest single tries layout r value own seen added told left
  rest_written_apart layout register.Control value own left seen added told alone h = h
  rest_written_apart layout register.ControlUpper value own left seen added told alone h = h
  rest_written_apart layout register.Status value own left seen added told alone h = h
  rest_written_apart layout register.ErrorCounter value own left seen added told alone h = h
  rest_written_apart layout register.BitTiming value own left seen added told alone h = h
  rest_written_apart layout register.Interrupt value own left seen added told alone h = h
  rest_written_apart layout register.Test value own left seen added told alone h = h
  rest_written_apart layout register.Extension value own left seen added told alone h = h
  rest_written_apart layout (register.Request interface) value own left seen added told alone h =
      passed_or_not (is_own terms.port interface) _ _ _ _ (requests_by_apart layout value own left seen added told alone) same h
  rest_written_apart layout (register.Buffer interface reg) value own left seen added told alone h = h
  rest_written_apart layout (register.Flags flag place) value own left seen added told alone h = h

  pub writes_apart : (layout : Map) (r : Register) (value : ℕ) (own left : InterfaceSet) (seen added : ChipHistory)
      (told : Result (Unit {0}) AccessError) → ActsAlone terms.port added
      → Writes terms tries layout r value own seen added told left → Writes single tries layout r value own seen added told left
  writes_apart layout r value own left seen added told alone h =
      passed_or_not (asks_for_reset layout r value) _ _ _ _
      (λ k. record { resets = chip_reset_apart ResetDcan seen added told alone k.resets; left_is = k.left_is })
      (known_or_not (change_by layout r value) _ _ (λ z. access.WritesController terms z tries own seen added told left)
      (λ z. access.WritesController single z tries own seen added told left)
      (rest_written_apart layout r value own left seen added told alone)
      (λ z k. record { makes = k.makes; left_is = k.left_is })) h

  pub reads_at_apart : (layout : Map) (offset : ℕ) (own : InterfaceSet) (seen added : ChipHistory)
      (told : Option (Result ℕ AccessError)) → ActsAlone terms.port added
      → ReadsAt terms tries layout offset own seen added told → ReadsAt single tries layout offset own seen added told
  reads_at_apart layout offset own seen added None alone h = h
  reads_at_apart layout offset own seen added (Some told) alone (r, at, h) =
      (r, at, reads_apart layout r own seen added told alone h)

  pub writes_at_apart : (layout : Map) (offset value : ℕ) (own left : InterfaceSet) (seen added : ChipHistory)
      (told : Option (Result (Unit {0}) AccessError)) → ActsAlone terms.port added
      → WritesAt terms tries layout offset value own seen added told left
      → WritesAt single tries layout offset value own seen added told left
  writes_at_apart layout offset value own left seen added None alone h = h
  writes_at_apart layout offset value own left seen added (Some told) alone (r, at, h) =
      (r, at, writes_apart layout r value own left seen added told alone h)

  -- ---- bytes of registers

  pub reads_byte_apart : (layout : Map) (offset : ℕ) (own : InterfaceSet) (seen added : ChipHistory)
      (told : Option (Result ℕ AccessError)) → ActsAlone terms.port added
      → ReadsByte terms tries layout offset own seen added told → ReadsByte single tries layout offset own seen added told
  reads_byte_apart layout offset own seen added told alone (word, h, is) =
      (word, reads_at_apart layout (start_of_register offset) own seen added word alone h, is)

  pub timing_byte_apart : (layout : Map) (byte : Byte) (value : ℕ) (own left : InterfaceSet) (seen added : ChipHistory)
      (told : Result (Unit {0}) AccessError) → ActsAlone terms.port added
      → WritesTimingByte terms tries layout byte value own seen added told left
      → WritesTimingByte single tries layout byte value own seen added told left
  timing_byte_apart layout byte value own left seen added told alone h = record {
    found = h.found;
    steps =
        then_apart _ _ _ seen added alone
        (λ s a only. writes_apart layout register.BitTiming (with_byte byte value h.found.timing.register) own left s a told only)
        h.steps;
  }

  pub reset_in_init_apart : (own left : InterfaceSet) (seen added : ChipHistory) (told : Result (Unit {0}) AccessError)
      → ActsAlone terms.port added
      → ResetsInInit terms tries own seen added told left → ResetsInInit single tries own seen added told left
  reset_in_init_apart own left seen added told alone h = record {
    found = h.found;
    steps =
        then_apart _ _ _ seen added alone
        (λ s a only. passed_or_not h.found.control.init _ _ _ _
        (λ k. record { resets = chip_reset_apart ResetDcan s a told only k.resets; left_is = k.left_is }) same) h.steps;
  }

  pub lower_apart : (layout : Map) (r : Register) (value : ℕ) (own left : InterfaceSet) (seen added : ChipHistory)
      (told : Result (Unit {0}) AccessError) → ActsAlone terms.port added
      → WritesLower terms tries layout r value own seen added told left
      → WritesLower single tries layout r value own seen added told left
  lower_apart layout register.Control value own left seen added told alone h =
      writes_apart layout register.Control value own left seen added told alone h
  lower_apart layout register.ControlUpper value own left seen added told alone h = h
  lower_apart layout register.Status value own left seen added told alone h =
      writes_apart layout register.Status value own left seen added told alone h
  lower_apart layout register.ErrorCounter value own left seen added told alone h =
      writes_apart layout register.ErrorCounter value own left seen added told alone h
  lower_apart layout register.BitTiming value own left seen added told alone h =
      timing_byte_apart layout Lower value own left seen added told alone h
  lower_apart layout register.Interrupt value own left seen added told alone h =
      writes_apart layout register.Interrupt value own left seen added told alone h
  lower_apart layout register.Test value own left seen added told alone h =
      writes_apart layout register.Test value own left seen added told alone h
  lower_apart layout register.Extension value own left seen added told alone h =
      writes_apart layout register.Extension value own left seen added told alone h
  lower_apart layout (register.Request interface) value own left seen added told alone h =
      writes_apart layout (register.Request interface) value own left seen added told alone h
  lower_apart layout (register.Buffer interface reg) value own left seen added told alone h =
      writes_apart layout (register.Buffer interface reg) (with_byte Lower value (shown reg own.registers)) own left seen added
      told alone h
  lower_apart layout (register.Flags flag place) value own left seen added told alone h =
      writes_apart layout (register.Flags flag place) value own left seen added told alone h

  pub upper_apart : (layout : Map) (r : Register) (value : ℕ) (own left : InterfaceSet) (seen added : ChipHistory)
      (told : Result (Unit {0}) AccessError) → ActsAlone terms.port added
      → WritesUpper terms tries layout r value own seen added told left
      → WritesUpper single tries layout r value own seen added told left
  upper_apart layout register.Control value own left seen added told alone h =
      passed_or_not (has_reset layout value) _ _ _ _ (reset_in_init_apart own left seen added told alone) same h
  upper_apart layout register.ControlUpper value own left seen added told alone h =
      writes_apart layout register.ControlUpper (with_byte Upper value 0) own left seen added told alone h
  upper_apart layout register.Status value own left seen added told alone h = h
  upper_apart layout register.ErrorCounter value own left seen added told alone h = h
  upper_apart layout register.BitTiming value own left seen added told alone h =
      timing_byte_apart layout Upper value own left seen added told alone h
  upper_apart layout register.Interrupt value own left seen added told alone h = h
  upper_apart layout register.Test value own left seen added told alone h = h
  upper_apart layout register.Extension value own left seen added told alone h = h
  upper_apart layout (register.Request interface) value own left seen added told alone h = h
  upper_apart layout (register.Buffer interface reg) value own left seen added told alone h =
      writes_apart layout (register.Buffer interface reg) (with_byte Upper value (shown reg own.registers)) own left seen added
      told alone h
  upper_apart layout (register.Flags flag place) value own left seen added told alone h = h

  pub byte_of_apart : (byte : Byte) (layout : Map) (r : Register) (value : ℕ) (own left : InterfaceSet) (seen added : ChipHistory)
      (told : Result (Unit {0}) AccessError) → ActsAlone terms.port added
      → WritesByteOf byte terms tries layout r value own seen added told left
      → WritesByteOf byte single tries layout r value own seen added told left
  byte_of_apart Lower layout r value own left seen added told alone h =
      lower_apart layout r value own left seen added told alone h
  byte_of_apart Upper layout r value own left seen added told alone h =
      upper_apart layout r value own left seen added told alone h

  pub writes_byte_apart : (layout : Map) (offset value : ℕ) (own left : InterfaceSet) (seen added : ChipHistory)
      (told : Option (Result (Unit {0}) AccessError)) → ActsAlone terms.port added
      → WritesByte terms tries layout offset value own seen added told left
      → WritesByte single tries layout offset value own seen added told left
  writes_byte_apart layout offset value own left seen added None alone h = h
  writes_byte_apart layout offset value own left seen added (Some told) alone (r, at, h) =
      (r, at, byte_of_apart (byte_in offset) layout r value own left seen added told alone h)

  -- ---- words of two registers

  pub halves_apart : (layout : Map) (offset : ℕ) (own : InterfaceSet) (seen added : ChipHistory)
      (told : Option (Result ℕ AccessError)) → ActsAlone terms.port added
      → ReadsHalves terms tries layout offset own seen added told → ReadsHalves single tries layout offset own seen added told
  halves_apart layout offset own seen added told alone (low, k) = (
    low,
    passed_or_not (is_refused low) _ _ _ _
        (λ (x, is). (reads_at_apart layout offset own seen added low alone x, is))
        (λ (high, x, is). (
          high,
          both_apart _ _ _ _ seen added alone
              (λ s a only. reads_at_apart layout offset own s a low only)
              (λ s a only. reads_at_apart layout (offset + 2) own s a high only) x,
          is,
        )) k,
  )

  pub word_apart : (layout : Map) (offset : ℕ) (own : InterfaceSet) (seen added : ChipHistory)
      (told : Option (Result ℕ AccessError)) → ActsAlone terms.port added
      → ReadsFlags terms layout offset seen added told ⊎ ReadsTiming terms layout offset seen added told
      ⊎ ReadsControl terms layout offset seen added told ⊎ ReadsApart terms tries layout offset own seen added told
      → ReadsFlags single layout offset seen added told ⊎ ReadsTiming single layout offset seen added told
      ⊎ ReadsControl single layout offset seen added told ⊎ ReadsApart single tries layout offset own seen added told
  word_apart layout offset own seen added told alone (inl h) =
      inl (record {
        flag = h.flag;
        low = h.low;
        high = h.high;
        are = h.are;
        word = h.word;
        shows = shown_flags_apart h.flag seen added h.word alone h.shows;
        told_is = h.told_is;
      })
  word_apart layout offset own seen added told alone (inr (inl h)) =
      inr (inl (record { are = h.are; found = h.found; looks = h.looks; told_is = h.told_is }))
  word_apart layout offset own seen added told alone (inr (inr (inl h))) =
      inr (inr (inl (record { are = h.are; found = h.found; looks = h.looks; told_is = h.told_is })))
  word_apart layout offset own seen added told alone (inr (inr (inr h))) =
      inr (inr (inr (record {
        no_flags = h.no_flags;
        no_timing = h.no_timing;
        no_control = h.no_control;
        halves = halves_apart layout offset own seen added told alone h.halves;
      })))

  pub reads_word_apart : (layout : Map) (offset : ℕ) (own : InterfaceSet) (seen added : ChipHistory)
      (told : Option (Result ℕ AccessError)) → ActsAlone terms.port added
      → ReadsWord terms tries layout offset own seen added told → ReadsWord single tries layout offset own seen added told
  reads_word_apart layout offset own seen added told alone h =
      passed_or_not (offset % 4 == 0) _ _ _ _ (word_apart layout offset own seen added told alone) same h

  pub halves_written_apart : (layout : Map) (offset value : ℕ) (own left : InterfaceSet) (seen added : ChipHistory)
      (told : Option (Result (Unit {0}) AccessError)) → ActsAlone terms.port added
      → WritesHalves terms tries layout offset value own seen added told left
      → WritesHalves single tries layout offset value own seen added told left
  halves_written_apart layout offset value own left seen added told alone (high, k) = (
    high,
    passed_or_not (is_refused high) _ _ _ _
        (λ (x, is). (writes_at_apart layout (offset + 2) (value / 2 ^ 16) own left seen added high alone x, is))
        (λ (low, between, x, is). (
          low,
          between,
          both_apart _ _ _ _ seen added alone
              (λ s a only. writes_at_apart layout (offset + 2) (value / 2 ^ 16) own between s a high only)
              (λ s a only. writes_at_apart layout offset (value % 2 ^ 16) between left s a low only) x,
          is,
        )) k,
  )

  pub control_written_apart : (layout : Map) (value : ℕ) (own left : InterfaceSet) (seen added : ChipHistory)
      (told : Result (Unit {0}) AccessError) → ActsAlone terms.port added
      → WritesControlWord terms tries layout value own seen added told left
      → WritesControlWord single tries layout value own seen added told left
  control_written_apart layout value own left seen added told alone h =
      passed_or_not (asks_for_reset layout register.Control (value % 2 ^ 16)) _ _ _ _
      (λ k. record { resets = chip_reset_apart ResetDcan seen added told alone k.resets; left_is = k.left_is })
      (λ k. record { makes = k.makes; left_is = k.left_is }) h

  pub word_written_apart : (layout : Map) (offset value : ℕ) (own left : InterfaceSet) (seen added : ChipHistory)
      (told : Option (Result (Unit {0}) AccessError)) → ActsAlone terms.port added
      → WritesTiming terms tries layout offset value own seen added told left
      ⊎ WritesControl terms tries layout offset value own seen added told left
      ⊎ WritesApart terms tries layout offset value own seen added told left
      → WritesTiming single tries layout offset value own seen added told left
      ⊎ WritesControl single tries layout offset value own seen added told left
      ⊎ WritesApart single tries layout offset value own seen added told left
  word_written_apart layout offset value own left seen added told alone (inl h) =
      inl (record {
        are = h.are;
        ended = h.ended;
        writes = record { makes = h.writes.makes; left_is = h.writes.left_is };
        told_is = h.told_is;
      })
  word_written_apart layout offset value own left seen added told alone (inr (inl h)) =
      inr (inl (record {
        are = h.are;
        ended = h.ended;
        writes = control_written_apart layout value own left seen added h.ended alone h.writes;
        told_is = h.told_is;
      }))
  word_written_apart layout offset value own left seen added told alone (inr (inr h)) =
      inr (inr (record {
        no_timing = h.no_timing;
        no_control = h.no_control;
        halves = halves_written_apart layout offset value own left seen added told alone h.halves;
      }))

  pub writes_word_apart : (layout : Map) (offset value : ℕ) (own left : InterfaceSet) (seen added : ChipHistory)
      (told : Option (Result (Unit {0}) AccessError)) → ActsAlone terms.port added
      → WritesWord terms tries layout offset value own seen added told left
      → WritesWord single tries layout offset value own seen added told left
  writes_word_apart layout offset value own left seen added told alone h =
      passed_or_not (offset % 4 == 0) _ _ _ _ (word_written_apart layout offset value own left seen added told alone) same h

  -- ---- local power down

  pub powers_down_apart : (seen added : ChipHistory) (told : Result Bool AccessError) → ActsAlone terms.port added
      → PowersDown terms tries seen added told → PowersDown single tries seen added told
  powers_down_apart seen added told alone (found, h) = (
    found,
    then_apart _ _ _ seen added alone
        (λ s a only. passed_or_not (is_to_power_down found) _ _ _ _
        (λ (requests, k). (
          requests,
          both_apart _ _ _ _ s a only (λ s a only. shown_flags_apart TxRqst s a requests only) (λ s a only k. k) k,
        )) same) h,
  )
