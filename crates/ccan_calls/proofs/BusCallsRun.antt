-- A call on the bus's handle is its process.
use Rattle.std.proofs.Common.{ℕ, ◌≡◌, ◌↔◌, inl, inr, ◌==◌, [], ◌++◌, Bool, Option, true, false, Some, Result, Ok, Err, nat_le, refl, sym, ap, subst, ◌∙◌, arith}
use Rattle.ccan_confine.specs.declared.controller.Controller.{Controller}
use Rattle.ccan_confine.specs.declared.controller_change.ControllerChange.{ControllerChange}
use Rattle.ccan_confine.specs.declared.controller_change.ControllerChange.TheVariants.{Recessive}
use Rattle.ccan_confine.specs.Counters.{Counts, counts_of}
use Rattle.ccan_ram.specs.declared.flag.Flag.{Flag}
use Rattle.ccan_ram.specs.declared.port.PortName.TheVariants.{Bus}
use Rattle.ccan_ram.specs.Terms.{Terms}
use Rattle.ccan_bus.specs.declared.answer.LoadAnswer.{LoadAnswer}
use Rattle.ccan_bus.specs.declared.choice.Choice.TheVariants.{AtOnce}
use Rattle.ccan_bus.specs.Past.{BusPast}
use Rattle.ccan_process.specs.Process.{Ended}
use Rattle.ccan_line.specs.declared.line_answer.LineAnswer.TheVariants as answer
use Rattle.ccan_line.specs.Limits.{most_groups}
use Rattle.ccan_endless.specs.declared.chip.ControllerStep.TheVariants.{Look}
use Rattle.ccan_endless.specs.declared.controller_changed.ControllerBusy.{ControllerBusy}
use Rattle.ccan_endless.specs.declared.controller_changed.ControllerChanged.{ControllerChanged}
use Rattle.ccan_endless.specs.Chip.{ChipHistory}
use Rattle.ccan_chip.specs.declared.map.Map.{Map}
use Rattle.ccan_chip.specs.declared.map.Map.TheVariants.{Narrow}
use Rattle.ccan_registers.specs.declared.access_error.AccessError.TheVariants as why
use Rattle.ccan_registers.specs.declared.interface_set.InterfaceSet.{InterfaceSet}
use Rattle.ccan_registers.specs.Bytes.{ReadsByte, WritesByte}
use Rattle.ccan_registers.specs.ChipSteps.{AtController, Changes, Makes, Then, made_or_busy}
use Rattle.ccan_registers.specs.InterfaceSet.{zero_set}
use Rattle.ccan_registers.specs.Objects.{ShowsFlags}
use Rattle.ccan_registers.specs.Register.{ReadsAt, ReadsWord, WritesAt, WritesWord, InterruptValue, PullsLine, ReadsStatus, read_of, status_told}
use Rattle.ccan_registers.specs.Rounds.{LoadsOnChip, RecoversOnChip}
use Rattle.ccan_c.specs.declared.shown_counters.ShownCounters.{ShownCounters}
use Rattle.ccan_c.specs.declared.shown_load.ShownLoad.{ShownLoad}
use Rattle.ccan_c.specs.Answer.{c_counters, code_of}
use Rattle.ccan_c.specs.Load.{c_load}
use Rattle.ccan_c.specs.Bus.{enabling, is_on, looping, starting, testing}
use Rattle.ccan_c.specs.BusCall.{BusCall, BusCallMeans, Counts0, CountsController, CountsNode, LoopsBack, MakesChange, TellsState, TellsStatus, code_got as code_on}
use Rattle.ccan_c.specs.BusCall as bus
use Rattle.ccan_c.specs.Codes.{busy, done, flag_range, groups_range, node_range, untold}
use Rattle.ccan_c.specs.Host.{flag_numbered, number_of}
use Rattle.ccan_c.specs.HostCall.{IsRead, code_of_access}
use Rattle.ccan_c.specs.Settings.{is_from_one_to}
use Rattle.ccan_c.specs.Step.{Rests}
use Rattle.ccan_calls.specs.Answer.{Counters, CountersAt, LoadingAt, NoPlace, Nothing, Number, NumberAt, Place, end_of, refuses, word_given}
use Rattle.ccan_calls.specs.BusAsk.{asked_on, place_on}
use Rattle.ccan_calls.specs.BusCallProcess.{bus_process, coded, controller_shown, counts, load_end, loops_back, recessive_bits, recessive_end, status_read, writes_by}
use Rattle.ccan_calls.specs.BusRegisters.{bus_writes_at, bus_writes_byte, bus_writes_word}
use Rattle.ccan_calls.specs.HostCallProcess.{reads_off}
use Rattle.ccan_calls.specs.LoadProcess.{LoadEnd, loads}
use Rattle.ccan_calls.specs.Laws.{BusCallsAreProcesses, ComesTo}
use Rattle.ccan_calls.specs.Parts.{flag_shown, line_pulled, value_shown}
use Rattle.ccan_calls.specs.Process.{ChangesController, LooksAtController, Process, ending}
use Rattle.ccan_calls.specs.ReadProcess.{Word, reads_at, reads_byte}
use Rattle.ccan_calls.specs.Runs.{Runs}
use Rattle.ccan_calls.specs.WordProcess.{OffEnd, reads_word, writes_word}
use Rattle.ccan_calls.specs.WriteProcess.{writes_at, writes_byte, Written, change_controller, unless_refused}
use Rattle.ccan_calls.proofs.BusReads.{reads_at_alike, reads_byte_alike, reads_word_alike}
use Rattle.ccan_calls.proofs.BusWrites.{at_kept, byte_at_kept, word_kept, writes_kept}
use Rattle.ccan_calls.proofs.Comes.{Got, chosen, ended, ends_with, picked, rests}
use Rattle.ccan_calls.proofs.AnyHandle.{heeds, in_read, read_in, reads_so, tells}
use Rattle.ccan_calls.proofs.Interrupts.{pulls_line, shows_flag, values}
use Rattle.ccan_calls.proofs.LoadsRun.{loads_so}
use Rattle.ccan_calls.proofs.Processes.{one_act, only_first}
use Rattle.ccan_calls.proofs.ReadsRun.{read_at, read_byte}
use Rattle.ccan_calls.proofs.RoundsAsked.{round_asked}
use Rattle.ccan_calls.proofs.WordsRun.{read_word, write_word}
use Rattle.ccan_calls.proofs.WritesRun.{makes, write_at, write_byte}

module _ (terms : Terms) (tries : ℕ) (past after : BusPast) (seen added : ChipHistory) where
  -- ---- changes of the controller

  -- what was done or refused is the code
  codes : (result : ℕ) (what : Written → Type 0) (process : Process Written)
      → ((told : Written) → what told ↔ Runs terms tries process seen added told)
      → ((told : Written) × what told × (result ≡ code_of_access (Some told))) × (after ≡ past)
      ↔ ComesTo terms tries result NoPlace (coded process past) seen added after
  codes result what process same =
      let all = ends_with terms tries result NoPlace after seen added what process
      (λ told. end_of (code_of_access (Some told)) Nothing past) same in (
        λ h. let ((told, so, code), left) = h in all.0 (told, so, (code, tt, left)),
        λ h. let (told, so, got) = all.1 h in ((told, so, got.0), got.2),
      )

  changes : (result : ℕ) (change : ControllerChange) → MakesChange terms change tries seen added result × (after ≡ past)
      ↔ ComesTo terms tries result NoPlace (coded (change_controller change) past) seen added after
  changes result change =
      codes result (λ told. Makes terms change tries seen added told) (change_controller change)
      (λ told. makes terms tries seen added told change)

  -- the Status register
  tells_status : (result out : ℕ) → TellsStatus terms tries seen added result out × (after ≡ past)
      ↔ ComesTo terms tries result (NumberAt out)
      (ending status_read (λ told. end_of (code_of_access (Some told)) (word_given (Some told)) past)) seen added after
  tells_status result out =
      let all = ends_with terms tries result (NumberAt out) after seen added
      (λ told. ReadsStatus terms Narrow tries seen added told) status_read
      (λ told. end_of (code_of_access (Some told)) (word_given (Some told)) past)
      (λ told.
      let one = one_act terms tries (ChangesController (read_of Narrow)) (λ outcome. status_told Narrow outcome) seen added told
      in (one.1, one.0)) in (
        λ h. let ((told, so, code, is), left) = h in all.0 (told, so, (code, read_in (Some told) out is, left)),
        λ h. let (told, so, got) = all.1 h in ((told, so, got.0, in_read (Some told) out got.1), got.2),
      )

  -- ---- looks

  asks_value : (result out : ℕ)
      → (result ≡ done) × ((found : Controller) × InterruptValue terms seen added found out) × (after ≡ past)
      ↔ ComesTo terms tries result (NumberAt out) (ending value_shown (λ value. end_of done (Number value) past)) seen added after
  asks_value result out =
      let all = ends_with terms tries result (NumberAt out) after seen added
      (λ value. (found : Controller) × InterruptValue terms seen added found value) value_shown
      (λ value. end_of done (Number value) past) (λ value. values terms tries seen added value) in (
        λ h. let (code, so, left) = h in all.0 (out, so, (code, refl, left)),
        λ h.
            let (value, so, got) = all.1 h in (
              got.0,
              subst (λ v. (found : Controller) × InterruptValue terms seen added found v) (sym got.1) so,
              got.2,
            ),
      )

  reads_flag : (result out : ℕ) (flag : Flag) → (result ≡ done) × ShowsFlags terms flag seen added out × (after ≡ past)
      ↔ ComesTo terms tries result (NumberAt out) (ending (flag_shown flag) (λ word. end_of done (Number word) past)) seen added
      after
  reads_flag result out flag =
      let all = ends_with terms tries result (NumberAt out) after seen added
      (λ word. ShowsFlags terms flag seen added word) (flag_shown flag) (λ word. end_of done (Number word) past)
      (λ word. shows_flag terms tries seen added flag word) in (
        λ h. let (code, so, left) = h in all.0 (out, so, (code, refl, left)),
        λ h.
            let (word, so, got) = all.1 h in
            (got.0, subst (λ w. ShowsFlags terms flag seen added w) (sym got.1) so, got.2),
      )

  pulls : (result out : ℕ)
      → (result ≡ done) × ((pulled : Bool) × (out ≡ number_of pulled) × PullsLine terms seen added pulled) × (after ≡ past)
      ↔ ComesTo terms tries result (NumberAt out) (ending line_pulled (λ pulled. end_of done (Number (number_of pulled)) past)) seen
      added after
  pulls result out =
      let all = ends_with terms tries result (NumberAt out) after seen added
      (λ pulled. PullsLine terms seen added pulled) line_pulled (λ pulled. end_of done (Number (number_of pulled)) past)
      (λ pulled. pulls_line terms tries seen added pulled) in (
        λ h. let (code, (pulled, is, so), left) = h in all.0 (pulled, so, (code, is, left)),
        λ h. let (pulled, so, got) = all.1 h in (got.0, (pulled, got.1, so), got.2),
      )

  -- ---- counters

  counts_controller : (result : ℕ) (out : ShownCounters) → CountsController terms seen added result out × (after ≡ past)
      ↔ ComesTo terms tries result (CountersAt out)
      (ending controller_shown (λ found. end_of done (Counters (c_counters found.counters.levels)) past)) seen added after
  counts_controller result out =
      let all = ends_with terms tries result (CountersAt out) after seen added
      (λ found. AtController terms.port Look found seen added) controller_shown
      (λ found. end_of done (Counters (c_counters found.counters.levels)) past)
      (λ found.
      let one = one_act terms tries LooksAtController (λ (c : Controller). c) seen added found in (
        λ h. one.1 (found, h, refl),
        λ h. let (c, on, is) = one.0 h in subst (λ d. AtController terms.port Look d seen added) (sym is) on,
      )) in (
        λ h. let ((found, on, code, is), left) = h in all.0 (found, on, (code, is, left)),
        λ h. let (found, on, got) = all.1 h in ((found, on, got.0, got.1), got.2),
      )

  abbrev levels_of : ℕ → ShownCounters
  levels_of node = c_counters (counts_of false (past.events node)).levels

  counts_node : (node result : ℕ) (out : ShownCounters) → CountsNode node past added after result out
      ↔ ComesTo terms tries result (CountersAt out) (Ended (end_of done (Counters (levels_of node)) past)) seen added after
  counts_node node result out =
      let end = ended terms tries result (CountersAt out) after seen added (end_of done (Counters (levels_of node)) past) in (
        λ h.
            let (numbers, are, is, still) = h in
            end.0 (still.quiet, (still.code_is, is ∙ ap (λ (c : Counts). c_counters c.levels) are, still.leaves)),
        λ h.
            let (none, got) = end.1 h in (
              counts_of false (past.events node),
              refl,
              got.1,
              record { code_is = got.0; quiet = none; leaves = got.2 },
            ),
      )

  counts_so : (node result : ℕ) (out : ShownCounters) → Counts0 terms node past seen added after result out
      ↔ ComesTo terms tries result (CountersAt out) (counts node past) seen added after
  counts_so node result out =
      chosen terms tries result (CountersAt out) after seen added (node == 0) _ _ _ _ (counts_controller result out)
      (counts_node node result out)

  -- ---- recessive bits

  recovers_so : (groups result out : ℕ)
      → ((outcome : Result ControllerChanged ControllerBusy) × RecoversOnChip terms groups tries past seen added after outcome
      × TellsState outcome result out)
      ↔ ComesTo terms tries result (NumberAt out) (ending (recessive_bits groups) (recessive_end groups past)) seen added after
  recovers_so groups result out =
      let all = ends_with terms tries result (NumberAt out) after seen added
      (λ outcome. Changes terms.port (Recessive groups) tries seen added outcome) (recessive_bits groups)
      (recessive_end groups past)
      (λ outcome.
      let one = one_act terms tries (ChangesController (Recessive groups))
      (λ (o : Result ControllerChanged ControllerBusy). o) seen added outcome in (
        λ h. one.1 (outcome, h, refl),
        λ h.
            let (o, on, is) = one.0 h in
            subst (λ p. Changes terms.port (Recessive groups) tries seen added p) (sym is) on,
      )) in (
        λ h. let (outcome, so, told) = h in all.0 (to_end outcome so told),
        λ h. let (outcome, so, got) = all.1 h in of_end outcome so got,
      )
    where
      to_end : (outcome : Result ControllerChanged ControllerBusy)
          → RecoversOnChip terms groups tries past seen added after outcome → TellsState outcome result out
          → (o : Result ControllerChanged ControllerBusy) × Changes terms.port (Recessive groups) tries seen added o
          × Got terms tries result (NumberAt out) after seen added (recessive_end groups past o)
      to_end (Ok made) so told = (Ok made, so.0, (told.0, told.1, so.1))
      to_end (Err lost) so told = (Err lost, so.0, (told, tt, so.1))

      of_end : (o : Result ControllerChanged ControllerBusy) → Changes terms.port (Recessive groups) tries seen added o
          → Got terms tries result (NumberAt out) after seen added (recessive_end groups past o)
          → (outcome : Result ControllerChanged ControllerBusy)
          × RecoversOnChip terms groups tries past seen added after outcome × TellsState outcome result out
      of_end (Ok made) so got = (Ok made, (so, got.2), (got.0, got.1))
      of_end (Err lost) so got = (Err lost, (so, got.2), got.0)

  -- ---- loop back mode

  abbrev code_told : Written → ℕ
  code_told told = code_of_access (Some told)

  abbrev Loops : ℕ → Type 0
  Loops result = (told : Written) × Runs terms tries (loops_back true) seen added told × (result ≡ code_told told)

  -- test mode could not be set
  lost : (result : ℕ) (told : Written) (outcome : Result ControllerChanged ControllerBusy)
      → Changes terms.port (testing true) tries seen added outcome → told ≡ made_or_busy outcome → busy ≡ code_told told
      → result ≡ busy → Loops result
  lost result told (Ok made) changes is code coded =
      let wrong : busy ≡ done = code ∙ ap code_told is in absurd (omega (arith, wrong))
  lost result told (Err busy_so) changes is code coded = (
    Err why.Busy,
    (Err busy_so, record { earlier = added; later = []; whole = refl; begins = changes; ends = (refl, refl) }),
    coded,
  )

  -- it was set, and then LBack is
  set_then : (result : ℕ) (told : Written) (outcome : Result ControllerChanged ControllerBusy) → told ≡ made_or_busy outcome
      → done ≡ code_told told
      → Then (λ s a. Changes terms.port (testing true) tries s a outcome) (λ s a. MakesChange terms looping tries s a result) seen
      added → Loops result
  set_then result told (Ok made) is code steps =
      let (last, looped, coded) = steps.ends in (
        last,
        (
          Ok made,
          record {
            earlier = steps.earlier;
            later = steps.later;
            whole = steps.whole;
            begins = steps.begins;
            ends = (makes terms tries (steps.earlier ++ seen) steps.later last looping).0 looped;
          },
        ),
        coded,
      )
  set_then result told (Err lost_so) is code steps =
      let wrong : done ≡ busy = code ∙ ap code_told is in absurd (omega (arith, wrong))

  to_loops : (result : ℕ) → LoopsBack terms tries true seen added result → Loops result
  to_loops result (inl (is, (told, (outcome, changes, made), code))) = lost result told outcome changes made code is
  to_loops result (inr steps) =
      let (told, first, code) = steps.begins in
      let (outcome, changes, made) = first in
      set_then result told outcome made code (record {
        earlier = steps.earlier;
        later = steps.later;
        whole = steps.whole;
        begins = changes;
        ends = steps.ends;
      })

  of_loops : (result : ℕ) (told : Written) (outcome : Result ControllerChanged ControllerBusy)
      → Then (λ s a. Changes terms.port (testing true) tries s a outcome)
      (λ s a. Runs terms tries (unless_refused (made_or_busy outcome) (change_controller looping)) s a told) seen added
      → result ≡ code_told told → LoopsBack terms tries true seen added result
  of_loops result told (Ok made) steps code = inr (record {
    earlier = steps.earlier;
    later = steps.later;
    whole = steps.whole;
    begins = (Ok tt, (Ok made, steps.begins, refl), refl);
    ends = (told, (makes terms tries (steps.earlier ++ seen) steps.later told looping).1 steps.ends, code);
  })
  of_loops result told (Err lost_so) steps code =
      let whole = only_first added steps.earlier steps.later steps.whole steps.ends.0 in
      inl (
        code ∙ ap code_told steps.ends.1,
        (
          Err why.Busy,
          (Err lost_so, subst (λ es. Changes terms.port (testing true) tries seen es (Err lost_so)) whole steps.begins, refl),
          refl,
        ),
      )

  loops_so : (on : Bool) (result : ℕ) → LoopsBack terms tries on seen added result
      ↔ ((told : Written) × Runs terms tries (loops_back on) seen added told × (result ≡ code_told told))
  loops_so true result = (to_loops result, λ h. let (told, (outcome, steps), code) = h in of_loops result told outcome steps code)
  loops_so false result =
      let made = λ (told : Written). makes terms tries seen added told (testing false) in (
        λ h. let (told, so, code) = h in (told, (made told).0 so, code),
        λ h. let (told, on, code) = h in (told, (made told).1 on, code),
      )

  loops : (on : Bool) (result : ℕ) → LoopsBack terms tries on seen added result × (after ≡ past)
      ↔ ComesTo terms tries result NoPlace (coded (loops_back on) past) seen added after
  loops on result =
      let same = loops_so on result in
      let all = codes result (λ told. Runs terms tries (loops_back on) seen added told) (loops_back on)
      (λ told. (λ h. h, λ h. h)) in (
        λ h. all.0 (same.0 h.0, h.1),
        λ h. let (so, left) = all.1 h in (same.1 so, left),
      )

-- ---- all calls

module _ (terms : Terms) (tries nodes : ℕ) (map : Map) (past after : BusPast) (seen added : ChipHistory)
    (is_bus : terms.port ≡ Bus) (at_once : past.choice ≡ AtOnce) where
  abbrev IsProcess : BusCall → Type 0
  IsProcess call =
      BusCallMeans terms tries nodes map call past seen added after
      ↔ ComesTo terms tries (code_on call) (place_on call) (bus_process terms map nodes (asked_on call) past) seen added after

  refused : (result : ℕ) (place : Place) (code : ℕ) → Rests code past after added result
      ↔ ComesTo terms tries result place (refuses code past) seen added after
  refused result place code = rests terms tries result place after seen added code past

  -- whatever the interface registers are
  reads_any : (result out : ℕ) (process : InterfaceSet → Process (Option Word))
      → ((own other : InterfaceSet) → process own ≡ process other) → (what : InterfaceSet → Option Word → Type 0)
      → ((own : InterfaceSet) (told : Option Word) → what own told ↔ Runs terms tries (process own) seen added told)
      → ((own : InterfaceSet) × ((told : Option Word) × what own told × (result ≡ code_of_access told) × IsRead told out)
      × (after ≡ past)) ↔ ComesTo terms tries result (NumberAt out) (reads_off (process zero_set) past) seen added after
  reads_any result out process alike what each =
      let all = reads_so terms tries past after seen added result out (process zero_set) (what zero_set) (each zero_set) in (
        λ h.
            let (own, so, left) = h in
            let (told, reads, code, is) = so in
            let here = (each zero_set told).1
            (subst (λ p. Runs terms tries p seen added told) (alike own zero_set) ((each own told).0 reads)) in
            all.0 ((told, here, code, is), left),
        λ h. let (so, left) = all.1 h in (zero_set, so, left),
      )

  writes_any : (result : ℕ) (process : InterfaceSet → Process OffEnd) (told_so : Process (Option Written))
      → ((own : InterfaceSet) → process own ≡ ending told_so (λ told. (told, own)))
      → (what : InterfaceSet → Option Written → InterfaceSet → Type 0)
      → ((own : InterfaceSet) (told : Option Written) (left : InterfaceSet)
      → what own told left ↔ Runs terms tries (process own) seen added (told, left))
      → ((own : InterfaceSet) × ((told : Option Written) × what own told own × (result ≡ code_of_access told)) × (after ≡ past))
      ↔ ComesTo terms tries result NoPlace (writes_by told_so past) seen added after
  writes_any result process told_so same what each =
      let all = ends_with terms tries result NoPlace after seen added (λ told. (own : InterfaceSet) × what own told own) told_so
      (λ told. end_of (code_of_access told) Nothing past)
      (λ told. writes_kept terms tries seen added process told_so same what each told) in (
        λ h.
            let (own, so, left) = h in
            let (told, writes, code) = so in
            all.0 (told, (own, writes), (code, tt, left)),
        λ h.
            let (told, so, got) = all.1 h in
            let (own, writes) = so in
            (own, (told, writes, got.0), got.2),
      )

  loaded : (result : ℕ) (out : ShownLoad)
      → ((found : Controller) × (loading : LoadAnswer) × LoadsOnChip terms tries past seen added after found loading
      × (result ≡ code_of (answer.Load loading)) × (out ≡ c_load loading after.loaded))
      ↔ ComesTo terms tries result (LoadingAt out) (ending (loads terms.profile past) load_end) seen added after
  loaded result out =
      let all = ends_with terms tries result (LoadingAt out) after seen added
      (λ (end : LoadEnd). (found : Controller) × LoadsOnChip terms tries past seen added end.1 found end.0)
      (loads terms.profile past) load_end (λ end. loads_so terms tries past at_once seen added end.0 end.1) in (
        λ h. let (found, loading, so, code, is) = h in all.0 ((loading, after), (found, so), (code, is, refl)),
        λ h.
            let (end, loads_it, got) = all.1 h in
            let (found, so) = loads_it in (
              found,
              end.0,
              subst (λ p. LoadsOnChip terms tries past seen added p found end.0) (sym got.2) so,
              got.0,
              got.1 ∙ ap (λ (p : BusPast). c_load end.0 p.loaded) (sym got.2),
            ),
      )

  each : (call : BusCall) → IsProcess call
  each (bus.load result out) = loaded result out
  each (bus.status result out) = tells_status terms tries past after seen added result out
  each (bus.control sie eie result) =
      changes terms tries past after seen added result (enabling (is_on sie) (is_on eie))
  each (bus.init result) = changes terms tries past after seen added result starting
  each (bus.loop_back on result) = loops terms tries past after seen added (is_on on) result
  each (bus.recessive groups result out) =
      chosen terms tries result (NumberAt out) after seen added (is_from_one_to most_groups groups) _ _ _ _
      (recovers_so terms tries past after seen added groups result out) (refused result (NumberAt out) groups_range)
  each (bus.interrupt result out) = asks_value terms tries past after seen added result out
  each (bus.flags number result out) =
      picked terms tries result (NumberAt out) after seen added (flag_numbered number) _ _ _ _
      (refused result (NumberAt out) flag_range) (λ flag. reads_flag terms tries past after seen added result out flag)
  each (bus.counters node result out) =
      chosen terms tries result (CountersAt out) after seen added (nat_le node nodes) _ _ _ _
      (counts_so terms tries past after seen added node result out) (refused result (CountersAt out) node_range)
  each (bus.round offers number result out) =
      round_asked terms tries nodes past after at_once seen added result out offers number
  each (bus.read8 offset result out) =
      reads_any result out (reads_byte terms map offset) (λ own other. reads_byte_alike map own other terms is_bus offset)
      (λ own told. ReadsByte terms tries map offset own seen added told)
      (λ own told. read_byte terms tries map own seen added offset told)
  each (bus.write8 offset value result) =
      writes_any result (λ own. writes_byte terms map offset value own) (bus_writes_byte terms map offset value)
      (λ own. byte_at_kept terms is_bus map own offset value)
      (λ own told left. WritesByte terms tries map offset value own seen added told left)
      (λ own told left. write_byte terms tries map offset value own seen added left told)
  each (bus.read16 offset result out) =
      reads_any result out (reads_at terms map offset) (λ own other. reads_at_alike map own other terms is_bus offset)
      (λ own told. ReadsAt terms tries map offset own seen added told)
      (λ own told. read_at terms tries map own seen added offset told)
  each (bus.write16 offset value result) =
      writes_any result (λ own. writes_at terms map offset value own) (bus_writes_at terms map offset value)
      (λ own. at_kept terms is_bus map own offset value)
      (λ own told left. WritesAt terms tries map offset value own seen added told left)
      (λ own told left. write_at terms tries map offset value own seen added left told)
  each (bus.read32 offset result out) =
      reads_any result out (reads_word terms map offset) (λ own other. reads_word_alike map own other terms is_bus offset)
      (λ own told. ReadsWord terms tries map offset own seen added told)
      (λ own told. read_word terms tries map offset own seen added told)
  each (bus.write32 offset value result) =
      writes_any result (λ own. writes_word terms map offset value own) (bus_writes_word terms map offset value)
      (λ own. word_kept terms is_bus map own offset value)
      (λ own told left. WritesWord terms tries map offset value own seen added told left)
      (λ own told left. write_word terms tries map offset value own seen added told left)
  each (bus.line result out) = pulls terms tries past after seen added result out
  each (bus.tell note result) = tells terms tries past after seen added result note
  each (bus.heed note result) =
      picked terms tries result NoPlace after seen added note _ _ _ _ (refused result NoPlace untold)
      (λ told. heeds terms tries past after seen added result note told)

pub bus_calls : BusCallsAreProcesses
bus_calls terms tries nodes map call past after seen added is_bus at_once =
    each terms tries nodes map past after seen added is_bus at_once call
