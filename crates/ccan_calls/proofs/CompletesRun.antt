-- The steps at objects that a decision calls for are their process.
use Rattle.std.proofs.Common.{ℕ, ◌≡◌, ◌↔◌, List, [], ◌++◌, Option, true, Some, None, Result, Ok, Err, refl, sym, ap, subst, ◌∙◌}
use Rattle.std.proofs.lemmas.Bool.{false≢true}
use Rattle.ccan_object.specs.declared.record.Record.{Record}
use Rattle.ccan_accept.specs.declared.frame.Frame.{Frame}
use Rattle.ccan_ram.specs.declared.change.Change.TheVariants as change
use Rattle.ccan_ram.specs.declared.change.Changed.{Changed}
use Rattle.ccan_ram.specs.declared.change.Changed.TheVariants.{Done, NotNow}
use Rattle.ccan_ram.specs.declared.change.Refused.{Refused}
use Rattle.ccan_ram.specs.declared.change.Refused.TheVariants.{Busy, Spent}
use Rattle.ccan_ram.specs.declared.event.Event.{Event}
use Rattle.ccan_ram.specs.declared.sending.Sending.{Sending}
use Rattle.ccan_ram.specs.declared.sending.Sending.TheVariants.{Once, UntilSent}
use Rattle.ccan_ram.specs.Attempt.{Attempt}
use Rattle.ccan_ram.specs.Change.{fits}
use Rattle.ccan_ram.specs.Sending.{finish_by}
use Rattle.ccan_ram.specs.Terms.{Terms}
use Rattle.ccan_handler.specs.declared.scan.ScanRefused.{ScanRefused}
use Rattle.ccan_handler.specs.declared.scan.Stored.{Stored}
use Rattle.ccan_handler.specs.Scan.{Scans}
use Rattle.ccan_bus.specs.declared.answer.RoundAnswer.{RoundAnswer}
use Rattle.ccan_bus.specs.declared.answer.RoundAnswer.TheVariants as answer
use Rattle.ccan_bus.specs.declared.decision.Decision.{Decision}
use Rattle.ccan_bus.specs.declared.decision.Decision.TheVariants as decision
use Rattle.ccan_bus.specs.declared.memory_step.MemoryStep.TheVariants as step
use Rattle.ccan_bus.specs.declared.round_end.RoundEnd.{RoundEnd}
use Rattle.ccan_bus.specs.Complete.{Completes, Finishes, Scanned, Stops, TakesBack, end_of_finish, end_of_loop, end_of_receipt, ended, refused_at}
use Rattle.ccan_process.specs.Act.{attempted}
use Rattle.ccan_process.specs.Process.{Does, Ended}
use Rattle.ccan_endless.specs.Chip.{ChipHistory}
use Rattle.ccan_registers.specs.ChipSteps.{OnObjects, Then}
use Rattle.ccan_calls.specs.Process.{Attempts, Pauses, ending}
use Rattle.ccan_calls.specs.RoundProcess.{completes, finish_end, loop_end, no_step, receipt_end, receives_own}
use Rattle.ccan_calls.specs.Runs.{Runs}
use Rattle.ccan_calls.specs.StoreProcess.{Filtered, store_first}
use Rattle.ccan_calls.proofs.AtObjects.{Both, both_so}
use Rattle.ccan_calls.proofs.Processes.{ends_so, one_act, only_first}
use Rattle.ccan_calls.proofs.Storing.{filtered_as, of_scan, stores_so, to_scan}

-- ---- ends of a scan, as a round tells of them

refused_receipt : (terms : Terms) (tries : ℕ) (frame : Frame) (at : ℕ) (why : Refused)
    → refused_at step.Store at why ≡ receipt_end (filtered_as terms tries frame (Err (record { at = at; why = why })))
refused_receipt terms tries frame at (Busy told now) = refl
refused_receipt terms tries frame at Spent = refl

receipt_told : (terms : Terms) (tries : ℕ) (frame : Frame) (outcome : Result (Option Stored) ScanRefused)
    → end_of_receipt outcome ≡ receipt_end (filtered_as terms tries frame outcome)
receipt_told terms tries frame (Ok None) = refl
receipt_told terms tries frame (Ok (Some stored)) = refl
receipt_told terms tries frame (Err refused) = refused_receipt terms tries frame refused.at refused.why

module _ (terms : Terms) (tries : ℕ) (frame : Frame) (object : ℕ) (finished : Record) where
  refused_loop : (at : ℕ) (why : Refused)
      → refused_at step.Store at why
      ≡ loop_end object finished (filtered_as terms tries frame (Err (record { at = at; why = why })))
  refused_loop at (Busy told now) = refl
  refused_loop at Spent = refl

  loop_told : (outcome : Result (Option Stored) ScanRefused)
      → end_of_loop object finished outcome ≡ loop_end object finished (filtered_as terms tries frame outcome)
  loop_told (Ok None) = refl
  loop_told (Ok (Some stored)) = refl
  loop_told (Err refused) = refused_loop refused.at refused.why

-- a finish fits every record
finish_fits : (sending : Sending) (shown : Record) → fits (finish_by sending) shown ≡ true
finish_fits UntilSent shown = refl
finish_fits Once shown = refl

module _ (terms : Terms) (tries : ℕ) where
  -- a scan, with an end of the round by how it ended
  module _ (frame : Frame) (seen added : ChipHistory) (by : Filtered → RoundEnd)
      (by_scan : Result (Option Stored) ScanRefused → RoundEnd)
      (told : (outcome : Result (Option Stored) ScanRefused) → by_scan outcome ≡ by (filtered_as terms tries frame outcome))
      (end : RoundEnd) where
    abbrev ScansTo : List Event → List Event → Type 0
    ScansTo s a =
        (outcome : Result (Option Stored) ScanRefused)
        × Scans terms (change.Store frame) 1 tries s a outcome × (end ≡ by_scan outcome)

    scans_so : OnObjects terms.port (λ s a. ScansTo s a) seen added
        ↔ Runs terms tries (ending (store_first terms.profile frame) by) seen added end
    scans_so =
        let all = ends_so terms tries by (store_first terms.profile frame) seen added end in (
          λ h.
              let (outcome, scan, is) = h.means in
              let filtered = filtered_as terms tries frame outcome in
              all.1 (
                filtered,
                (stores_so terms tries frame filtered seen added).0
                    (to_scan terms tries frame seen added outcome (record { none = h.none; means = scan })),
                is ∙ told outcome,
              ),
          λ h.
              let (filtered, on, is) = all.0 h in
              let scan = of_scan terms tries frame seen added filtered
              ((stores_so terms tries frame filtered seen added).1 on) in
              record {
                none = scan.scan.none;
                means = (scan.outcome, scan.scan.means, is ∙ ap by (sym scan.is) ∙ sym (told scan.outcome));
              },
        )

  module _ (sending : Sending) (seen added : ChipHistory) (end : RoundEnd) where
    nothing : (reply : RoundAnswer) → OnObjects terms.port (λ s a. (a ≡ []) × (end ≡ ended reply)) seen added
        ↔ Runs terms tries (no_step reply) seen added end
    nothing reply =
        let one = one_act terms tries Pauses (λ paused. ended reply) seen added end in (
          λ h. one.1 (tt, record { none = h.none; means = h.means.0 }, h.means.1),
          λ h. let (paused, rest, is) = one.0 h in record { none = rest.none; means = (rest.means, is) },
        )

    -- ---- a finish

    abbrev Finished : ℕ → Result Changed Refused → ChipHistory → ChipHistory → Type 0
    Finished object outcome s a = OnObjects terms.port (λ h es. Attempt terms object (finish_by sending) tries h es outcome) s a

    abbrev FinishesTo : ℕ → List Event → List Event → Type 0
    FinishesTo object s a =
        (outcome : Result Record Refused) × Finishes terms sending tries s a object outcome × (end ≡ end_of_finish object outcome)

    abbrev FinishRuns : ℕ → Type 0
    FinishRuns object =
        Runs terms tries (Does (Attempts object (finish_by sending)) (λ out. Ended (finish_end object out))) seen added end

    finish_ran : (object : ℕ) (outcome : Result Changed Refused) → Finished object outcome seen added
        → end ≡ finish_end object (attempted outcome) → FinishRuns object
    finish_ran object outcome on is =
        (one_act terms tries (Attempts object (finish_by sending)) (finish_end object) seen added end).1
        (attempted outcome, (outcome, on, refl), is)

    to_finish : (object : ℕ) (outcome : Result Record Refused)
        → OnObjects terms.port (λ s a. Finishes terms sending tries s a object outcome) seen added
        → end ≡ end_of_finish object outcome → FinishRuns object
    to_finish object (Ok finished) on is =
        let (before, number, attempt) = on.means in
        finish_ran object (Ok (Done before finished number)) (record { none = on.none; means = attempt }) is
    to_finish object (Err (Busy told now)) on is = finish_ran object (Err (Busy told now)) on is
    to_finish object (Err Spent) on is = finish_ran object (Err Spent) on is

    of_finish : (object : ℕ) (outcome : Result Changed Refused) → Finished object outcome seen added
        → end ≡ finish_end object (attempted outcome) → OnObjects terms.port (λ s a. FinishesTo object s a) seen added
    of_finish object (Ok (Done before after number)) on is =
        record { none = on.none; means = (Ok after, (before, number, on.means), is) }
    of_finish object (Ok (NotNow shown)) on is = absurd (false≢true (sym on.means.unfit ∙ finish_fits sending shown))
    of_finish object (Err (Busy told now)) on is = record { none = on.none; means = (Err (Busy told now), on.means, is) }
    of_finish object (Err Spent) on is = record { none = on.none; means = (Err Spent, on.means, is) }

    finishes : (object : ℕ) → OnObjects terms.port (λ s a. FinishesTo object s a) seen added ↔ FinishRuns object
    finishes object = (
      λ h.
          let (outcome, finish, is) = h.means in
          to_finish object outcome (record { none = h.none; means = finish }) is,
      λ h.
          let (out, (outcome, on, ended_so), is) =
          (one_act terms tries (Attempts object (finish_by sending)) (finish_end object) seen added end).0 h in
          of_finish object outcome on (is ∙ ap (finish_end object) ended_so),
    )

    -- ---- in loop back mode

    module _ (object : ℕ) (frame : Frame) where
      abbrev LoopRuns : Type 0
      LoopRuns =
          Runs terms tries (Does (Attempts object (finish_by sending)) (receives_own terms.profile object frame)) seen added end

      abbrev TakesTo : Type 0
      TakesTo = OnObjects terms.port (λ s a. TakesBack terms sending tries s a object frame end) seen added

      -- the finish was refused
      stopped : (outcome : Result Changed Refused) (told : RoundEnd) → Finished object outcome seen added
          → receives_own terms.profile object frame (attempted outcome) ≡ Ended told → end ≡ told → LoopRuns
      stopped outcome told on same is = (
        attempted outcome,
        record {
          earlier = added;
          later = [];
          whole = refl;
          begins = (outcome, on, refl);
          ends = subst (λ p. Runs terms tries p (added ++ seen) [] end) (sym same) (refl, is);
        },
      )

      to_stop : (why : Refused) → Finished object (Err why) seen added → end ≡ refused_at step.Finish object why → LoopRuns
      to_stop (Busy told now) on is = stopped (Err (Busy told now)) _ on refl is
      to_stop Spent on is = stopped (Err Spent) _ on refl is

      abbrev Scanning : Record → List Event → List Event → Type 0
      Scanning finished s a =
          (outcome : Result (Option Stored) ScanRefused)
          × Scans terms (change.Store frame) 1 tries s a outcome × (end ≡ end_of_loop object finished outcome)

      scanning : (finished : Record) (s a : ChipHistory) → OnObjects terms.port (λ h es. Scanning finished h es) s a
          ↔ Runs terms tries (ending (store_first terms.profile frame) (loop_end object finished)) s a end
      scanning finished s a =
          scans_so frame s a (loop_end object finished) (end_of_loop object finished) (loop_told terms tries frame object finished)
          end

      -- the object was finished, and then came the scan
      looped : (before finished : Record) (number : ℕ)
          → OnObjects terms.port (λ s a. Both
          (λ h es. Attempt terms object (finish_by sending) tries h es (Ok (Done before finished number)))
          (λ h es. Scanning finished h es) s a) seen added → LoopRuns
      looped before finished number on =
          let steps = (both_so terms.port
          (λ s a. Attempt terms object (finish_by sending) tries s a (Ok (Done before finished number)))
          (λ s a. Scanning finished s a) seen added).0 on in (
            attempted (Ok (Done before finished number)),
            record {
              earlier = steps.earlier;
              later = steps.later;
              whole = steps.whole;
              begins = (Ok (Done before finished number), steps.begins, refl);
              ends = (scanning finished (steps.earlier ++ seen) steps.later).0 steps.ends;
            },
          )

      to_loop : TakesTo → LoopRuns
      to_loop on = elim on.means [
        | Stops h ↦ to_stop h.why (record { none = on.none; means = h.finish }) h.told
        | Scanned h ↦
            let (before, number, attempt) = h.finish in
            looped before h.finished number (record {
              none = on.none;
              means = record {
                first = h.first;
                last = h.last;
                whole = h.whole;
                begins = attempt;
                ends = (h.outcome, h.scan, h.told);
              };
            })
      ]

      of_loop : (outcome : Result Changed Refused)
          → Then (λ s a. Finished object outcome s a)
          (λ s a. Runs terms tries (receives_own terms.profile object frame (attempted outcome)) s a end) seen added
          → TakesTo
      of_loop (Ok (Done before after number)) steps =
          let both = (both_so terms.port (λ s a. Attempt terms object (finish_by sending) tries s a (Ok (Done before after number)))
          (λ s a. Scanning after s a) seen added).1 (record {
            earlier = steps.earlier;
            later = steps.later;
            whole = steps.whole;
            begins = steps.begins;
            ends = (scanning after (steps.earlier ++ seen) steps.later).1 steps.ends;
          }) in
          let b = both.means in
          record {
            none = both.none;
            means = Scanned (record {
              finished = after;
              first = b.first;
              last = b.last;
              whole = b.whole;
              finish = (before, number, b.begins);
              outcome = b.ends.0;
              scan = b.ends.1;
              told = b.ends.2;
            });
          }
      of_loop (Ok (NotNow shown)) steps = absurd (false≢true (sym steps.begins.means.unfit ∙ finish_fits sending shown))
      of_loop (Err (Busy told now)) steps =
          let whole = only_first added steps.earlier steps.later steps.whole steps.ends.0 in
          let on = subst (λ es. Finished object (Err (Busy told now)) seen es) whole steps.begins in
          record { none = on.none; means = Stops (record { why = Busy told now; finish = on.means; told = steps.ends.1 }) }
      of_loop (Err Spent) steps =
          let whole = only_first added steps.earlier steps.later steps.whole steps.ends.0 in
          let on = subst (λ es. Finished object (Err Spent) seen es) whole steps.begins in
          record { none = on.none; means = Stops (record { why = Spent; finish = on.means; told = steps.ends.1 }) }

      loops : TakesTo ↔ LoopRuns
      loops = (
        to_loop,
        λ h.
            let (out, steps) = h in
            let (outcome, on, ended_so) = steps.begins in
            of_loop outcome (record {
              earlier = steps.earlier;
              later = steps.later;
              whole = steps.whole;
              begins = on;
              ends = subst (λ o. Runs terms tries (receives_own terms.profile object frame o) (steps.earlier ++ seen) steps.later
                  end) ended_so steps.ends;
            }),
      )

    -- ---- all decisions

    pub completes_so : (decided : Decision)
        → OnObjects terms.port (λ s a. Completes terms sending tries s a decided end) seen added
        ↔ Runs terms tries (completes terms.profile sending decided) seen added end
    completes_so decision.Idle = nothing answer.Idle
    completes_so decision.Collision = nothing answer.Collision
    completes_so (decision.Fault winner frame) = nothing answer.Fault
    completes_so (decision.NoAck winner frame) = nothing answer.NoAck
    completes_so (decision.Passed winner frame) = nothing answer.Passed
    completes_so (decision.Finish object frame) = finishes object
    completes_so (decision.Receipt winner frame) =
        scans_so frame seen added receipt_end end_of_receipt (receipt_told terms tries frame) end
    completes_so (decision.LoopBack object frame) = loops object frame
