-- A round is its steps. Each case of a round is parted into what is decided and the memory steps that are due, and each
-- decision with its memory steps is a case of a round.
use Rattle.std.proofs.Common.{ℕ, ◌≡◌, Bool, true, false, List, ◌++◌, refl, sym, ap, subst, Option, Some, None, Ok, Err}
use Rattle.std.specs.Prelude.{Result}
use Rattle.ccan_object.specs.declared.record.Record.{Record}
use Rattle.ccan_accept.specs.declared.frame.Frame.{Frame}
use Rattle.ccan_ram.specs.declared.change.Change.TheVariants.{Finish, Store}
use Rattle.ccan_ram.specs.declared.sending.Sending.TheVariants.{UntilSent}
use Rattle.ccan_ram.specs.declared.change.Changed.{Changed}
use Rattle.ccan_ram.specs.declared.change.Refused.{Refused}
use Rattle.ccan_ram.specs.declared.change.Refused.TheVariants.{Busy, Spent}
use Rattle.ccan_ram.specs.declared.event.Event.{Event}
use Rattle.ccan_ram.specs.Terms.{Terms}
use Rattle.ccan_ram.specs.Attempt.{Attempt}
use Rattle.ccan_ram.specs.Access.{Passes}
use Rattle.ccan_ram.proofs.Calls.{Goes-weaker}
use Rattle.ccan_handler.specs.declared.scan.Stored.{Stored}
use Rattle.ccan_handler.specs.declared.scan.ScanRefused.{ScanRefused}
use Rattle.ccan_handler.specs.Scan.{Scan, ScanEnd, Scans, Nowhere, MadeAt, RefusedAt}
use Rattle.ccan_bus.specs.declared.answer.RoundAnswer.{RoundAnswer}
use Rattle.ccan_bus.specs.declared.answer.RoundAnswer.TheVariants as answer
use Rattle.ccan_bus.specs.declared.bus.Bus.{Bus}
use Rattle.ccan_bus.specs.declared.decision.Decision.{Decision}
use Rattle.ccan_bus.specs.declared.decision.Decision.TheVariants as decision
use Rattle.ccan_bus.specs.declared.memory_step.MemoryStep.TheVariants as step
use Rattle.ccan_bus.specs.declared.round_end.RoundEnd.{RoundEnd}
use Rattle.ccan_bus.specs.declared.round_line.RoundLine.{RoundLine}
use Rattle.ccan_bus.specs.declared.round_report.RoundReport.{RoundReport}
use Rattle.ccan_bus.specs.Past.{BusPast, hears_itself}
use Rattle.ccan_bus.specs.Bus.{GoesOnWith}
use Rattle.ccan_bus.specs.LoopBack.{IsLoopFinish, IsLoop, IsLoopRefused, AtFinish, AtScan, LoopsBack}
use Rattle.ccan_bus.specs.Decide.{DueFinish, DueReceipt, Decides, DecidesBack, DecidesBetween}
use Rattle.ccan_bus.specs.Complete.{Finishes, ended, refusal_at, refused_at, end_of_finish, end_of_receipt, end_of_loop}
use Rattle.ccan_bus.specs.Complete.{TakesBack, Stops, Scanned, Completes}
use Rattle.ccan_bus.specs.Round.{IsFinish, IsReceipt, IsRefused, RefusedFinish, RefusedScan, Contends, Transfers, Continues, Round}
use Rattle.ccan_bus.specs.Round.{refusal_of_round}
use Rattle.ccan_bus.specs.RoundReport.{refused_start, RunsOn, RunsSteps, RunsStepsTo, RoundsAreTheirSteps}
use Rattle.ccan_bus.proofs.Pasts.{GoesOn-weaker}

-- ---- a decision and its memory steps are a case of a round

module _ (line : RoundLine) (tries : ℕ) (terms : Terms) (seen added : List Event) (past after : BusPast) where
  abbrev Ends : RoundAnswer → Type 0
  Ends reply = Contends terms line tries seen added past after reply

  module _ (object : ℕ) (frame : Frame) (due : DueFinish line past after object frame) where
    finish_is : (outcome : Result Changed Refused) → Attempt terms object Finish tries seen added outcome
        → IsFinish terms line tries seen added past after object outcome
    finish_is outcome h =
        record { started = due.started; frame = frame; sent = due.sent; success = due.success; finish = h }

    by_finish : (outcome : Result Record Refused) → Finishes terms UntilSent tries seen added object outcome
        → Ends ((end_of_finish object outcome).answer)
    by_finish (Ok finished) h = record { before = h.0; number = h.1; finish = finish_is _ h.2 }
    by_finish (Err (Busy told now)) h = (told, now, RefusedFinish (finish_is _ h))
    by_finish (Err Spent) h = RefusedFinish (finish_is _ h)

  module _ (winner : ℕ) (frame : Frame) (due : DueReceipt line past after winner frame) where
    receipt_is : (end : ScanEnd) → Scan terms (Store frame) 1 tries seen added end
        → IsReceipt terms line tries seen added past after end
    receipt_is end h =
        record { winner = winner; frame = frame; another = due.another; on = due.on; success = due.success; scan = h }

    by_refusal : (at : ℕ) (why : Refused) → Scan terms (Store frame) 1 tries seen added (RefusedAt at why)
        → Ends ((refused_at step.Store at why).answer)
    by_refusal at (Busy told now) h = (told, now, RefusedScan (receipt_is _ h))
    by_refusal at Spent h = RefusedScan (receipt_is _ h)

    by_scan : (outcome : Result (Option Stored) ScanRefused) → Scans terms (Store frame) 1 tries seen added outcome
        → Ends ((end_of_receipt outcome).answer)
    by_scan (Ok None) h = receipt_is _ h
    by_scan (Ok (Some found)) h = (found.before, h.0, receipt_is _ h.1)
    by_scan (Err refused) h = by_refusal refused.at refused.why h

  contends : (decided : Decision) (end : RoundEnd) → DecidesBetween line past after decided
      → Completes terms UntilSent tries seen added decided end → Ends end.answer
  contends decision.Idle end d (none, told) = rw told (record { nobody = d.nobody; quiet = none; same = d.same })
  contends decision.Collision end d (none, told) = rw told (record { outcome = d.outcome; quiet = none; happened = d.happened })
  contends (decision.Fault winner frame) end d (none, told) =
      let f = d.fault in
      rw told (record {
        winner = f.winner;
        frame = f.frame;
        won = f.won;
        code = f.code;
        fault = f.fault;
        quiet = none;
        happened = f.happened;
      })
  contends (decision.NoAck winner frame) end d (none, told) =
      let n = d.no_ack in
      rw told (record {
        winner = n.winner;
        frame = n.frame;
        won = n.won;
        no_fault = n.no_fault;
        alone = n.alone;
        quiet = none;
        happened = n.happened;
      })
  contends (decision.Passed winner frame) end d (none, told) =
      rw told (record { winner = winner; frame = frame; off = d.off; success = d.success; quiet = none })
  contends (decision.Finish object frame) end d (outcome, finish, told) =
      rw told (by_finish object frame d outcome finish)
  contends (decision.Receipt winner frame) end d (outcome, scan, told) =
      rw told (by_scan winner frame d outcome scan)
  contends (decision.LoopBack object frame) end d c = absurd d

-- ---- the same in loop back mode

module _ (tries : ℕ) (terms : Terms) (seen added : List Event) (past after : BusPast) where
  abbrev EndsBack : RoundAnswer → Type 0
  EndsBack reply = LoopsBack terms tries seen added past after reply

  module _ (object : ℕ) (frame : Frame) (due : DecidesBack past after (decision.LoopBack object frame)) where
    finish_of : (made : List Event) (outcome : Result Changed Refused) → Attempt terms object Finish tries seen made outcome
        → IsLoopFinish terms tries seen made past after object frame outcome
    finish_of made outcome h = record {
      started = due.started;
      loaded = due.loaded;
      frame_is = due.frame_is;
      happened = due.happened;
      finish = h;
    }

    stopped : (why : Refused) → Attempt terms object Finish tries seen added (Err why)
        → EndsBack ((refused_at step.Finish object why).answer)
    stopped (Busy told now) h = (told, now, AtFinish frame (finish_of added _ h))
    stopped Spent h = AtFinish frame (finish_of added _ h)

    module _ (finished : Record) (first last : List Event) (whole : added ≡ last ++ first)
        (finish : Finishes terms UntilSent tries seen first object (Ok finished)) where
      scan_of : (end : ScanEnd) → Scan terms (Store frame) 1 tries (first ++ seen) last end
          → IsLoop terms tries seen added past after object finished end
      scan_of end h =
          record {
            frame = frame;
            before = finish.0;
            number = finish.1;
            first = first;
            last = last;
            whole = whole;
            finish = finish_of first _ finish.2;
            scan = h;
          }

      scan_refused : (at : ℕ) (why : Refused) → Scan terms (Store frame) 1 tries (first ++ seen) last (RefusedAt at why)
          → EndsBack ((refused_at step.Store at why).answer)
      scan_refused at (Busy told now) h = (told, now, AtScan object finished (scan_of _ h))
      scan_refused at Spent h = AtScan object finished (scan_of _ h)

      scanned : (outcome : Result (Option Stored) ScanRefused) → Scans terms (Store frame) 1 tries (first ++ seen) last outcome
          → EndsBack ((end_of_loop object finished outcome).answer)
      scanned (Ok None) h = scan_of _ h
      scanned (Ok (Some found)) h = (found.before, h.0, scan_of _ h.1)
      scanned (Err refused) h = scan_refused refused.at refused.why h

    taken_back : (end : RoundEnd) → TakesBack terms UntilSent tries seen added object frame end → EndsBack end.answer
    taken_back end (Stops h) = rw h.told (stopped h.why h.finish)
    taken_back end (Scanned h) = rw h.told (scanned h.finished h.first h.last h.whole h.finish h.outcome h.scan)

  loops : (decided : Decision) (end : RoundEnd) → DecidesBack past after decided
      → Completes terms UntilSent tries seen added decided end
      → EndsBack end.answer
  loops decision.Idle end d (none, told) = rw told (record { empty = d.empty; quiet = none; same = d.same })
  loops (decision.LoopBack object frame) end d c = taken_back object frame d end c
  loops decision.Collision end d c = absurd d
  loops (decision.Fault winner frame) end d c = absurd d
  loops (decision.NoAck winner frame) end d c = absurd d
  loops (decision.Finish object frame) end d c = absurd d
  loops (decision.Receipt winner frame) end d c = absurd d
  loops (decision.Passed winner frame) end d c = absurd d

module _ (terms : Terms) (line : RoundLine) (tries : ℕ) (seen added : List Event) (past after : BusPast) where
  transfers : (back : Bool) (decided : Decision) (end : RoundEnd) → Decides back line past after decided
      → Completes terms UntilSent tries seen added decided end → Transfers back terms line tries seen added past after end.answer
  transfers true decided end d c = loops tries terms seen added past after decided end d c
  transfers false decided end d c = contends line tries terms seen added past after decided end d c

  continues : (refused : Option RoundAnswer) (decided : Option Decision) (end : RoundEnd)
      → RunsOn refused terms line tries seen added past after decided end
      → Continues refused terms line tries seen added past after end.answer
  continues (Some refusal) None end h = record { told = ap (λ (e : RoundEnd). e.answer) h.told; quiet = h.quiet; same = h.same }
  continues (Some refusal) (Some decided) end h = absurd h
  continues None (Some decided) end (d, c) = transfers (hears_itself past) decided end d c
  continues None None end h = absurd h

pub round_of : (terms : Terms) (line : RoundLine) (tries : ℕ) (seen added : List Event) (past after : BusPast)
    (report : RoundReport) → RunsSteps terms line tries seen added past after report
    → Round terms line tries seen added past after report.end.answer
round_of terms line tries seen added past after report r =
    record {
      between = r.between;
      loading = report.loading;
      first = r.first;
      last = r.last;
      whole = r.whole;
      loads = r.loads;
      continues =
          continues terms line tries (r.first ++ seen) r.last r.between after (refusal_of_round report.loading) report.decision
          report.end r.runs;
    }

pub rounds_run : {x y : Passes} (line : RoundLine) (tries : ℕ) (bus new : Bus) (report : RoundReport)
    → GoesOnWith x y bus new (λ terms seen added past after. RunsSteps terms line tries seen added past after report)
    → GoesOnWith x y bus new (λ terms seen added past after. Round terms line tries seen added past after report.end.answer)
rounds_run {x} line tries bus new report g =
    Goes-weaker g (λ seen added here there p. GoesOn-weaker p (λ past after led there' r.
    round_of x.terms line tries seen added past after report r))

-- ---- a case of a round is a decision and its memory steps

module _ (line : RoundLine) (tries : ℕ) (terms : Terms) (seen added : List Event) (past after : BusPast) where
  -- what was decided, and the end of the steps that were due
  record Parts (back : Bool) (reply : RoundAnswer) : Type 0 where
    pub decided : Decision
    pub end : RoundEnd
    pub decides : Decides back line past after decided
    pub completes : Completes terms UntilSent tries seen added decided end
    pub told : end.answer ≡ reply

  of_refusal : (object : ℕ) (why : Refused) → IsRefused terms line tries seen added past after object why
      → Parts false (refusal_at object why)
  of_refusal object why (RefusedFinish h) = record {
    decided = decision.Finish object h.frame;
    end = refused_at step.Finish object why;
    decides = record { started = h.started; sent = h.sent; success = h.success };
    completes = (Err why, h.finish, refl);
    told = refl;
  }
  of_refusal object why (RefusedScan h) = record {
    decided = decision.Receipt h.winner h.frame;
    end = refused_at step.Store object why;
    decides = record { another = h.another; on = h.on; success = h.success };
    completes = (Err (record { at = object; why = why }), h.scan, refl);
    told = refl;
  }

  of_contention : (reply : RoundAnswer) → Contends terms line tries seen added past after reply → Parts false reply
  of_contention answer.Idle h = record {
    decided = decision.Idle;
    end = ended answer.Idle;
    decides = record { nobody = h.nobody; quiet = refl; same = h.same };
    completes = (h.quiet, refl);
    told = refl;
  }
  of_contention answer.Collision h = record {
    decided = decision.Collision;
    end = ended answer.Collision;
    decides = record { outcome = h.outcome; quiet = refl; happened = h.happened };
    completes = (h.quiet, refl);
    told = refl;
  }
  of_contention answer.Fault h = record {
    decided = decision.Fault h.winner h.frame;
    end = ended answer.Fault;
    decides = record {
      fault = record {
        winner = h.winner;
        frame = h.frame;
        won = h.won;
        code = h.code;
        fault = h.fault;
        quiet = refl;
        happened = h.happened;
      };
      winner_is = refl;
      frame_is = refl;
    };
    completes = (h.quiet, refl);
    told = refl;
  }
  of_contention answer.NoAck h = record {
    decided = decision.NoAck h.winner h.frame;
    end = ended answer.NoAck;
    decides = record {
      no_ack = record {
        winner = h.winner;
        frame = h.frame;
        won = h.won;
        no_fault = h.no_fault;
        alone = h.alone;
        quiet = refl;
        happened = h.happened;
      };
      winner_is = refl;
      frame_is = refl;
    };
    completes = (h.quiet, refl);
    told = refl;
  }
  of_contention answer.Passed h = record {
    decided = decision.Passed h.winner h.frame;
    end = ended answer.Passed;
    decides = record { off = h.off; success = h.success };
    completes = (h.quiet, refl);
    told = refl;
  }
  of_contention (answer.Sent object finished) h = record {
    decided = decision.Finish object h.finish.frame;
    end = ended (answer.Sent object finished);
    decides = record { started = h.finish.started; sent = h.finish.sent; success = h.finish.success };
    completes = (Ok finished, (h.before, h.number, h.finish.finish), refl);
    told = refl;
  }
  of_contention (answer.Received None) h = record {
    decided = decision.Receipt h.winner h.frame;
    end = ended (answer.Received None);
    decides = record { another = h.another; on = h.on; success = h.success };
    completes = (Ok None, h.scan, refl);
    told = refl;
  }
  of_contention (answer.Received (Some found)) (before, number, h) = record {
    decided = decision.Receipt h.winner h.frame;
    end = ended (answer.Received (Some found));
    decides = record { another = h.another; on = h.on; success = h.success };
    completes = (Ok (Some (record { object = found.0; before = before; after = found.1 })), (number, h.scan), refl);
    told = refl;
  }
  of_contention (answer.Busy object) (told, now, h) = of_refusal object (Busy told now) h
  of_contention (answer.Spent object) h = of_refusal object Spent h
  of_contention (answer.Looped object finished found) h = absurd h

  -- ---- in loop back mode

  of_loop : (object : ℕ) (finished : Record) (end : ScanEnd) (outcome : Result (Option Stored) ScanRefused)
      → ((earlier later : List Event) (frame : Frame) → Scan terms (Store frame) 1 tries earlier later end
      → Scans terms (Store frame) 1 tries earlier later outcome)
      → IsLoop terms tries seen added past after object finished end
      → Parts true ((end_of_loop object finished outcome).answer)
  of_loop object finished end outcome scans h = record {
    decided = decision.LoopBack object h.frame;
    end = end_of_loop object finished outcome;
    decides = record {
      started = h.finish.started;
      loaded = h.finish.loaded;
      frame_is = h.finish.frame_is;
      happened = h.finish.happened;
    };
    completes = Scanned (record {
      finished = finished;
      first = h.first;
      last = h.last;
      whole = h.whole;
      finish = (h.before, h.number, h.finish.finish);
      outcome = outcome;
      scan = scans (h.first ++ seen) h.last h.frame h.scan;
      told = refl;
    });
    told = refl;
  }

  of_loop_refusal : (at : ℕ) (why : Refused) → IsLoopRefused terms tries seen added past after at why
      → Parts true (refusal_at at why)
  of_loop_refusal at why (AtFinish frame h) = record {
    decided = decision.LoopBack at frame;
    end = refused_at step.Finish at why;
    decides = record { started = h.started; loaded = h.loaded; frame_is = h.frame_is; happened = h.happened };
    completes = Stops (record { why = why; finish = h.finish; told = refl });
    told = refl;
  }
  of_loop_refusal at why (AtScan object finished h) =
      of_loop object finished (RefusedAt at why) (Err (record { at = at; why = why })) (λ earlier later frame s. s) h

  of_back : (reply : RoundAnswer) → LoopsBack terms tries seen added past after reply → Parts true reply
  of_back answer.Idle h = record {
    decided = decision.Idle;
    end = ended answer.Idle;
    decides = record { empty = h.empty; quiet = refl; same = h.same };
    completes = (h.quiet, refl);
    told = refl;
  }
  of_back (answer.Looped object finished None) h = of_loop object finished Nowhere (Ok None) (λ earlier later frame s. s) h
  of_back (answer.Looped object finished (Some found)) (before, number, h) =
      of_loop object finished (MadeAt found.0 before found.1 number)
      (Ok (Some (record { object = found.0; before = before; after = found.1 }))) (λ earlier later frame s. (number, s)) h
  of_back (answer.Busy at) (told, now, h) = of_loop_refusal at (Busy told now) h
  of_back (answer.Spent at) h = of_loop_refusal at Spent h
  of_back (answer.Sent object finished) h = absurd h
  of_back (answer.Received found) h = absurd h
  of_back answer.Passed h = absurd h
  of_back answer.Collision h = absurd h
  of_back answer.NoAck h = absurd h
  of_back answer.Fault h = absurd h

  parts_of : (back : Bool) (reply : RoundAnswer) → Transfers back terms line tries seen added past after reply → Parts back reply
  parts_of true reply h = of_back reply h
  parts_of false reply h = of_contention reply h

  -- what follows the load
  runs_on : (refused : Option RoundAnswer) (reply : RoundAnswer) → Continues refused terms line tries seen added past after reply
      → (decided : Option Decision) × (end : RoundEnd) × RunsOn refused terms line tries seen added past after decided end
      × (end.answer ≡ reply)
  runs_on (Some refusal) reply h =
      (None, refused_start refusal, record { told = refl; quiet = h.quiet; same = h.same }, sym h.told)
  runs_on None reply h =
      let parts = parts_of (hears_itself past) reply h in
      (Some parts.decided, parts.end, (parts.decides, parts.completes), parts.told)

steps_of : (terms : Terms) (line : RoundLine) (tries : ℕ) (seen added : List Event) (past after : BusPast) (reply : RoundAnswer)
    → Round terms line tries seen added past after reply → RunsStepsTo terms line tries seen added past after reply
steps_of terms line tries seen added past after reply r =
    let refusal = refusal_of_round r.loading in
    let on = runs_on line tries terms (r.first ++ seen) r.last r.between after refusal reply r.continues in (
      record { loading = r.loading; decision = on.0; end = on.1 },
      record { between = r.between; first = r.first; last = r.last; whole = r.whole; loads = r.loads; runs = on.2 },
      on.3,
    )

pub rounds_are_steps : RoundsAreTheirSteps
rounds_are_steps terms line tries seen added past after reply = (
  steps_of terms line tries seen added past after reply,
  λ steps. subst (Round terms line tries seen added past after) steps.2
      (round_of terms line tries seen added past after steps.0 steps.1),
)
