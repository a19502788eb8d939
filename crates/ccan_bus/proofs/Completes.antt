-- The memory steps of a decision, and the steps of a round one after another.
use Rattle.std.proofs.Common.{ℕ, ◌≡◌, [], ◌++◌, refl, sym, subst, Option, Some, None, Ok, Err}
use Rattle.std.specs.Prelude.{Result}
use Rattle.ccan_object.specs.declared.record.Record.{Record}
use Rattle.ccan_accept.specs.declared.frame.Frame.{Frame}
use Rattle.ccan_ram.specs.declared.change.Change.TheVariants.{Store}
use Rattle.ccan_ram.specs.declared.change.Changed.TheVariants.{NotNow}
use Rattle.ccan_ram.specs.declared.change.Refused.{Refused}
use Rattle.ccan_ram.specs.declared.sending.Sending.{Sending}
use Rattle.ccan_ram.specs.declared.sending.Sending.TheVariants.{UntilSent, Once}
use Rattle.ccan_ram.specs.Sending.{finish_by}
use Rattle.ccan_ram.specs.Attempt.{Attempt}
use Rattle.ccan_ram.specs.Access.{Passes, Goes}
use Rattle.ccan_ram.proofs.Calls.{Goes-then, Goes-none, Goes-weaker}
use Rattle.ccan_handler.specs.declared.scan.Stored.{Stored}
use Rattle.ccan_handler.specs.declared.scan.ScanRefused.{ScanRefused}
use Rattle.ccan_handler.specs.Scan.{Scans}
use Rattle.ccan_bus.specs.declared.answer.LoadAnswer.{LoadAnswer}
use Rattle.ccan_bus.specs.declared.answer.RoundAnswer.{RoundAnswer}
use Rattle.ccan_bus.specs.declared.bus.Bus.{Bus}
use Rattle.ccan_bus.specs.declared.decision.Decision.{Decision}
use Rattle.ccan_bus.specs.declared.memory_step.MemoryStep.TheVariants as step
use Rattle.ccan_bus.specs.declared.round_end.RoundEnd.{RoundEnd}
use Rattle.ccan_bus.specs.declared.round_line.RoundLine.{RoundLine}
use Rattle.ccan_bus.specs.declared.round_report.RoundReport.{RoundReport}
use Rattle.ccan_bus.specs.Past.{hears_itself}
use Rattle.ccan_bus.specs.Bus.{GoesOn, GoesOnWith}
use Rattle.ccan_bus.specs.Load.{Loads}
use Rattle.ccan_bus.specs.Decide.{Decides}
use Rattle.ccan_bus.specs.Complete.{Finishes, ended, end_of_loop, refused_at, NoStep, TakesBack, Stops, Scanned, Completes}
use Rattle.ccan_bus.specs.Round.{refusal_of_round}
use Rattle.ccan_bus.specs.RoundReport.{refused_start, RunsOn, RunsSteps}
use Rattle.ccan_bus.proofs.Pasts.{GoesOn-weaker, GoesOn-then}

-- ---- the steps of a decision

-- a finish fits every record
pub never : {x y : Passes} (sending : Sending) (tries object : ℕ) (shown : Record) (reply : Result Record Refused)
    → Goes x y (λ terms seen added. Attempt terms object (finish_by sending) tries seen added (Ok (NotNow shown)))
    → Goes x y (λ terms seen added. Finishes terms sending tries seen added object reply)
never UntilSent tries object shown reply h = Goes-weaker h (λ seen added here there t. absurd (let u = t.unfit in cc))
never Once tries object shown reply h = Goes-weaker h (λ seen added here there t. absurd (let u = t.unfit in cc))

pub no_step : {x : Passes} (reply : RoundAnswer) (end : RoundEnd) → end ≡ ended reply
    → Goes x x (λ terms seen added. NoStep reply added end)
no_step reply end told = Goes-none (λ seen here. (refl, told))

pub back_stopped : {x y : Passes} (sending : Sending) (tries object : ℕ) (frame : Frame) (why : Refused) (end : RoundEnd)
    → end ≡ refused_at step.Finish object why
    → Goes x y (λ terms seen added. Finishes terms sending tries seen added object (Err why))
    → Goes x y (λ terms seen added. TakesBack terms sending tries seen added object frame end)
back_stopped sending tries object frame why end told finish =
    Goes-weaker finish (λ seen added here there f. Stops (record { why = why; finish = f; told = told }))

pub back_scanned : {x y z : Passes} (sending : Sending) (tries object : ℕ) (frame : Frame) (finished : Record)
    (outcome : Result (Option Stored) ScanRefused) (end : RoundEnd) → end ≡ end_of_loop object finished outcome
    → Goes x y (λ terms seen added. Finishes terms sending tries seen added object (Ok finished))
    → Goes y z (λ terms seen added. Scans terms (Store frame) 1 tries seen added outcome)
    → Goes x z (λ terms seen added. TakesBack terms sending tries seen added object frame end)
back_scanned sending tries object frame finished outcome end told finish scan =
    Goes-then finish scan (λ seen xs ys p q.
    Scanned (record {
      finished = finished;
      first = xs;
      last = ys;
      whole = refl;
      finish = p;
      outcome = outcome;
      scan = q;
      told = told;
    }))

-- ---- the steps of a round

module _ (line : RoundLine) (tries : ℕ) where
  pub steps_run : {x y z : Passes} (a b c : Bus) (loading : LoadAnswer) (decided : Decision) (end : RoundEnd)
      (report : RoundReport) → refusal_of_round loading ≡ None
      → report ≡ record { loading = loading; decision = Some decided; end = end }
      → GoesOnWith x y a b (λ terms seen added past after. Loads terms tries seen added past after loading)
      → GoesOn b c (λ past after. Decides (hears_itself past) line past after decided)
      → Goes y z (λ terms seen added. Completes terms UntilSent tries seen added decided end)
      → GoesOnWith x z a c (λ terms seen added past after. RunsSteps terms line tries seen added past after report)
  steps_run {x} {y} {z} a b c loading decided end report is told loads decides completes =
      rw told (Goes-then loads completes (λ seen xs ys p q. GoesOn-then p decides (λ past between after led mid here l d.
      record {
        between = between;
        first = xs;
        last = ys;
        whole = refl;
        loads = l;
        runs =
            subst (λ r. RunsOn r x.terms line tries (xs ++ seen) ys between after (Some decided) end) (sym is) (d, q);
      })))

  pub load_refused : {x y : Passes} (a b : Bus) (loading : LoadAnswer) (refusal : RoundAnswer) (report : RoundReport)
      → refusal_of_round loading ≡ Some refusal
      → report ≡ record { loading = loading; decision = None; end = refused_start refusal }
      → GoesOnWith x y a b (λ terms seen added past after. Loads terms tries seen added past after loading)
      → GoesOnWith x y a b (λ terms seen added past after. RunsSteps terms line tries seen added past after report)
  load_refused {x} {y} a b loading refusal report is told loads =
      rw told (Goes-weaker loads (λ seen added here there p. GoesOn-weaker p (λ past after led there' l.
      record {
        between = after;
        first = added;
        last = [];
        whole = refl;
        loads = l;
        runs =
            subst (λ r. RunsOn r x.terms line tries (added ++ seen) [] after after None (refused_start refusal)) (sym is)
            (record { told = refl; quiet = refl; same = refl });
      })))
