-- A run during which nobody else acts is one over a one-thread memory, since each act is.
use Rattle.std.proofs.Common.{ℕ, ◌≤◌, List, ◌++◌, subst}
use Rattle.ccan_ram.specs.declared.event.Event.{Event as RamEvent}
use Rattle.ccan_ram.specs.History.{NobodyElse}
use Rattle.ccan_ram.specs.Laws.{as_one_thread}
use Rattle.ccan_ram.specs.Terms.{Terms}
use Rattle.ccan_ram.proofs.Histories.{undisturbed_parts}
use Rattle.ccan_ram.proofs.Undisturbed.{looks_undisturbed, attempts_undisturbed}
use Rattle.ccan_process.specs.Process.{ProcessOf, Ended, Does, RunsBy}
use Rattle.ccan_process.specs.Act.{Act, Looks, Attempts, DecidesRound, Out, Acted, Process, Runs}

-- ---- any acts

module _ {Event Act : Type 0} {Out : Act → Type 0} (acted single : (act : Act) → List Event → List Event → Out act → Type 0)
    (Alone : List Event → Type 0)
    (parts : (later first : List Event) → Alone (later ++ first) → Alone later × Alone first)
    (apart : (act : Act) (seen added : List Event) (out : Out act) → Alone added → acted act seen added out
    → single act seen added out) where
  pub runs_single : {A : Type 0} (process : ProcessOf Out A) (seen added : List Event) (result : A) → Alone added
      → RunsBy acted process seen added result → RunsBy single process seen added result
  runs_single (Ended end) seen added result alone runs = runs
  runs_single (Does act next) seen added result alone (out, first, later, whole, does, runs) =
      let each = parts later first (subst Alone whole alone) in (
        out,
        first,
        later,
        whole,
        apart act seen first out each.1 does,
        runs_single (next out) (first ++ seen) later result each.0 runs,
      )

-- ---- the acts of lines

module _ (terms : Terms) (tries : ℕ) (some : 1 ≤ tries) where
  act_apart : (act : Act) (seen added : List RamEvent) (out : Out act) → NobodyElse terms.port added
      → Acted terms tries act seen added out → Acted (as_one_thread terms) tries act seen added out
  act_apart (Looks object) seen added out alone h = looks_undisturbed terms object out added alone h
  act_apart (Attempts object change) seen added out alone (outcome, h, is) =
      (outcome, attempts_undisturbed terms object change tries seen added outcome some alone h, is)
  act_apart (DecidesRound line past) seen added out alone h = h

  pub runs_apart : {A : Type 0} (process : Process A) (seen added : List RamEvent) (result : A) → NobodyElse terms.port added
      → Runs terms tries process seen added result → Runs (as_one_thread terms) tries process seen added result
  runs_apart process =
      runs_single (Acted terms tries) (Acted (as_one_thread terms) tries) (NobodyElse terms.port) (undisturbed_parts terms.port)
      act_apart process
