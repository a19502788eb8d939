-- Runs of processes where nobody else acts. Source: this project's own.
use Rattle.std.specs.Prelude.{ℕ, ◌≡◌, ◌≤◌, ◌++◌, true, List}
use Rattle.ccan_ram.specs.declared.event.Event.{Event}
use Rattle.ccan_ram.specs.History.{IsLegal, NobodyElse}
use Rattle.ccan_ram.specs.Laws.{as_one_thread}
use Rattle.ccan_ram.specs.Terms.{Terms}
use Rattle.ccan_process.specs.Act.{Process, Runs}

-- over a one-thread memory a process adds one list of events and has one result
abbrev pub HasOneRun : Type 0 → Type 0
HasOneRun A =
    (terms : Terms) (tries : ℕ) (process : Process A) (seen added added' : List Event) (result result' : A)
    → terms.alone ≡ true → 1 ≤ tries → IsLegal terms.profile (added ++ seen) → IsLegal terms.profile (added' ++ seen)
    → Runs terms tries process seen added result → Runs terms tries process seen added' result'
    → (added ≡ added') × (result ≡ result')

-- a run during which nobody else acts is one over a one-thread memory
abbrev pub RunsApart : Type 0 → Type 0
RunsApart A =
    (terms : Terms) (tries : ℕ) (process : Process A) (seen added : List Event) (result : A)
    → 1 ≤ tries → NobodyElse terms.port added
    → Runs terms tries process seen added result → Runs (as_one_thread terms) tries process seen added result
