-- Where nobody else acts a process has one run, since each act comes to one thing.
use Rattle.std.proofs.Common.{ℕ, ◌≡◌, ◌≤◌, true, List, ◌++◌, sym, ap, ap₂, subst, ◌∙◌, append_assoc}
use Rattle.ccan_ram.specs.declared.event.Event.{Event as RamEvent}
use Rattle.ccan_ram.specs.History.{IsLegal}
use Rattle.ccan_ram.specs.Terms.{Terms}
use Rattle.ccan_ram.proofs.Histories.{IsLegal-older}
use Rattle.ccan_bus.specs.Past.{hears_itself}
use Rattle.ccan_process.specs.Process.{ProcessOf, Ended, Does, RunsBy}
use Rattle.ccan_process.specs.Act.{attempted, Act, Looks, Attempts, DecidesRound, Out, Acted, Process, Runs}
use Rattle.ccan_process.proofs.Determined.{once, look, attempt, look_is, attempt_is, pair}
use Rattle.ccan_process.proofs.DecidesOnce.{decides_once}

-- ---- any acts

module _ {Event Act : Type 0} {Out : Act → Type 0} (acted : (act : Act) → List Event → List Event → Out act → Type 0)
    (Legal : List Event → Type 0) (older : (later earlier : List Event) → Legal (later ++ earlier) → Legal earlier)
    (one : (act : Act) (seen added added' : List Event) (out out' : Out act) → Legal (added ++ seen) → Legal (added' ++ seen)
    → acted act seen added out → acted act seen added' out' → (added ≡ added') × (out ≡ out')) where
  from_there : (added later first seen : List Event) → added ≡ later ++ first → Legal (added ++ seen)
      → Legal (later ++ (first ++ seen))
  from_there added later first seen whole legal =
      subst Legal (ap (λ es. es ++ seen) whole ∙ append_assoc later first seen) legal

  pub runs_one : {A : Type 0} (process : ProcessOf Out A) (seen added added' : List Event) (result result' : A)
      → Legal (added ++ seen) → Legal (added' ++ seen) → RunsBy acted process seen added result
      → RunsBy acted process seen added' result' → (added ≡ added') × (result ≡ result')
  runs_one (Ended end) seen added added' result result' legal legal' (none, is) (none', is') =
      (none ∙ sym none', is ∙ sym is')
  runs_one (Does act next) seen added added' result result' legal legal' (out, first, later, whole, does, runs)
      (out', first', later', whole', does', runs') =
      let on = from_there added later first seen whole legal in
      let on' = from_there added' later' first' seen whole' legal' in
      let same = one act seen first first' out out' (older later (first ++ seen) on) (older later' (first' ++ seen) on')
      does does' in
      let rest = runs_one (next out) (first ++ seen) later later' result result' on
      (subst (λ es. Legal (later' ++ (es ++ seen))) (sym same.0) on') runs
      (subst (λ (o : Out act). RunsBy acted (next o) (first ++ seen) later' result') (sym same.1)
      (subst (λ es. RunsBy acted (next out') (es ++ seen) later' result') (sym same.0) runs')) in
      (whole ∙ ap₂ ◌++◌ rest.0 same.0 ∙ sym whole', rest.1)

-- ---- the acts of lines

module _ (terms : Terms) (alone : terms.alone ≡ true) (tries : ℕ) (some : 1 ≤ tries) where
  abbrev Legal : List RamEvent → Type 0
  Legal = IsLegal terms.profile

  act_once : (act : Act) (seen added added' : List RamEvent) (out out' : Out act) → Legal (added ++ seen) → Legal (added' ++ seen)
      → Acted terms tries act seen added out → Acted terms tries act seen added' out' → (added ≡ added') × (out ≡ out')
  act_once (Looks object) seen added added' out out' legal legal' h h' =
      once (look terms object seen) added added' out out' (look_is terms alone seen added legal object out h)
      (look_is terms alone seen added' legal' object out' h')
  act_once (Attempts object change) seen added added' out out' legal legal' (outcome, h, is) (outcome', h', is') =
      let one = once (attempt terms object change seen) added added' outcome outcome'
      (attempt_is terms alone seen added legal object change tries outcome some h)
      (attempt_is terms alone seen added' legal' object change tries outcome' some h') in
      (one.0, is ∙ ap attempted one.1 ∙ sym is')
  act_once (DecidesRound line past) seen added added' out out' legal legal' (none, h) (none', h') =
      let one = decides_once (hears_itself past) line past out.0 out'.0 out.1 out'.1 h h' in
      (none ∙ sym none', pair one.0 one.1)

  pub runs_once : {A : Type 0} (process : Process A) (seen added added' : List RamEvent) (result result' : A)
      → Legal (added ++ seen) → Legal (added' ++ seen) → Runs terms tries process seen added result
      → Runs terms tries process seen added' result' → (added ≡ added') × (result ≡ result')
  runs_once process = runs_one (Acted terms tries) Legal (IsLegal-older terms.profile) act_once process
