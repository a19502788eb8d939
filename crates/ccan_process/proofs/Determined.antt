-- Where nobody else acts, what a step adds and answers is a function of the history that it finds: here such functions for a look
-- and an attempt. A relation has one answer since each of its cases gives what its function gives.
use Rattle.std.proofs.Common.{◌≡◌, ℕ, true, List, [], ◌∷◌, ◌++◌, Result, sym, ap, ap₂, ◌∙◌, ◌≤◌}
use Rattle.ccan_object.specs.declared.record.Record.{Record}
use Rattle.ccan_ram.specs.declared.change.Change.{Change}
use Rattle.ccan_ram.specs.declared.change.Changed.{Changed}
use Rattle.ccan_ram.specs.declared.change.Refused.{Refused}
use Rattle.ccan_ram.specs.declared.event.Event.{Event}
use Rattle.ccan_ram.specs.Attempt.{look_at, IsLook, Attempt}
use Rattle.ccan_ram.specs.History.{IsLegal, record_at}
use Rattle.ccan_ram.specs.Laws.{answer_alone, events_alone}
use Rattle.ccan_ram.specs.Terms.{Terms}
use Rattle.ccan_ram.proofs.Alone.{looks_alone, attempts_alone}

-- what a step adds to the history that it finds, the newest first, and what it answers
abbrev pub Step : Type 0 → Type 0
Step Answer = List Event → List Event × Answer

-- a function gives this, and that
abbrev pub Gives : {X Y : Type 0} → X × Y → X → Y → Type 0
Gives {X} {Y} is x y = ◌≡◌ {A = X × Y} (x, y) is

pub pair : {X Y : Type 0} {x x' : X} {y y' : Y} → x ≡ x' → y ≡ y' → ◌≡◌ {A = X × Y} (x, y) (x', y')
pair e f = ap₂ (λ a b. (a, b)) e f

-- and nothing else
pub once : {X Y : Type 0} (is : X × Y) (x x' : X) (y y' : Y) → Gives is x y → Gives is x' y' → (x ≡ x') × (y ≡ y')
once {X} {Y} is x x' y y' e e' =
    let both : ◌≡◌ {A = X × Y} (x, y) (x', y') = e ∙ sym e' in
    (ap (λ (p : X × Y). p.0) both, ap (λ (p : X × Y). p.1) both)

-- ---- a look and an attempt

module _ (terms : Terms) where
  abbrev pub look : ℕ → Step Record
  look object now = (look_at terms.port object (record_at object now) ∷ [], record_at object now)

  abbrev pub attempt : ℕ → Change → Step (Result Changed Refused)
  attempt object change now = (events_alone terms object change now, answer_alone terms object change now)

  module _ (alone : terms.alone ≡ true) (seen added : List Event) (legal : IsLegal terms.profile (added ++ seen)) where
    pub look_is : (object : ℕ) (shown : Record) → IsLook terms object shown added → Gives (look object seen) added shown
    look_is object shown h =
        let a = looks_alone terms object shown seen added alone legal h in
        pair (a.1 ∙ ap (λ r. look_at terms.port object r ∷ []) a.0) a.0

    pub attempt_is : (object : ℕ) (change : Change) (tries : ℕ) (outcome : Result Changed Refused) → 1 ≤ tries
        → Attempt terms object change tries seen added outcome → Gives (attempt object change seen) added outcome
    attempt_is object change tries outcome some h =
        let a = attempts_alone terms object change tries seen added outcome alone some legal h in
        pair a.1 a.0
