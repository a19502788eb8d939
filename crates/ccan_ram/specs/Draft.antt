-- Drafts of a change, and what comes of a draft that is committed. Source: this project's own.
use Rattle.std.specs.Prelude.{ℕ, ◌≡◌, Bool, true, false, List, [], ◌∷◌, ◌++◌, Result, Ok, Err}
use Rattle.ccan_object.specs.declared.record.Record.{Record}
use Rattle.ccan_ram.specs.declared.change.Change.{Change}
use Rattle.ccan_ram.specs.declared.change.Changed.{Changed}
use Rattle.ccan_ram.specs.declared.change.Changed.TheVariants.{Done, NotNow}
use Rattle.ccan_ram.specs.declared.draft.Draft.{Draft}
use Rattle.ccan_ram.specs.declared.draft.CommitError.{CommitError}
use Rattle.ccan_ram.specs.declared.draft.CommitError.TheVariants.{Lost, Spent}
use Rattle.ccan_ram.specs.declared.event.Event.{Event}
use Rattle.ccan_ram.specs.Change.{fits, changed}
use Rattle.ccan_ram.specs.History.{next_number, last_number}
use Rattle.ccan_ram.specs.Terms.{Terms}
use Rattle.ccan_ram.specs.Attempt.{AreOthers, EndsIn, SomeContends, look_at, change_at, HasRoom, IsSpent}
use Rattle.ccan_ram.specs.Access.{Goes}
use Rattle.ccan_ram.specs.SharedRam.{Pass, terms_of, passes_of}

-- the look that begins a change: the draft has its record, and the number of the last change before it that contends
pub record LooksFor (terms : Terms) (draft : Draft) (seen added : List Event) : Type 0 where
  pub others : List Event
  pub alone : AreOthers terms others
  pub whole : added ≡ look_at terms.port draft.object draft.held ∷ others
  pub numbered : draft.number ≡ last_number terms.contends draft.object (others ++ seen)

-- the draft may have been made by the look between these parts of what was seen
pub record IsDrawnAt (terms : Terms) (draft : Draft) (seen later earlier : List Event) : Type 0 where
  pub whole : seen ≡ later ++ look_at terms.port draft.object draft.held ∷ earlier
  pub numbered : draft.number ≡ last_number terms.contends draft.object earlier

-- the draft was made for this port
abbrev pub IsDrawn : (ℕ → ℕ → Bool) → Draft → Pass → Type 0
IsDrawn contends draft pass =
    (later : List Event) × (earlier : List Event)
    × IsDrawnAt (terms_of contends pass.memory pass.port) draft pass.seen later earlier

-- a change was made to the draft's record, after all that was seen
pub record CommitsDone (terms : Terms) (draft : Draft) (change : Change) (seen added : List Event) (before after : Record)
    (number : ℕ) : Type 0 where
  pub room : HasRoom terms seen
  pub fit : fits change draft.held ≡ true
  pub make : EndsIn terms added (change_at terms.port draft.object change draft.held)
  pub found : before ≡ draft.held
  pub left : after ≡ changed change draft.held
  pub numbered : number ≡ next_number terms.port seen

-- the draft's record does not fit, and nothing is added
pub record CommitsNotNow (terms : Terms) (draft : Draft) (change : Change) (seen added : List Event)
    (shown : Record) : Type 0 where
  pub room : HasRoom terms seen
  pub unfit : fits change draft.held ≡ false
  pub found : shown ≡ draft.held
  pub none : added ≡ []

-- a change that contends comes after the draft's look, wherever that was
pub record CommitsLost (terms : Terms) (draft : Draft) (change : Change) (seen added : List Event) (now : ℕ) : Type 0 where
  pub room : HasRoom terms seen
  pub fit : fits change draft.held ≡ true
  pub alone : AreOthers terms added
  pub contended : (later earlier : List Event) → IsDrawnAt terms draft seen later earlier
      → SomeContends terms draft.object (added ++ later)
  pub last : now ≡ last_number terms.contends draft.object (added ++ seen)

-- what a commit adds, by its answer
abbrev pub Commits : Terms → Draft → Change → List Event → List Event → Result Changed CommitError → Type 0
Commits terms draft change seen added (Ok (Done before after number)) =
    CommitsDone terms draft change seen added before after number
Commits terms draft change seen added (Ok (NotNow shown)) = CommitsNotNow terms draft change seen added shown
Commits terms draft change seen added (Err (Lost now)) = CommitsLost terms draft change seen added now
Commits terms draft change seen added (Err Spent) = IsSpent terms seen added

-- a port's call adds the look that begins the draft
abbrev pub AddsDraft : (ℕ → ℕ → Bool) → Pass → Pass → Draft → Type 0
AddsDraft contends old new draft =
    Goes (passes_of contends old) (passes_of contends new) (λ terms seen added. LooksFor terms draft seen added)

-- a port's call commits the draft of a change, with this answer
abbrev pub AddsCommit : (ℕ → ℕ → Bool) → Pass → Pass → Draft → Change → Result Changed CommitError → Type 0
AddsCommit contends old new draft change answer =
    Goes (passes_of contends old) (passes_of contends new) (λ terms seen added. Commits terms draft change seen added answer)

-- what the answer says by itself, whatever was seen: Done only if the draft's record fits, and with what the change
-- makes of it; NotNow only if it does not fit
abbrev pub CommitTells : Draft → Change → Result Changed CommitError → Type 0
CommitTells draft change (Ok (Done before after number)) =
    (fits change draft.held ≡ true) × (before ≡ draft.held) × (after ≡ changed change draft.held)
CommitTells draft change (Ok (NotNow shown)) = (fits change draft.held ≡ false) × (shown ≡ draft.held)
CommitTells draft change (Err why) = Unit {0}
