-- Lines, one after another, whatever a line is and works on. Source: this project's own.
use Rattle.std.specs.Prelude.{◌≡◌, List, [], ◌∷◌, ◌++◌, All}
use Rattle.ccan_ram.specs.declared.event.Event.{Event}

module _ {Line State Answer : Type 0} (means : Line → State → List Event → List Event → Answer → State → Type 0) where
  -- the lines, each after those before it, stand for these events, with an answer for each line; new events come in
  -- front of what was seen, and each line finds the state as the one before left it
  abbrev pub LinesMean : List Line → State → List Event → List Event → List Answer → State → Type 0
  LinesMean [] state seen added answers left = (added ≡ []) × (answers ≡ []) × (left ≡ state)
  LinesMean (line ∷ lines) state seen added answers left =
      (later : List Event) × (first : List Event) × (answer : Answer) × (more : List Answer) × (between : State)
      × (added ≡ later ++ first) × (answers ≡ answer ∷ more)
      × means line state seen first answer between
      × LinesMean lines between (first ++ seen) later more left

  -- from this state on
  abbrev pub Run : State → List Line → List Event → List Event → List Answer → Type 0
  Run start lines seen added answers = (left : State) × LinesMean lines start seen added answers left

-- if each line has at most one proof of a fact, there is at most one for all of them
pub All-prop : {L : Type 0} (Fits : L → Type 0) → ((line : L) → IsProp (Fits line)) → (lines : List L) → IsProp (All Fits lines)
All-prop Fits each lines a b = λ i index line within. each _ (a index line within) (b index line within) i
