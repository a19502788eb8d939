-- A load, as what it adds to the past of the bus and to the history of the message RAM: the controller chooses the ready
-- object with the lowest number, object after object or at one moment, and starts it. Source: C_CAN User's Manual 1.2,
-- section 4.2 (transmission of messages); what a refused start leaves is this project's own.
use Rattle.std.specs.Prelude.{ℕ, ◌≡◌, true, false, ◌⊎◌, List, [], Some, None, Ok, Err}
use Rattle.ccan_object.specs.declared.record.Record.{Record}
use Rattle.ccan_ram.specs.declared.change.Refused.{Refused}
use Rattle.ccan_ram.specs.declared.change.Refused.TheVariants.{Busy, Spent}
use Rattle.ccan_ram.specs.declared.event.Event.{Event}
use Rattle.ccan_ram.specs.Terms.{Terms}
use Rattle.ccan_handler.specs.Moment.{Chosen}
use Rattle.ccan_bus.specs.declared.answer.LoadAnswer.{LoadAnswer}
use Rattle.ccan_bus.specs.declared.answer.LoadAnswer.TheVariants as load
use Rattle.ccan_bus.specs.Past.{BusPast, is_on}
use Rattle.ccan_bus.specs.Choice.{Chooses}

-- the controller is on and nothing is loaded, and the choice that the bus makes comes to this
pub record IsLoadChoice (terms : Terms) (tries : ℕ) (seen added : List Event) (past : BusPast)
    (chosen : Chosen) : Type 0 where
  pub empty : past.loaded ≡ None
  pub on : is_on past 0 ≡ true
  pub chooses : Chooses past.choice terms tries seen added chosen

-- Held: something is loaded, and nothing happens
pub record IsHeld (added : List Event) (past after : BusPast) (object : ℕ) : Type 0 where
  pub started : Record
  pub held : past.loaded ≡ Some (object, started)
  pub quiet : added ≡ []
  pub same : after ≡ past

-- Nothing: the controller is off, and nothing happens
pub record IsOff (added : List Event) (past after : BusPast) : Type 0 where
  pub empty : past.loaded ≡ None
  pub off : is_on past 0 ≡ false
  pub quiet : added ≡ []
  pub same : after ≡ past

-- or no object is ready
pub record FindsNone (terms : Terms) (tries : ℕ) (seen added : List Event) (past after : BusPast) : Type 0 where
  pub choice : IsLoadChoice terms tries seen added past (Ok None)
  pub same : after ≡ past

-- Loaded: the transmission of an object is started
pub record IsLoaded (terms : Terms) (tries : ℕ) (seen added : List Event) (past after : BusPast) (object : ℕ)
    (started : Record) : Type 0 where
  pub choice : IsLoadChoice terms tries seen added past (Ok (Some (object, started)))
  pub now_loaded : after ≡ record past { loaded = Some (object, started) }

-- Busy or Spent: the start is refused, and nothing is loaded
pub record IsLoadRefused (terms : Terms) (tries : ℕ) (seen added : List Event) (past after : BusPast) (object : ℕ)
    (why : Refused) : Type 0 where
  pub choice : IsLoadChoice terms tries seen added past (Err (record { at = object; why = why }))
  pub same : after ≡ past

abbrev pub Loads : Terms → ℕ → List Event → List Event → BusPast → BusPast → LoadAnswer → Type 0
Loads terms tries seen added past after (load.Loaded object started) = IsLoaded terms tries seen added past after object started
Loads terms tries seen added past after (load.Held object) = IsHeld added past after object
Loads terms tries seen added past after load.Nothing = IsOff added past after ⊎ FindsNone terms tries seen added past after
Loads terms tries seen added past after (load.Busy object) =
    (told : ℕ) × (now : ℕ) × IsLoadRefused terms tries seen added past after object (Busy told now)
Loads terms tries seen added past after (load.Spent object) = IsLoadRefused terms tries seen added past after object Spent

-- the answer of a load that is refused
abbrev pub refusal_of_load : ℕ → Refused → LoadAnswer
refusal_of_load object (Busy told now) = load.Busy object
refusal_of_load object Spent = load.Spent object
