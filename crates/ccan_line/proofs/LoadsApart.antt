-- A load during which nobody else acts: it is one over a one-thread memory.
use Rattle.std.proofs.Common.{◌≤◌, ℕ, List, inl, inr}
use Rattle.ccan_ram.specs.declared.change.Refused.{Refused}
use Rattle.ccan_ram.specs.declared.event.Event.{Event}
use Rattle.ccan_ram.specs.History.{NobodyElse}
use Rattle.ccan_ram.specs.Terms.{Terms}
use Rattle.ccan_ram.specs.Laws.{as_one_thread}
use Rattle.ccan_handler.specs.Moment.{Chosen}
use Rattle.ccan_bus.specs.declared.answer.LoadAnswer.{LoadAnswer}
use Rattle.ccan_bus.specs.declared.answer.LoadAnswer.TheVariants as load
use Rattle.ccan_bus.specs.Past.{BusPast}
use Rattle.ccan_bus.specs.Load.{IsLoadChoice, IsLoadRefused, Loads}
use Rattle.ccan_line.proofs.ChoicesApart.{choices_apart}

module _ (terms : Terms) (tries : ℕ) (some : 1 ≤ tries) where
  abbrev single : Terms
  single = as_one_thread terms

  load_choices : (seen added : List Event) (past : BusPast) (chosen : Chosen) → NobodyElse terms.port added
      → IsLoadChoice terms tries seen added past chosen → IsLoadChoice single tries seen added past chosen
  load_choices seen added past chosen alone h =
      record {
        empty = h.empty;
        on =
            h.on;
        chooses = choices_apart terms tries some past.choice seen added chosen alone h.chooses;
      }

  load_refused : (seen added : List Event) (past after : BusPast) (object : ℕ) (why : Refused) → NobodyElse terms.port added
      → IsLoadRefused terms tries seen added past after object why → IsLoadRefused single tries seen added past after object why
  load_refused seen added past after object why alone h =
      record { choice = load_choices seen added past _ alone h.choice; same = h.same }

  pub loads_apart : (seen added : List Event) (past after : BusPast) (loading : LoadAnswer) → NobodyElse terms.port added
      → Loads terms tries seen added past after loading → Loads single tries seen added past after loading
  loads_apart seen added past after (load.Loaded object started) alone h = record {
    choice = load_choices seen added past _ alone h.choice;
    now_loaded = h.now_loaded;
  }
  loads_apart seen added past after (load.Held object) alone h = h
  loads_apart seen added past after load.Nothing alone (inl off) = inl off
  loads_apart seen added past after load.Nothing alone (inr h) =
      inr (record { choice = load_choices seen added past _ alone h.choice; same = h.same })
  loads_apart seen added past after (load.Busy object) alone (told, now, h) =
      (told, now, load_refused seen added past after object _ alone h)
  loads_apart seen added past after (load.Spent object) alone h = load_refused seen added past after object _ alone h
