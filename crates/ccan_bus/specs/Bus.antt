-- Which pasts may have led to a bus, and how a call goes on from them. Source: this project's own.
use Rattle.std.specs.Prelude.{ℕ, ◌≡◌, ◌≤◌, Bool, false, ◌&&◌, not, nat_le, List, ◌∷◌, slice_index_or}
use Rattle.ccan_ram.specs.declared.event.Event.{Event}
use Rattle.ccan_ram.specs.Terms.{Terms}
use Rattle.ccan_ram.specs.Access.{Passes, Goes}
use Rattle.ccan_confine.specs.Counters.{is_off, Counts, AreAfter, new_counts}
use Rattle.ccan_confine.specs.Status.{IsHeldAfter, WasRead, word_after}
use Rattle.ccan_bus.specs.declared.bus.Bus.{Bus}
use Rattle.ccan_bus.specs.Past.{BusPast, is_controller, levels_at}

-- the counters of a node
abbrev pub counters_at : Bus → ℕ → Counts
counters_at bus node = slice_index_or bus.nodes node (new_counts false)

-- whether a node is on, by its counters
unfoldable pub is_on_now : Bus → ℕ → Bool
is_on_now bus node = nat_le node bus.others && not (is_off (counters_at bus node).levels)

-- this may have happened to the bus
pub record LedTo (past : BusPast) (bus : Bus) : Type 0 where
  pub others : bus.others ≡ past.others
  pub counters : (node : ℕ) → node ≤ past.others → AreAfter (is_controller node) (past.events node) (counters_at bus node)
  pub status : IsHeldAfter past.steps bus.status
  pub loaded : bus.loaded ≡ past.loaded
  pub loops_back : bus.loops_back ≡ past.loops_back
  pub choice : bus.choice ≡ past.choice

-- a call keeps the profile, the nodes and the choice
pub record IsSameBus (old new : Bus) : Type 0 where
  pub profile : new.profile ≡ old.profile
  pub others : new.others ≡ old.others
  pub choice : new.choice ≡ old.choice

-- each past that may have led to the old bus goes on to one that may have led to the new one, and between them this holds
pub record GoesOn (old new : Bus) (what : BusPast → BusPast → Type 0) : Type 0 where
  pub each : (past : BusPast) → LedTo past old → (after : BusPast) × LedTo after new × what past after

-- a call that is made with an access: the history of the memory and the past of the bus go on
abbrev pub GoesOnWith : Passes → Passes → Bus → Bus
    → (Terms → List Event → List Event → BusPast → BusPast → Type 0) → Type 0
GoesOnWith seen_before seen_after old new what =
    Goes seen_before seen_after (λ terms seen added. GoesOn old new (λ past after. what terms seen added past after))

-- a read of the Status register answers the word after the whole past
pub record ReadsStatus (past after : BusPast) (word : ℕ) : Type 0 where
  pub value : word ≡ word_after past.steps (levels_at past 0)
  pub read : after ≡ record past { steps = WasRead ∷ past.steps }
