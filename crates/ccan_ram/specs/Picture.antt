-- Pictures: a port's looks at all objects at one point in the history, and the Message Handler Registers there. Source: this
-- project's own; on the part, a register of one flag of all objects is read in one moment (C_CAN User's Manual 1.2, section
-- 3.4).
use Rattle.std.specs.Prelude.{◌≡◌, ℕ, zero, suc, ◌*◌, ◌<◌, ◌≤◌, List, [], ◌∷◌, ◌++◌}
use Rattle.ccan_object.specs.Profile.{objects_in}
use Rattle.ccan_ram.specs.declared.port.PortName.{PortName}
use Rattle.ccan_ram.specs.declared.event.Event.{Event}
use Rattle.ccan_ram.specs.declared.handler_registers.HandlerRegisters.{HandlerRegisters}
use Rattle.ccan_ram.specs.History.{record_at, changes_by}
use Rattle.ccan_ram.specs.Attempt.{look_at, AreOthers}
use Rattle.ccan_ram.specs.Terms.{Terms}
use Rattle.ccan_ram.specs.HandlerRegisters.{registers_at}
use Rattle.ccan_ram.specs.Access.{Passes, Goes}

-- looks of a port at the first n objects, which show the records that a history left, the newest first
abbrev pub pictured : PortName → ℕ → List Event → List Event
pictured p zero h = []
pictured p (suc n) h = look_at p (suc n) (record_at (suc n) h) ∷ pictured p n h

-- the port looks at all objects, one after another with nothing between, after other ports' events and before others
pub record Turn (terms : Terms) (seen added : List Event) : Type 0 where
  pub before : List Event
  pub after : List Event
  pub foreign_before : AreOthers terms before
  pub foreign_after : AreOthers terms after
  pub whole : added ≡ after ++ (pictured terms.port (objects_in terms.profile) (before ++ seen) ++ before)

-- a turn that is lost: another port made a change meanwhile
pub record LostTurn (terms : Terms) (seen added : List Event) : Type 0 where
  pub turn : Turn terms seen added
  pub other : PortName
  pub changed : changes_by other seen < changes_by other (added ++ seen)

-- this many turns that are lost, one after another
abbrev pub LostTurns : Terms → ℕ → List Event → List Event → Type 0
LostTurns terms zero seen added = added ≡ []
LostTurns terms (suc n) seen added =
    (last : List Event) × (earlier : List Event) × (added ≡ last ++ earlier)
    × LostTurn terms (earlier ++ seen) last × LostTurns terms n seen earlier

-- turns that are lost, no more than twice the quota, and one more turn; the registers are those of the memory that the history
-- left at the point of its looks
pub record IsPicture (terms : Terms) (shown : HandlerRegisters) (seen added : List Event) : Type 0 where
  pub times : ℕ
  pub lost : List Event
  pub last : List Event
  pub few : times ≤ 2 * terms.quota
  pub whole : added ≡ last ++ lost
  pub lose : LostTurns terms times seen lost
  pub turn : Turn terms (lost ++ seen) last
  pub shows : shown ≡ registers_at terms.profile (turn.before ++ (lost ++ seen))

-- a call adds a picture that shows these registers
abbrev pub AddsPicture : Passes → Passes → HandlerRegisters → Type 0
AddsPicture old new shown = Goes old new (λ terms seen added. IsPicture terms shown seen added)
