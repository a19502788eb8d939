-- What is on the bus while one frame is sent. Source: CAN Specification 2.0, part B, 3.1.1 (ACK field), 3.1.3 (error frame: a
-- passive flag is of recessive bits; that of a sender breaks the stuff rule, unless another member sends on), "Error Detection"
-- (acknowledge error) and "Error Signalling". Of errors that end a frame, the one that is earlier in it counts. That a sender
-- who leaves the bus does so before the end of the check sequence is (own).
use Rattle.std.specs.Prelude.{ℕ, ◌≡◌, Bool, true, false, ◌⊎◌}
use Rattle.ccan_wire.specs.declared.member.Member.{Member}
use Rattle.ccan_wire.specs.declared.start.Start.{Start}
use Rattle.ccan_wire.specs.declared.start.Start.TheVariants as start
use Rattle.ccan_wire.specs.declared.wire.Wire.{Wire}
use Rattle.ccan_wire.specs.declared.wire.Wire.TheVariants.{Idle, Collided, Broken, Flagged, Unheard, Carried}
use Rattle.ccan_wire.specs.declared.winner.Part.{Part}
use Rattle.ccan_wire.specs.declared.winner.Winner.{Winner}
use Rattle.ccan_wire.specs.Winner.{part_of}
use Rattle.ccan_wire.specs.Sign.{acknowledges, breaks, covers, flags, goes_on, protests}
use Rattle.ccan_wire.specs.Start.{Starts}

-- some member shows this sign
abbrev pub Someone : (Part → Member → Bool) → (ℕ → Member) → Winner → Type 0
Someone shows m winner = (k : ℕ) × (shows (part_of winner k) (m k) ≡ true)

-- no member does
abbrev pub Nobody : (Part → Member → Bool) → (ℕ → Member) → Winner → Type 0
Nobody shows m winner = (k : ℕ) → shows (part_of winner k) (m k) ≡ false

-- the frame ends before the end of its check sequence: by an error flag of dominant bits, or because nobody sends it any more:
-- its senders send passive error flags or have left the bus
abbrev pub IsBroken : (ℕ → Member) → Winner → Type 0
IsBroken m winner = Someone breaks m winner ⊎ Nobody goes_on m winner

-- it goes on to there
pub record IsWhole (m : ℕ → Member) (winner : Winner) : Type 0 where
  pub unbroken : Nobody breaks m winner
  pub sent : Someone goes_on m winner

-- there is a dominant bit in the ACK slot, and an error flag of dominant bits there or after it
pub record IsFlagged (m : ℕ → Member) (winner : Winner) : Type 0 where
  pub whole : IsWhole m winner
  pub by : Someone covers m winner ⊎ (Someone acknowledges m winner × Someone flags m winner)

-- there is no dominant bit in the ACK slot; and whether an error flag of dominant bits comes after it
pub record IsUnheard (m : ℕ → Member) (winner : Winner) (flagged : Bool) : Type 0 where
  pub whole : IsWhole m winner
  pub uncovered : Nobody covers m winner
  pub unheard : Nobody acknowledges m winner
  pub flag : flagged ≡ true → Someone protests m winner
  pub no_flag : flagged ≡ false → Nobody protests m winner

-- there is a dominant bit in the ACK slot, and no error flag of dominant bits anywhere
pub record IsCarried (m : ℕ → Member) (winner : Winner) : Type 0 where
  pub whole : IsWhole m winner
  pub heard : Someone acknowledges m winner
  pub unflagged : Nobody flags m winner

-- what was settled at the start
abbrev pub start_of : Wire → Start
start_of Idle = start.Nothing
start_of (Collided who) = start.Collision who
start_of (Broken winner) = start.Won winner
start_of (Flagged winner) = start.Won winner
start_of (Unheard winner flagged) = start.Won winner
start_of (Carried winner) = start.Won winner

-- from there the frame ends like this, as the members are until then
abbrev pub Ends : (ℕ → Member) → Wire → Type 0
Ends m Idle = Unit {0}
Ends m (Collided who) = Unit {0}
Ends m (Broken winner) = IsBroken m winner
Ends m (Flagged winner) = IsFlagged m winner
Ends m (Unheard winner flagged) = IsUnheard m winner flagged
Ends m (Carried winner) = IsCarried m winner

-- the members put this on the bus
pub record Carries (m : ℕ → Member) (wire : Wire) : Type 0 where
  pub starts : Starts m (start_of wire)
  pub ends : Ends m wire

-- what was decided at the start ends like this, as the members are now: who won has won, and a collision stays one
pub record Continues (wire : Wire) (m : ℕ → Member) (later : Wire) : Type 0 where
  pub settled : start_of later ≡ start_of wire
  pub ends : Ends m later
