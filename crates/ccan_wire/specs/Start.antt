-- What is settled when a frame starts: who sends which frame, or that some collide. Source: CAN Specification 2.0, part B,
-- section 2 (arbitration: the frame whose bits precede goes on, and no bit of it is lost), 3.1.3 (a passive error flag is of
-- recessive bits) and "Error Detection" (bit error: a unit that sends a recessive bit after the arbitration field and sees a
-- dominant one); C_CAN User's Manual 1.2, "Loop Back Mode" (the input is disregarded, and the messages are at the output). Members
-- who send frames that are equal to the last bit see no difference: these are one frame on the bus.
--
-- A member in loop back mode never stops: neither a lost arbitration nor another's bit matters to it. So its frame goes on as it
-- is if no other frame precedes it and the others who send all stop. That two different frames spoil each other if neither
-- stops is (own): by the bits, one may rarely cover the other to its end. That it starts its frame when the others start theirs
-- is (own) too: a part starts it at any time.
use Rattle.std.specs.Prelude.{ℕ, ◌≡◌, ◌≢◌, ◌≤◌, ◌<◌, Bool, true, false, List, Some, None}
use Rattle.ccan_accept.specs.declared.frame.Frame.{Frame}
use Rattle.ccan_wire.specs.declared.member.Member.{Member}
use Rattle.ccan_wire.specs.declared.start.Start.{Start}
use Rattle.ccan_wire.specs.declared.start.Start.TheVariants.{Nothing, Collision, Won}
use Rattle.ccan_wire.specs.declared.winner.Part.TheVariants.{Sender, Dropped, Listener}
use Rattle.ccan_wire.specs.declared.winner.Winner.{Winner}
use Rattle.ccan_wire.specs.Arbitration.{beats, rest_of}
use Rattle.ccan_wire.specs.Member.{sent_by}
use Rattle.ccan_wire.specs.Role.{hears, is_active}
use Rattle.ccan_wire.specs.Winner.{is_among, part_of}

-- the two have the same bits of arbitration, and where they first differ the second has the recessive bit
pub record ComesLater (frame other : Frame) : Type 0 where
  pub not_before : beats other frame ≡ false
  pub not_after : beats frame other ≡ false
  pub recessive : rest_of frame < rest_of other

-- this member stops at a bit of the arbitration, and leaves the frame as it is: it hears that its own is preceded
pub record Loses (m : Member) (frame : Frame) : Type 0 where
  pub other : Frame
  pub sends : sent_by m ≡ Some other
  pub lost : beats frame other ≡ true
  pub hears : hears m.role ≡ true

-- this member drops out after the arbitration, and leaves the frame as it is: it sends one that comes later, hears that, and is
-- error passive
pub record DropsOut (m : Member) (frame : Frame) : Type 0 where
  pub other : Frame
  pub sends : sent_by m ≡ Some other
  pub later : ComesLater frame other
  pub hears : hears m.role ≡ true
  pub passive : is_active m.role ≡ false

-- its senders send this frame, some drop out, and each other member that sends loses the arbitration against it
pub record Wins (m : ℕ → Member) (winner : Winner) : Type 0 where
  pub some : (k : ℕ) × (part_of winner k ≡ Sender)
  pub theirs : (k : ℕ) → part_of winner k ≡ Sender → sent_by (m k) ≡ Some winner.frame
  pub drop : (k : ℕ) → part_of winner k ≡ Dropped → DropsOut (m k) winner.frame
  pub first : (k : ℕ) (other : Frame) → part_of winner k ≡ Listener → sent_by (m k) ≡ Some other → Loses (m k) winner.frame

-- no frame precedes this member's
pub record SendsLeast (m : ℕ → Member) (k : ℕ) : Type 0 where
  pub frame : Frame
  pub sends : sent_by (m k) ≡ Some frame
  pub least : (j : ℕ) (other : Frame) → sent_by (m j) ≡ Some other → beats other frame ≡ false

-- These are all the members whose frames none precedes, and some member sends another frame than the one that would go on, and
-- neither loses the arbitration nor just drops out. If it is one of these and hears the bus, its error flag, of dominant bits, ends
-- all their frames; else its frame and that one spoil each other
pub record Collides (m : ℕ → Member) (who : List Bool) : Type 0 where
  pub only : (k : ℕ) → is_among who k ≡ true → SendsLeast m k
  pub all : (k : ℕ) → SendsLeast m k → is_among who k ≡ true
  pub one : ℕ
  pub one_is : is_among who one ≡ true
  pub frame : Frame
  pub sends : sent_by (m one) ≡ Some frame
  pub first : (k : ℕ) (other : Frame) → is_among who k ≡ true → sent_by (m k) ≡ Some other → rest_of frame ≤ rest_of other
  pub another : ℕ
  pub its : Frame
  pub its_sends : sent_by (m another) ≡ Some its
  pub different : its ≢ frame
  pub drives_on : Loses (m another) frame → ⊥
  pub stays : DropsOut (m another) frame → ⊥

-- the members start like this
abbrev pub Starts : (ℕ → Member) → Start → Type 0
Starts m Nothing = (k : ℕ) → sent_by (m k) ≡ None
Starts m (Collision who) = Collides m who
Starts m (Won winner) = Wins m winner
