-- Which frames a message object accepts, place by place. Source: C_CAN User's Manual 1.2, sections 3.3.4 (Msk28-0, MXtd,
-- MDir, UMask) and 4.2 (acceptance filtering of received messages). This project's own: a locked object is passed over for
-- frames of both kinds, a masked object without MDir takes both kinds, and only places 28 to 18 are compared if the
-- object or the frame is standard.
use Rattle.std.specs.Prelude.{ℕ, ◌≡◌, ◌<◌, ◌==◌, Bool, false, IsTrue, ◌&&◌, ◌||◌, not, nat_le}
use Rattle.std.specs.Bool.{beq}
use Rattle.std.specs.List.{list_all, range_with_len}
use Rattle.std.specs.Int.{bit_at}
use Rattle.ccan_object.specs.declared.record.Record.{Record}
use Rattle.ccan_object.specs.Bits.{bit}
use Rattle.ccan_accept.specs.declared.frame.Frame.{Frame}
use Rattle.ccan_accept.specs.Frame.{identifier_of}

-- the object holds new data, whose NewDat was not cleared yet, and its FIFO buffer goes on after it
abbrev pub is_locked : Record → Bool
is_locked r = not r.eob && r.newdat

-- an object's mask compares a place of the identifier; without UMask every place is compared
abbrev pub is_masked : Record → ℕ → Bool
is_masked r place = not r.umask || bit r.mask place

-- an identifier has a place: an extended one places 28 to 0, a standard one places 28 to 18
abbrev pub has_place : Bool → ℕ → Bool
has_place xtd place = nat_le 18 place || xtd

-- a place is compared: the mask compares it, and it exists in both identifiers
abbrev pub is_compared : Record → Frame → ℕ → Bool
is_compared r f place = is_masked r place && has_place (r.xtd && f.xtd) place

-- a word has bit 1 at the places of an identifier that pass a test, and bit 0 at its other places
abbrev pub HasPlaces : (ℕ → Bool) → ℕ → Type 0
HasPlaces test word = (place : ℕ) → place < 29 → bit word place ≡ test place

-- Xtd is compared
abbrev pub compares_xtd : Record → Bool
compares_xtd r = not r.umask || r.mxtd

-- Dir is compared
abbrev pub compares_dir : Record → Bool
compares_dir r = not r.umask || r.mdir

-- an object accepts a frame: what is compared agrees. An object with Dir 0 takes data frames, one with Dir 1 remote frames
pub record Accepts (r : Record) (f : Frame) : Type 0 where
  pub valid : IsTrue r.valid
  pub unlocked : is_locked r ≡ false
  pub width : IsTrue (compares_xtd r) → r.xtd ≡ f.xtd
  pub kind : IsTrue (compares_dir r) → r.dir ≡ f.rtr
  pub places : (place : ℕ) → place < 29 → IsTrue (is_compared r f place) → bit_at r.id place ≡ bit_at (identifier_of f) place

-- the same as tests: one for Xtd, one for Dir, one for a place, one for all 29 places, and one for all of them
abbrev pub agrees_in_width : Record → Frame → Bool
agrees_in_width r f = not (compares_xtd r) || beq r.xtd f.xtd

abbrev pub agrees_in_kind : Record → Frame → Bool
agrees_in_kind r f = not (compares_dir r) || beq r.dir f.rtr

abbrev pub agrees_at : Record → Frame → ℕ → Bool
agrees_at r f place = not (is_compared r f place) || bit_at r.id place == bit_at (identifier_of f) place

unfoldable pub agrees_in_places : Record → Frame → Bool
agrees_in_places r f = list_all (agrees_at r f) (range_with_len 0 29)

unfoldable pub accepts : Record → Frame → Bool
accepts r f = r.valid && not (is_locked r) && agrees_in_width r f && agrees_in_kind r f && agrees_in_places r f
