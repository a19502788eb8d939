-- The bits of arbitration as one number, as the code compares them, and the least of the members' numbers. Source: (own).
use Rattle.std.specs.Prelude.{ℕ, zero, suc, ◌≡◌, ◌≢◌, ◌⊎◌, ◌≤◌, ◌<◌, ◌+◌, ◌^◌, Bool, true, false}
use Rattle.std.specs.Prelude.{List, [], ◌∷◌, Option, Some, None}
use Rattle.ccan_accept.specs.declared.frame.Frame.{Frame}
use Rattle.ccan_wire.specs.declared.member.Member.{Member}
use Rattle.ccan_wire.specs.Arbitration.{arbitration_bits, rest_of}
use Rattle.ccan_wire.specs.Member.{sent_by}
use Rattle.ccan_wire.specs.Role.{hears, is_active}
use Rattle.ccan_wire.specs.Winner.{is_among}

-- a list of bits as a number of this many bits, the first the highest
unfoldable pub value_of : ℕ → List Bool → ℕ
value_of zero bits = 0
value_of (suc n) [] = 0
value_of (suc n) (true ∷ bits) = 2 ^ n + value_of n bits
value_of (suc n) (false ∷ bits) = value_of n bits

unfoldable pub packed : Frame → ℕ
packed f = value_of 32 (arbitration_bits f)

-- the number by which a member contends, and one above all of them if it sends nothing
abbrev pub number_of : Option Frame → ℕ
number_of None = 2 ^ 32
number_of (Some frame) = packed frame

abbrev pub key_of : Member → ℕ
key_of m = number_of (sent_by m)

abbrev pub rest_of_some : Option Frame → ℕ
rest_of_some None = 0
rest_of_some (Some frame) = rest_of frame

abbrev pub rest_by : Member → ℕ
rest_by m = rest_of_some (sent_by m)

-- of the first numbers, none is less than the one at this place
pub record IsLeast (key : ℕ → ℕ) (count place : ℕ) : Type 0 where
  pub within : place < count
  pub floor : (k : ℕ) → k < count → key place ≤ key k

-- of the first numbers, as far as their places are meant, none is less than the one at this place
pub record IsLeastAmong (key : ℕ → ℕ) (who : List Bool) (count place : ℕ) : Type 0 where
  pub within : is_among who place ≡ true
  pub floor : (k : ℕ) → k < count → is_among who k ≡ true → key place ≤ key k

-- a member just drops out after the arbitration
pub record IsLate (m : Member) (frame : Frame) : Type 0 where
  pub hears : hears m.role ≡ true
  pub passive : is_active m.role ≡ false
  pub later : rest_of frame < rest_by m

-- A member lets the frame go on that none precedes. If it has the same bits of arbitration (`true`) it sends that frame too, or
-- just drops out; else it sends nothing, or hears that it lost the arbitration
abbrev pub Agrees : Bool → Member → Frame → Type 0
Agrees true m frame = (sent_by m ≡ Some frame) ⊎ IsLate m frame
Agrees false m frame = (sent_by m ≡ None) ⊎ (hears m.role ≡ true)

-- or it does not
abbrev pub Dissents : Bool → Member → Frame → Type 0
Dissents true m frame = (sent_by m ≢ Some frame) × (IsLate m frame → ⊥)
Dissents false m frame = (sent_by m ≢ None) × (hears m.role ≡ false)
