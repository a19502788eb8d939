-- Frames, and the places of their identifiers. Source: CAN Specification 2.0, part B, section 3 (message transfer: data frame,
-- remote frame); C_CAN User's Manual 1.2, section 3.3.4 (a standard identifier is in ID28 to ID18). That those of the eight
-- bytes that are not data are 0 is this project's own.
use Rattle.std.specs.Prelude.{ℕ, Bool, ◌≡◌, ◌≤◌, ◌<◌, ◌-◌, ◌^◌, ◌++◌, List, All, length, take, replicate, if◌then◌else◌}
use Rattle.ccan_object.specs.Bits.{at}
use Rattle.ccan_object.specs.DataLength.{byte_count}

-- the identifier as a number, whether it is an extended one, whether the frame is a remote frame, the data length code,
-- and eight bytes
pub record FrameFields : Type 0 where
  pub id : ℕ
  pub xtd : Bool
  pub rtr : Bool
  pub dlc : ℕ
  pub bytes : List ℕ

-- how many bits an identifier has
abbrev pub identifier_bits : Bool → ℕ
identifier_bits xtd = if xtd then 29 else 11

-- an identifier fits its kind
abbrev pub FitsKind : Bool → ℕ → Type 0
FitsKind xtd id = id < 2 ^ identifier_bits xtd

-- how many data bytes a frame carries: a data frame as many as its code means, a remote frame none
abbrev pub data_count : Bool → ℕ → ℕ
data_count rtr dlc = if rtr then 0 else byte_count dlc

-- the first of eight bytes, and 0 past them
abbrev pub first_bytes : ℕ → List ℕ → List ℕ
first_bytes count bytes = take count bytes ++ replicate (8 - count) 0

-- the frame of an identifier, a data length code and eight bytes; the bytes that are not data become 0
abbrev pub framed : ℕ → Bool → Bool → ℕ → List ℕ → FrameFields
framed id xtd rtr dlc bytes =
    record { id = id; xtd = xtd; rtr = rtr; dlc = dlc; bytes = first_bytes (data_count rtr dlc) bytes }

-- the identifier fits its kind, the code has four bits, and the bytes that are not data are 0
pub record IsFrame (f : FrameFields) : Type 0 where
  pub id : f.id < 2 ^ identifier_bits f.xtd
  pub dlc : f.dlc ≤ 15
  pub length_is : length f.bytes ≡ 8
  pub bytes : All (λ byte. byte < 2 ^ 8) f.bytes
  pub others : first_bytes (data_count f.rtr f.dlc) f.bytes ≡ f.bytes

-- the identifier in places 28 to 0: an extended one takes them all, a standard one places 28 to 18, with 0 below
abbrev pub identifier_of : FrameFields → ℕ
identifier_of f = if f.xtd then f.id else at 18 f.id
