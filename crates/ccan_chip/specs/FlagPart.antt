-- Which 16 objects a register of a flag shows. Source: C_CAN User's Manual 1.2, section 3.4 (Message Handler Registers),
-- which has objects 1 to 16 and 17 to 32; the parts of objects 33 to 64 are this project's own.
use Rattle.std.specs.Prelude.{ℕ, ◌≡◌, ◌+◌, ◌*◌, ◌≤◌}
use Rattle.ccan_object.specs.declared.profile.Profile.{Profile}
use Rattle.ccan_object.specs.Profile.{objects_in}
use Rattle.ccan_chip.specs.declared.flag_part.FlagPart.{FlagPart}
use Rattle.ccan_chip.specs.declared.flag_part.FlagPart.TheVariants.{First, Second, Third, Fourth}

-- its index among the parts, from 0
abbrev pub index_of : FlagPart → ℕ
index_of First = 0
index_of Second = 1
index_of Third = 2
index_of Fourth = 3

-- a chip with this many objects has those of the part
abbrev pub HasObjectsOf : Profile → FlagPart → Type 0
HasObjectsOf profile part = 16 * (index_of part + 1) ≤ objects_in profile

-- the flags of these objects are this far from where the flag's registers begin, and a chip with this many objects has them
pub record IsPlaceOf (profile : Profile) (place : ℕ) (part : FlagPart) : Type 0 where
  pub stands : 2 * index_of part ≡ place
  pub has : HasObjectsOf profile part
