-- How many message objects a message RAM has. Source: 32 are those of the C_CAN User's Manual 1.2, section 3.3.4 (Message
-- Object in the Message Memory); the second profile, of 64, is this project's own.
use Rattle.std.specs.Prelude.{ℕ, ◌≤◌}
use Rattle.ccan_object.specs.declared.profile.Profile.{Profile}
use Rattle.ccan_object.specs.declared.profile.Profile.TheVariants.{One, Two}

abbrev pub objects_in : Profile → ℕ
objects_in One = 32
objects_in Two = 64

-- the objects are numbered from 1 up to as many as there are
pub record Holds (profile : Profile) (object : ℕ) : Type 0 where
  pub least : 1 ≤ object
  pub greatest : object ≤ objects_in profile

-- the number of an object of some profile
abbrev pub IsObject : ℕ → Type 0
IsObject object = Holds Two object
