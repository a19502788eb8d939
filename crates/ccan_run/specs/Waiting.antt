-- Text that waits to be written. Source: this project's own.
use Rattle.std.specs.Prelude.{◌≡◌, ℕ, List, ◌++◌, Option}
use Rattle.std.specs.Io.KnownBytes.{Appends}

-- what went out and what waits now are together what waited before and then this text
pub record AddsText (old new : Option (List ℕ)) (waited waits text : List ℕ) : Type 0 where
  pub out : List ℕ
  pub written : Appends old new out
  pub is : out ++ waits ≡ waited ++ text
