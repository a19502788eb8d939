-- Faults at places. The checks of a value have numbered places, and the fault of the least place is the one that is reported.
-- Source: this project's own.
use Rattle.std.specs.Prelude.{◌≡◌, ℕ, List, Option, Some, None}
use Rattle.std.specs.Ordering.{nat_cmp}
use Rattle.std.specs.Cmp.Lexicographic.{slice_cmp}
use Rattle.std.specs.declared.cmp.Ordering.TheVariants.{Less}
use Rattle.ccan_script.specs.declared.script_error.ScriptError.{ScriptError}

-- a place has a number of several parts, as a section of a document has, and an earlier place has a smaller number
abbrev pub Precedes : List ℕ → List ℕ → Type 0
Precedes a b = slice_cmp nat_cmp a b ≡ Less

-- a set of faults is a function that gives the fault at each place, if there is one
module _ {P : Type 0} (number : P → List ℕ) (fault : P → Option ScriptError) where
  -- there is none
  abbrev pub IsFaultless : Type 0
  IsFaultless = (place : P) → fault place ≡ None

  -- the fault of the least place
  pub record IsFirst (e : ScriptError) : Type 0 where
    pub place : P
    pub is : fault place ≡ Some e
    pub first : (earlier : P) → Precedes (number earlier) (number place) → fault earlier ≡ None
