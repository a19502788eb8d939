-- Lines of places in the order of their bytes. Source: this project's own.
use Rattle.std.specs.Prelude.{ℕ, ◌≡◌, List, Some, length, map, slice_get}
use Rattle.std.specs.Global.{Vec}
use Rattle.std.specs.Borrow.{Bor}
use Rattle.ccan_lab.specs.Summary.{AreInOrder}

-- the texts of borrowed lines
abbrev pub texts_of : List (Bor (List ℕ)) → List (List ℕ)
texts_of lines = map (λ line. line.now) lines

-- those of each place
abbrev pub all_texts : List (Vec (Bor (List ℕ))) → List (List (List ℕ))
all_texts all = map (λ lines. texts_of lines.items) all

-- in each place are the lines that were there, each once and in order
pub record AreAllInOrder (all sorted : List (List (List ℕ))) : Type 0 where
  pub as_many : length sorted ≡ length all
  pub are : (place : ℕ) (rows lines : List (List ℕ)) → slice_get all place ≡ Some rows
      → slice_get sorted place ≡ Some lines → AreInOrder rows lines
