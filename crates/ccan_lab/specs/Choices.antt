-- The lines that the outcomes of a script have in each place, port by port and object by object. Source: this project's own.
use Rattle.std.specs.Prelude.{ℕ, ◌≡◌, ◌+◌, ◌-◌, ◌++◌, List, Some, length, map, slice_get}
use Rattle.std.specs.List.{Contains}
use Rattle.ccan_object.specs.declared.record.Record.{Record}
use Rattle.ccan_ram.specs.declared.port.PortName.{PortName}
use Rattle.ccan_line.specs.declared.line_end.LineEnd.{LineEnd}
use Rattle.ccan_outcomes.specs.declared.ending.Ending.{Ending}
use Rattle.ccan_outcomes.specs.OutcomeWords.{EndsSo}
use Rattle.ccan_lab.specs.Rows.{final_rows, line_at, row_text}

-- how a line of a port, counted from 0, ends in the outcomes, as it is printed
pub record AreLinesOf (IsOutcome : Ending → Type 0) (port : PortName) (line : ℕ) (texts : List (List ℕ)) : Type 0 where
  pub right : (text : List ℕ) → Contains texts text
      → (end : LineEnd) × EndsSo IsOutcome port line end × (row_text port end ≡ text)
  pub complete : (end : LineEnd) → EndsSo IsOutcome port line end → Contains texts (row_text port end)

-- after what was there come those of each of the first so many lines of a port
pub record HasPort (IsOutcome : Ending → Type 0) (port : PortName) (count : ℕ) (old new : List (List (List ℕ))) : Type 0 where
  pub more : List (List (List ℕ))
  pub new_is : new ≡ old ++ more
  pub as_many : length more ≡ count
  pub are : (line : ℕ) (texts : List (List ℕ)) → slice_get more line ≡ Some texts → AreLinesOf IsOutcome port line texts

-- the line of an object, counted from 1, in a memory
abbrev pub final_of : ℕ → List Record → List ℕ
final_of object records = line_at (final_rows records) (object - 1)

-- after what was there come those of each of the first so many objects
pub record HasObjects (memories : List (List Record)) (count : ℕ) (old new : List (List (List ℕ))) : Type 0 where
  pub more : List (List (List ℕ))
  pub new_is : new ≡ old ++ more
  pub as_many : length more ≡ count
  pub are : (index : ℕ) (texts : List (List ℕ)) → slice_get more index ≡ Some texts
      → texts ≡ map (final_of (index + 1)) memories
