-- What is printed of the outcomes of a script. Source: this project's own.
use Rattle.std.specs.Prelude.{ℕ, zero, suc, ◌≡◌, ◌+◌, ◌++◌, ◌==◌, ◌∷◌, List, [], Option, Some, None, IfSome}
use Rattle.std.specs.Prelude.{codes, decimal, slice_get, if◌then◌else◌}
use Rattle.std.specs.List.{enumerate_from, flat_map}
use Rattle.ccan_ram.specs.declared.port.PortName.{PortName}
use Rattle.ccan_ram.specs.Port.{port_text}
use Rattle.ccan_outcomes.specs.declared.ending.Ending.{Ending}
use Rattle.ccan_outcomes.specs.declared.history_step.HistoryStep.{HistoryStep}
use Rattle.ccan_lab.specs.History.{step_text}

-- ---- parts

-- a text for each number from 0, so many, one after another
unfoldable pub each : ℕ → (ℕ → List ℕ) → List ℕ
each zero text = []
each (suc count) text = each count text ++ text count

-- so many things of a name: `1 state`, `5 states`
abbrev pub counted_text : ℕ → List ℕ → List ℕ
counted_text count name =
    if count == 1 then decimal count ++ (codes " " ++ name) else decimal count ++ (codes " " ++ (name ++ codes "s"))

-- ---- what is the same in all

-- a label before a line, nothing if the line is empty
unfoldable pub labelled : List ℕ → List ℕ → List ℕ
labelled label [] = []
labelled label (byte ∷ rest) = label ++ byte ∷ rest

-- ---- an outcome with a history

-- a line for each step, counted from 1
unfoldable pub history_text : List HistoryStep → List ℕ
history_text steps = flat_map (λ step. step_text step.0 step.1) (enumerate_from 1 steps)

-- a port's name in quotation marks
abbrev pub quoted : PortName → List ℕ
quoted port = codes "\"" ++ (port_text port ++ codes "\"")

-- the names of an order, with a comma and a space before each
unfoldable pub later_names : List PortName → List ℕ
later_names [] = []
later_names (port ∷ later) = codes ", " ++ (quoted port ++ later_names later)

-- the names of an order, with a comma and a space between them
abbrev pub names_text : List PortName → List ℕ
names_text [] = []
names_text (first ∷ later) = quoted first ++ later_names later

-- the member of a script that says the order; nothing if there is none
abbrev pub order_text : Option (List PortName) → List ℕ
order_text None = []
order_text (Some order) = codes "  \"order\": [" ++ (names_text order ++ codes "]\n")

-- the outcome of a number from 0: its head, these lines of it, the history as it is reported, and an order, if there is one
abbrev pub outcome_text : List ℕ → ℕ → List ℕ → Option (List PortName) → List ℕ
outcome_text lines number told order =
    codes "outcome " ++ (decimal (number + 1) ++ (codes "\n" ++ (lines ++ (told ++ order_text order))))

-- the text is that of the ending in this place, with these lines and under this number, with a history of it as it is reported,
-- and with no order, or one that leads to it
abbrev pub IsTextWith : (Ending → List HistoryStep → Type 0) → (List HistoryStep → List ℕ → Type 0)
    → (Ending → List PortName → Type 0) → List Ending → ℕ → List ℕ → ℕ → List ℕ → Type 0
IsTextWith IsHistory IsTold LeadsTo endings place lines number text =
    (steps : List HistoryStep) × (told : List ℕ) × (order : Option (List PortName))
    × ((ending : Ending) → slice_get endings place ≡ Some ending → IsHistory ending steps × IfSome order (LeadsTo ending))
    × IsTold steps told × (text ≡ outcome_text lines number told order)
