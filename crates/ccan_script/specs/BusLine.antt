-- The lines of the bus in a script: what is wrong with the JSON value of a line, and what the line of a value without fault
-- says. Source: this project's own.
use Rattle.std.specs.Prelude.{ℕ, ◌≡◌, ◌==◌, ◌&&◌, Bool, codes, List, [], ◌∷◌, Option, Some, None, is_some}
use Rattle.serde_json.specs.Data.{Data}
use Rattle.ccan_bus.specs.declared.round_line.RoundLine.{RoundLine}
use Rattle.ccan_script.specs.declared.line_fault.LineFault.{LineFault}
use Rattle.ccan_script.specs.declared.line_fault.LineFault.TheVariants.{Shape}
use Rattle.ccan_script.specs.declared.bus_op.BusOp.{BusOp}
use Rattle.ccan_script.specs.declared.bus_op.BusOp.TheVariants as op
use Rattle.ccan_line.specs.declared.bus_line.BusLine.{BusLine}
use Rattle.ccan_line.specs.declared.bus_line.BusLine.TheVariants.{Load, Round, Interrupt, Flags, Controller}
use Rattle.ccan_line.specs.declared.controller_line.ControllerLine.TheVariants.{Status, Control, Counters, Init, Recessive, LoopBack}
use Rattle.ccan_line.specs.Limits.{most_groups}
use Rattle.ccan_script.specs.LineFault.{shape_check, shape_then_range}
use Rattle.ccan_script.specs.BusOp.{bus_op}
use Rattle.ccan_script.specs.Json.{has_only, has_number, is_bare, is_within, number_in, whole_in}
use Rattle.ccan_script.specs.FlagLine.{asks_flag, flag_of_line}
use Rattle.ccan_script.specs.Round.{is_round, round_fault, SaysRound}

-- ---- the two interrupt enables

unfoldable pub is_control : Data → Bool
is_control d =
    has_only (codes "op" ∷ codes "sie" ∷ codes "eie" ∷ []) d
    && (is_some (whole_in (codes "sie") d) && is_some (whole_in (codes "eie") d))

abbrev pub control_in_range : Data → Bool
control_in_range d = is_within 0 1 (whole_in (codes "sie") d) && is_within 0 1 (whole_in (codes "eie") d)

abbrev pub control_of : Data → BusLine
control_of d = Controller (Control (number_in (codes "sie") d == 1) (number_in (codes "eie") d == 1))

-- ---- lines

-- a line with one number, which lies in a range
abbrev pub number_fault_of : List ℕ → ℕ → ℕ → Data → Option LineFault
number_fault_of name least greatest d = shape_then_range (has_number name d) (is_within least greatest (whole_in name d))

unfoldable pub bus_fault_by : ℕ → Option BusOp → Data → Option LineFault
bus_fault_by nodes None d = Some Shape
bus_fault_by nodes (Some op.Load) d = shape_check (is_bare d)
bus_fault_by nodes (Some op.Round) d = round_fault nodes d
bus_fault_by nodes (Some op.Status) d = shape_check (is_bare d)
bus_fault_by nodes (Some op.Control) d = shape_then_range (is_control d) (control_in_range d)
bus_fault_by nodes (Some op.Interrupt) d = shape_check (is_bare d)
bus_fault_by nodes (Some op.Flags) d = shape_check (asks_flag d)
bus_fault_by nodes (Some op.Counters) d = number_fault_of (codes "node") 0 nodes d
bus_fault_by nodes (Some op.Init) d = shape_check (is_bare d)
bus_fault_by nodes (Some op.Recessive) d = number_fault_of (codes "groups") 1 most_groups d
bus_fault_by nodes (Some op.LoopBack) d = number_fault_of (codes "on") 0 1 d

abbrev pub bus_fault : ℕ → Data → Option LineFault
bus_fault nodes d = bus_fault_by nodes (bus_op d) d

-- what is wrong with the members of a line of an operation: all that can be, except with the frames of a round
unfoldable pub members_fault_by : ℕ → BusOp → Data → Option LineFault
members_fault_by nodes op.Round d = shape_check (is_round d)
members_fault_by nodes named d = bus_fault_by nodes (Some named) d

-- what a line of each operation says
unfoldable pub BusSaysBy : Option BusOp → Data → BusLine → Type 0
BusSaysBy None d line = ⊥
BusSaysBy (Some op.Load) d line = line ≡ Load
BusSaysBy (Some op.Round) d line = (round : RoundLine) × (line ≡ Round round) × SaysRound d round
BusSaysBy (Some op.Status) d line = line ≡ Controller Status
BusSaysBy (Some op.Control) d line = line ≡ control_of d
BusSaysBy (Some op.Interrupt) d line = line ≡ Interrupt
BusSaysBy (Some op.Flags) d line = line ≡ Flags (flag_of_line d)
BusSaysBy (Some op.Counters) d line = line ≡ Controller (Counters (number_in (codes "node") d))
BusSaysBy (Some op.Init) d line = line ≡ Controller Init
BusSaysBy (Some op.Recessive) d line = line ≡ Controller (Recessive (number_in (codes "groups") d))
BusSaysBy (Some op.LoopBack) d line = line ≡ Controller (LoopBack (number_in (codes "on") d == 1))

-- the line says what the value says
abbrev pub BusSays : Data → BusLine → Type 0
BusSays d line = BusSaysBy (bus_op d) d line
