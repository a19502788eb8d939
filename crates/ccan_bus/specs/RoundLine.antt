-- The line of a round. Source: the codes are those of the C_CAN User's Manual 1.2, "Status Register" (LEC); who may send is
-- this project's own.
use Rattle.std.specs.Prelude.{ℕ, ◌≤◌, ◌==◌, Option, Some, None, List, All, length}
use Rattle.std.specs.List.{filter}
use Rattle.ccan_accept.specs.declared.frame.Frame.{Frame}
use Rattle.ccan_bus.specs.declared.round_line.Fault.{Fault}
use Rattle.ccan_bus.specs.declared.round_line.Fault.TheVariants as fault

-- the code that a fault leaves
abbrev pub code_of : Fault → Option ℕ
code_of fault.Quiet = None
code_of fault.Stuff = Some 1
code_of fault.Form = Some 2
code_of fault.Bit1 = Some 4
code_of fault.Bit0 = Some 5
code_of fault.Crc = Some 6

-- the frames of one node
abbrev pub sends_of : ℕ → List (ℕ × Frame) → List (ℕ × Frame)
sends_of node sends = filter (λ s. s.0 == node) sends

-- each sender is one of this many other nodes, and no node sends twice
pub record AreSenders (nodes : ℕ) (sends : List (ℕ × Frame)) : Type 0 where
  pub others : All (λ s. (1 ≤ s.0) × (s.0 ≤ nodes)) sends
  pub once : (node : ℕ) → length (sends_of node sends) ≤ 1
