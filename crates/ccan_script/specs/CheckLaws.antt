-- Laws of where faults are found. Source: this project's own.
use Rattle.std.specs.Prelude.{◌≡◌, ◌≢◌, Bool, not, List, Some, is_some}
use Rattle.serde_json.specs.Data.{Data, Members}
use Rattle.ccan_script.specs.declared.bus_op.BusOp.{BusOp}
use Rattle.ccan_script.specs.declared.bus_op.BusOp.TheVariants.{Round}
use Rattle.ccan_script.specs.declared.host_op.HostOp.{HostOp}
use Rattle.ccan_script.specs.declared.line_context.LineContext.{LineContext}
use Rattle.ccan_script.specs.declared.member.Member.{Member}
use Rattle.ccan_script.specs.BusLine.{bus_fault}
use Rattle.ccan_script.specs.BusOp.{bus_op}
use Rattle.ccan_script.specs.FrameLine.{is_frame, is_in_range, words_of}
use Rattle.ccan_script.specs.HostLine.{host_fault}
use Rattle.ccan_script.specs.HostOp.{host_op}
use Rattle.ccan_script.specs.LineFault.{shape_check, shape_then_range}
use Rattle.ccan_script.specs.Member.{bus_row, frame_numbers, frame_row, host_row}
use Rattle.ccan_script.specs.RegisterSet.{settings}
use Rattle.ccan_script.specs.Round.{is_round}
use Rattle.ccan_script.specs.FirstFault.{part_found, registers_found}

-- something is found in a line's members, by its row
abbrev pub is_found : LineContext → List Member → List Member → Data → Bool
is_found context row numbers d = is_some (part_found context row numbers d)

-- a fault is found in the members of a line or a frame exactly when its reader refuses them
pub record FindsWhatIsRefused : Type 0 where
  -- of a host's line
  pub host : (context : LineContext) (op : HostOp) (d : Data) → host_op d ≡ Some op
      → is_found context (host_row op) (host_row op) d ≡ is_some (host_fault context.profile d)
  -- of a line of the bus, where the frames of a round come behind its members
  pub bus : (context : LineContext) (op : BusOp) (d : Data) → bus_op d ≡ Some op → op ≢ Round
      → is_found context (bus_row op) (bus_row op) d ≡ is_some (bus_fault context.nodes d)
  pub round : (context : LineContext) (d : Data) → bus_op d ≡ Some Round
      → is_found context (bus_row Round) (bus_row Round) d ≡ is_some (shape_check (is_round d))
  -- of a frame, where the length of its data comes behind its members
  pub frame : (context : LineContext) (d : Data)
      → is_found context frame_row frame_numbers d
      ≡ is_some (shape_then_range (is_frame d) (is_in_range context.nodes (words_of d)))
  -- and of registers one at fault is found exactly when they are not registers with texts of four digits
  pub registers : (set : Members) → is_some (registers_found set) ≡ not (is_some (settings set))
