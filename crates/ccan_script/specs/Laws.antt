-- Laws of what scripts mean. Source: this project's own.
use Rattle.std.specs.Prelude.{◌≡◌, ◌≢◌, ℕ, List, [], Some, None, Result, Ok, Err, codes}
use Rattle.serde_json.specs.Data.{Data}
use Rattle.serde_json.specs.Find.{get}
use Rattle.ccan_line.specs.declared.script.Script.{Script}
use Rattle.ccan_script.specs.declared.bus_op.BusOp.{BusOp}
use Rattle.ccan_script.specs.declared.bus_op.BusOp.TheVariants.{Round}
use Rattle.ccan_script.specs.declared.host_op.HostOp.{HostOp}
use Rattle.ccan_script.specs.declared.line_context.LineContext.{LineContext}
use Rattle.ccan_script.specs.declared.script_error.ScriptError.{ScriptError}
use Rattle.ccan_script.specs.declared.script_error.ScriptError.TheVariants.{NotJson, Memory}
use Rattle.ccan_script.specs.Reader.{Shows, ReadsScript}
use Rattle.ccan_line.specs.Script.{ScriptFields}
use Rattle.ccan_script.specs.BusLine.{bus_fault}
use Rattle.ccan_script.specs.BusOp.{bus_op}
use Rattle.ccan_script.specs.FrameLine.{is_frame, is_in_range, words_of}
use Rattle.ccan_script.specs.HostLine.{host_fault}
use Rattle.ccan_script.specs.HostOp.{host_op}
use Rattle.ccan_script.specs.LineFault.{shape_check, shape_then_range}
use Rattle.ccan_script.specs.Member.{bus_row, frame_numbers, frame_row, host_row}
use Rattle.ccan_script.specs.Members.{members_fault}
use Rattle.ccan_script.specs.Round.{is_round}
use Rattle.ccan_script.specs.Script.{Means}
use Rattle.ccan_script.specs.Race.{MeansRace, RaceFields}

-- a value means at most one thing: no value has two first faults, and none with a fault is a script
abbrev pub HasOneMeaning : Type 0
HasOneMeaning = (d : Data) (r s : Result ScriptFields ScriptError) → Means d r → Means d s → r ≡ s

-- and bytes that were read do mean one: if reading answers a script, or a fault that is neither lack of memory nor that
-- the bytes are not JSON, their value has a meaning, and no other
abbrev pub WhatWasReadHasAMeaning : Type 0
WhatWasReadHasAMeaning =
    (bytes : List ℕ) (r : Result Script ScriptError) → ReadsScript bytes r → r ≢ Err Memory → r ≢ Err NotJson
    → (meaning : Result ScriptFields ScriptError) × Shows bytes meaning
    × ((other : Result ScriptFields ScriptError) → Shows bytes other → other ≡ meaning)

-- a value means at most one thing as a script for a race, too
abbrev pub HasOneRace : Type 0
HasOneRace = (d : Data) (r s : Result RaceFields ScriptError) → MeansRace d r → MeansRace d s → r ≡ s

-- what a script is as one for a race: no line runs before
abbrev pub none_before : Result ScriptFields ScriptError → Result RaceFields ScriptError
none_before (Ok script) = Ok record { script = script; before = [] }
none_before (Err e) = Err e

-- a value without the member `before` means the same as a script and as a script for a race
abbrev pub ScriptIsARace : Type 0
ScriptIsARace =
    (d : Data) → get (codes "before") d ≡ None → (r : Result ScriptFields ScriptError)
    → (Means d r → MeansRace d (none_before r)) × (MeansRace d (none_before r) → Means d r)

-- ---- the table of members

-- what the table of members says of a value is what the definitions of lines and frames say of it
pub record GoByTable : Type 0 where
  -- a line of a host
  pub host : (context : LineContext) (op : HostOp) (d : Data) → host_op d ≡ Some op
      → host_fault context.profile d ≡ members_fault context (host_row op) (host_row op) d
  -- a line of the bus, where the frames of a round come behind its members
  pub bus : (context : LineContext) (op : BusOp) (d : Data) → bus_op d ≡ Some op → op ≢ Round
      → bus_fault context.nodes d ≡ members_fault context (bus_row op) (bus_row op) d
  pub round : (context : LineContext) (d : Data) → bus_op d ≡ Some Round
      → shape_check (is_round d) ≡ members_fault context (bus_row Round) (bus_row Round) d
  -- a frame, where the length of its data comes behind its members
  pub frame : (context : LineContext) (d : Data)
      → shape_then_range (is_frame d) (is_in_range context.nodes (words_of d))
      ≡ members_fault context frame_row frame_numbers d
