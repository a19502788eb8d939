-- Where in a line of a script a fault is, and how that is written. Source: this project's own; paths are written as jq
-- writes them, without their first dot.
use Rattle.std.specs.Prelude.{ℕ, ◌++◌, List, Option, Some, None, codes, decimal}
use Rattle.ccan_script.specs.MemberName.{name_text}
use Rattle.ccan_script.specs.RegisterSet.{register_name}
use Rattle.ccan_script.specs.declared.check.line_path.LinePath.{LinePath}
use Rattle.ccan_script.specs.declared.check.line_path.Part.{Part}
use Rattle.ccan_script.specs.declared.check.line_path.Part.TheVariants.{Whole, Member, Register}

-- below, what is meant has this path
module _ (path : List ℕ) where
  -- itself, a member of it, or a register of its `set`
  abbrev pub part_text : Part → List ℕ
  part_text Whole = path
  part_text (Member m) = path ++ (codes "." ++ name_text m)
  part_text (Register register) = path ++ (codes ".set." ++ register_name register)

  -- itself, or a frame of its `send`, by its index
  abbrev pub frame_text : Option ℕ → List ℕ
  frame_text None = path
  frame_text (Some index) = path ++ (codes ".send[" ++ (decimal index ++ codes "]"))

-- a place in the line that has this path
abbrev pub path_text : List ℕ → LinePath → List ℕ
path_text line place = part_text (frame_text line place.frame) place.part
