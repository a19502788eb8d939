use Rattle.std.proofs.Common.{◌≡◌, ◌<◌, ℕ, All, None, length, map, option_map, take}
use Rattle.serde_json.specs.View.{view}
use Rattle.ccan_script.specs.Lines.{AreLines}
use Rattle.ccan_script.specs.ListPlace.{line, list_fault}
use Rattle.ccan_script.proofs.list_reader.lines_of.Given as goal

-- the lines so far have no fault, and have been read
abbrev pub invariant-loop-index : goal.invariant-loop-index
invariant-loop-index g l = record {
  passed : (j : ℕ) → j < l.index
      → list_fault l.list l.most (g.L.ScriptLine.fault l.context) (option_map (λ v. view v.now) l.fn.member) (line j) ≡ None;
  read : AreLines g.L.ScriptLine.says (map view (take l.index l.value-items)) l.lines.items;
  fits : All (g.L.ScriptLine.fits l.context) l.lines.items;
  many : length l.lines.items ≡ l.index;
}
