use Rattle.std.proofs.Common.{◌≡◌, map, string_bytes, take}
use Rattle.ccan_lab.specs.Sorted.{texts_of}
use Rattle.ccan_lab.proofs.rows.texts.Given as goal

-- those of the lines so far
abbrev pub invariant-loop-line : goal.invariant-loop-line
invariant-loop-line l = texts_of l.all.items ≡ map string_bytes (take l.line-index l.lines)
