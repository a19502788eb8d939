use Rattle.std.proofs.Common.{◌≡◌, ◌++◌, drop}
use Rattle.ccan_page.specs.Data.{later_lines}
use Rattle.ccan_page.proofs.data.push_later_lines.Given as goal

-- the lines so far, and those to come
abbrev pub invariant-loop-line : goal.invariant-loop-line
invariant-loop-line l =
    l.data ++ later_lines (drop l.line-index l.lines) ≡ l.initial.data ++ later_lines l.lines
