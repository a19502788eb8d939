use Rattle.std.proofs.Common.{◌≡◌, ◌+◌, ◌++◌, length}
use Rattle.ccan_script.specs.PrintedLine.{hex}
use Rattle.ccan_script.proofs.printed_line.push_hex.Given as goal

-- the digits from the place on have been written
abbrev pub invariant-loop-place : goal.invariant-loop-place
invariant-loop-place l = record {
  room : length l.line.bytes + l.place ≡ length l.initial.line.bytes + l.digits;
  text : l.line.bytes ++ hex l.place l.value ≡ l.initial.line.bytes ++ hex l.digits l.value;
}
