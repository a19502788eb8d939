use Rattle.std.proofs.Common.{◌≡◌, ◌+◌, ◌*◌, ◌++◌, length, take}
use Rattle.ccan_script.specs.PrintedLine.{hex_bytes}
use Rattle.ccan_script.proofs.printed_line.push_bytes.Given as goal

abbrev pub invariant-loop-byte : goal.invariant-loop-byte
invariant-loop-byte l = record {
  len : length l.line.bytes ≡ length l.initial.line.bytes + 2 * l.byte-index;
  text : l.line.bytes ≡ l.initial.line.bytes ++ hex_bytes (take l.byte-index l.bytes);
}
