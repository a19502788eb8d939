use Rattle.std.proofs.Common.{◌≡◌}
use Rattle.ccan_script.proofs.DataBytes.{so_far}
use Rattle.ccan_script.proofs.frame_data.eight_bytes.Given as goal

-- the bytes so far have been read
abbrev pub invariant-loop-place : goal.invariant-loop-place
invariant-loop-place l = l.bytes ≡ so_far l.place l.text
