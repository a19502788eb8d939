use Rattle.std.proofs.Common.{◌≡◌, map, string_bytes, take}
use Rattle.ccan_lab.specs.Rows.{told_frame}
use Rattle.ccan_lab.proofs.line_signs.told_frames.Given as goal

-- the frames of the ends so far
abbrev pub invariant-loop-end : goal.invariant-loop-end
invariant-loop-end l =
    map string_bytes l.frames.items ≡ map told_frame (take l.end-index l.words.numbers.answers.keys)
