use Rattle.std.proofs.Common.{◌≡◌, ◌++◌, string_bytes}
use Rattle.ccan_explain.specs.FrameText.{capital_hex}
use Rattle.ccan_explain.proofs.digits.push_hex.Given as goal

-- the digits from the place on have been written
abbrev pub invariant-loop-place : goal.invariant-loop-place
invariant-loop-place l =
    string_bytes l.text ++ capital_hex l.place l.value ≡ string_bytes l.initial.text ++ capital_hex l.digits l.value
