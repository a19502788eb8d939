use Rattle.std.proofs.Common.{◌≡◌, ◌++◌, codes, take, string_bytes}
use Rattle.std.specs.List.{flat_map}
use Rattle.ccan_explain.specs.FrameText.{capital_hex}
use Rattle.ccan_explain.proofs.record_words.push_spaced.Given as goal

-- the bytes so far
abbrev pub invariant-loop-byte : goal.invariant-loop-byte
invariant-loop-byte l =
    string_bytes l.text ≡ string_bytes l.initial.text
    ++ flat_map (λ byte. codes " " ++ capital_hex 2 byte) (take l.byte-index l.bytes)
