use Rattle.std.proofs.Common.{◌≡◌, ◌++◌, take, string_bytes}
use Rattle.std.specs.List.{flat_map}
use Rattle.ccan_explain.specs.Escape.{escaped_glyph}
use Rattle.ccan_explain.proofs.draw.escape.push_glyphs.Given as goal

-- the bytes so far
abbrev pub invariant-loop-byte : goal.invariant-loop-byte
invariant-loop-byte l =
    string_bytes l.text ≡ string_bytes l.initial.text ++ flat_map escaped_glyph (take l.byte-index l.bytes)
