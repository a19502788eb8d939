use Rattle.std.proofs.Common.{◌≡◌, ◌++◌, take}
use Rattle.std.specs.List.{flat_map}
use Rattle.ccan_page.specs.Json.{string_glyph}
use Rattle.ccan_page.proofs.bytes.Bytes.push_glyphs.Given as goal

-- the bytes so far
abbrev pub invariant-loop-byte : goal.invariant-loop-byte
invariant-loop-byte l = l.self ≡ l.initial.self ++ flat_map string_glyph (take l.byte-index l.bytes)
