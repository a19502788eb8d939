use Rattle.std.proofs.Common.{◌≡◌, ◌++◌, take}
use Rattle.std.specs.List.{flat_map}
use Rattle.ccan_page.specs.PageText.{shielded_byte}
use Rattle.ccan_page.proofs.bytes.Bytes.push_shielded.Given as goal

-- the bytes so far
abbrev pub invariant-loop-byte : goal.invariant-loop-byte
invariant-loop-byte l = l.self ≡ l.initial.self ++ flat_map shielded_byte (take l.byte-index l.json)
