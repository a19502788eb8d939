-- The places of the parts of a flag.
use Rattle.std.proofs.Common.{◌≡◌, ◌≤◌, arith}
use Rattle.ccan_chip.specs.declared.flag_part.FlagPart.{FlagPart}
use Rattle.ccan_chip.specs.FlagPart.{index_of}

pub index-within : (part : FlagPart) → index_of part ≤ 3
index-within part = grind arith

pub index-apart : (a b : FlagPart) → index_of a ≡ index_of b → a ≡ b
index-apart a b e = grind arith
