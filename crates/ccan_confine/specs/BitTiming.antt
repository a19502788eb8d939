-- The Bit Timing register, BRP at bits 0 to 5, SJW at 6 and 7, TSeg1 at 8 to 11 and TSeg2 at 12 to 14, and the BRP Extension
-- register, BRPE at bits 0 to 3: C_CAN User's Manual 1.2, sections of these names. Their other bits are reserved and 0. The
-- value after a reset: the same, "Hardware Reset Description" and the table of the registers.
use Rattle.std.specs.Prelude.{ℕ, ◌%◌, ◌^◌}

-- bit 15 of the Bit Timing register is reserved
abbrev pub register_bits : ℕ
register_bits = 15

-- the BRP Extension register has only these bits
abbrev pub extension_bits : ℕ
extension_bits = 4

pub record Timing : Type 0 where
  pub register : ℕ
  pub extension : ℕ

-- a word without its reserved bits
abbrev pub register_in : ℕ → ℕ
register_in word = word % 2 ^ register_bits

abbrev pub extension_in : ℕ → ℕ
extension_in word = word % 2 ^ extension_bits

-- the two words that are written
abbrev pub timing_of : ℕ → ℕ → Timing
timing_of register extension = record { register = register_in register; extension = extension_in extension }

abbrev pub no_timing : Timing
no_timing = record { register = 0; extension = 0 }

-- a hardware reset leaves 0x2301: TSeg2 2, TSeg1 3, SJW 0 and BRP 1
abbrev pub reset_timing : Timing
reset_timing = record { register = 0x2301; extension = 0 }
