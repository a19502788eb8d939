-- The nominal bit time, of the Bit Timing register and the BRP Extension register. Source: C_CAN User's Manual 1.2, sections "Bit
-- Timing Register", "BRP Extension Register" and "Bit Timing": a bit is the synchronization segment of one time quantum, TSeg1 + 1
-- quanta, and TSeg2 + 1 quanta. The sample point is between the last two. A time quantum has BRPE and BRP, as one number with
-- BRPE above, plus 1 periods of CAN_CLK.
use Rattle.std.specs.Prelude.{ℕ, ◌+◌, ◌*◌}
use Rattle.ccan_object.specs.Bits.{part}
use Rattle.ccan_confine.specs.BitTiming.{Timing}

-- the prescaler: BRPE at bits 0 to 3 of its register, above BRP at bits 0 to 5
abbrev pub prescaler : Timing → ℕ
prescaler t = 64 * part t.extension 0 4 + part t.register 0 6

-- a time quantum, in clock periods
abbrev pub time_quantum : Timing → ℕ
time_quantum t = prescaler t + 1

-- the synchronization segment and TSeg1, in quanta
abbrev pub quanta_before_sample : Timing → ℕ
quanta_before_sample t = 1 + (part t.register 8 4 + 1)

-- TSeg2, in quanta
abbrev pub quanta_after_sample : Timing → ℕ
quanta_after_sample t = part t.register 12 3 + 1

abbrev pub quanta_in_bit : Timing → ℕ
quanta_in_bit t = quanta_before_sample t + quanta_after_sample t

-- the nominal bit time, in clock periods
abbrev pub bit_time : Timing → ℕ
bit_time t = quanta_in_bit t * time_quantum t

-- the sample point, in clock periods from the start of the bit
abbrev pub sample_point : Timing → ℕ
sample_point t = quanta_before_sample t * time_quantum t

-- the synchronization jump width, in clock periods: SJW at bits 6 and 7, plus 1 quanta
abbrev pub jump_width : Timing → ℕ
jump_width t = (part t.register 6 2 + 1) * time_quantum t
