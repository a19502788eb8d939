-- A transmitter that has sent some bits: the register that is left of the CRC, and the run that is left of the stuffing. Source:
-- CAN Specification 2.0, part B, "Data Frame" (the shift register CRC_RG) and "Coding".
use Rattle.std.specs.Prelude.{ℕ, ◌+◌, ◌*◌, ◌%◌, ◌^◌, ◌==◌, ◌<◌, Bool, true, not, List, [], ◌∷◌, bit_xor, if◌then◌else◌}
use Rattle.std.specs.Bool.{xor}
use Rattle.ccan_object.specs.Bits.{bit}
use Rattle.ccan_time.specs.declared.stuffing.Stuffing.{Stuffing}
use Rattle.ccan_time.specs.declared.transmitter.Transmitter.{Transmitter}
use Rattle.ccan_time.specs.Stuffing.{most_identical, run_with}

-- the register is shifted left by one place, and changed if the bit that comes differs from the one that leaves
unfoldable pub register_with : ℕ → Bool → ℕ
register_with register b =
    if xor b (bit register 14) then bit_xor (register * 2 % 2 ^ 15) 0x4599 else register * 2 % 2 ^ 15

-- with this run at its end, and this many bits
abbrev pub stuffing_at : Bool → ℕ → ℕ → Stuffing
stuffing_at value run bits = record { value = value; run = run; bits = bits }

-- one more bit is sent, with a stuff bit after it if it is the fifth of a run
unfoldable pub stuffing_with : Stuffing → Bool → Stuffing
stuffing_with s b =
    if run_with s.value s.run b == most_identical
    then stuffing_at (not b) 1 (s.bits + 2)
    else (stuffing_at b (run_with s.value s.run b) (s.bits + 1))

unfoldable pub transmitter_with : Transmitter → Bool → Transmitter
transmitter_with t b = record { register = register_with t.register b; stuffing = stuffing_with t.stuffing b }

-- all of these bits are sent, in their order
unfoldable pub transmitter_after : Transmitter → List Bool → Transmitter
transmitter_after t [] = t
transmitter_after t (b ∷ bits) = transmitter_after (transmitter_with t b) bits

-- the register has 15 bits, and the run is not yet one that a stuff bit ends
pub record IsReady (t : Transmitter) : Type 0 where
  pub register : t.register < 2 ^ 15
  pub run : t.stuffing.run < most_identical

-- nothing was sent
abbrev pub silent_transmitter : Transmitter
silent_transmitter = record { register = 0; stuffing = stuffing_at true 0 0 }
