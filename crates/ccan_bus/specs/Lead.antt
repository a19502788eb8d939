-- The bits of arbitration as one number, as the code compares them. Source: this project's own.
use Rattle.std.specs.Prelude.{ℕ, zero, suc, ◌+◌, ◌^◌, ◌==◌, nat_lt, Bool, true, false, ◌||◌, List, [], ◌∷◌, if◌then◌else◌}
use Rattle.ccan_accept.specs.declared.frame.Frame.{Frame}
use Rattle.ccan_bus.specs.declared.lead.Lead.{Lead}
use Rattle.ccan_bus.specs.Arbitration.{arbitration_bits}

-- a list of bits as a number of this many bits, the first the highest
unfoldable pub value_of : ℕ → List Bool → ℕ
value_of zero bits = 0
value_of (suc n) [] = 0
value_of (suc n) (true ∷ bits) = 2 ^ n + value_of n bits
value_of (suc n) (false ∷ bits) = value_of n bits

unfoldable pub packed : Frame → ℕ
packed f = value_of 32 (arbitration_bits f)

-- one more frame
abbrev pub next_lead : Lead → ℕ → ℕ → Lead
next_lead lead place number =
    if nat_lt number lead.number then record { place = place; number = number; tied = false }
    else record lead { tied = lead.tied || number == lead.number }
