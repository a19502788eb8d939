-- Bit stuffing. Source: CAN Specification 2.0, part B, "Coding": whenever a transmitter detects five consecutive bits of
-- identical value in the stream to be transmitted, it inserts a complementary bit. A stuff bit counts in the run after it.
use Rattle.std.specs.Prelude.{ℕ, ◌+◌, ◌==◌, Bool, true, false, not, List, [], ◌∷◌, if◌then◌else◌}

-- this many bits of identical value in a row have a stuff bit after them
abbrev pub most_identical : ℕ
most_identical = 5

-- one more bit comes after a run of bits of this value: how long the run that it ends is
abbrev pub run_with : Bool → ℕ → Bool → ℕ
run_with true run true = run + 1
run_with true run false = 1
run_with false run true = 1
run_with false run false = run + 1

-- the stream on the bus, of these bits to be transmitted, after a run of bits of this value
unfoldable pub stuffed_behind : Bool → ℕ → List Bool → List Bool
stuffed_behind value run [] = []
stuffed_behind value run (b ∷ bits) =
    if run_with value run b == most_identical
    then b ∷ not b ∷ stuffed_behind (not b) 1 bits
    else (b ∷ stuffed_behind b (run_with value run b) bits)

-- the stream on the bus, with no bit before it
unfoldable pub stuffed : List Bool → List Bool
stuffed bits = stuffed_behind true 0 bits
