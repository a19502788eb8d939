-- The parts of a command, by their masks and by their places.
use Rattle.std.proofs.Common.{ℕ, ◌≡◌, ◌==◌, ◌*◌, ◌^◌, ◌<◌, ap, ◌∙◌, arith, zero, suc}
use Rattle.std.specs.Int.{bit_at}
use Rattle.std.specs.Int.RustNames.{bit_and}
use Rattle.std.proofs.lemmas.Nat.Bits.{and_pow, bit_at-lt}
use Rattle.ccan_object.specs.Bits.{bit}

-- a bit times a power is that power exactly where the bit is 1
scaled : (b n : ℕ) → b < 2 → 0 < n → (b * n == n) ≡ (b == 1)
scaled zero n low some = grind arith
scaled (suc zero) n low some = grind arith
scaled (suc (suc b)) n low some = absurd (omega arith)

module _ (c k : ℕ) where
  by_place : 0 < 2 ^ k → (bit_and c (2 ^ k) == 2 ^ k) ≡ bit c k
  by_place some = ap (λ n. n == 2 ^ k) (and_pow c k) ∙ scaled (bit_at c k) (2 ^ k) (bit_at-lt c k) some

pub part_7 : (c : ℕ) → (bit_and c 128 == 128) ≡ bit c 7
part_7 c = by_place c 7 (omega arith)

pub part_6 : (c : ℕ) → (bit_and c 64 == 64) ≡ bit c 6
part_6 c = by_place c 6 (omega arith)

pub part_5 : (c : ℕ) → (bit_and c 32 == 32) ≡ bit c 5
part_5 c = by_place c 5 (omega arith)

pub part_4 : (c : ℕ) → (bit_and c 16 == 16) ≡ bit c 4
part_4 c = by_place c 4 (omega arith)

pub part_3 : (c : ℕ) → (bit_and c 8 == 8) ≡ bit c 3
part_3 c = by_place c 3 (omega arith)

pub part_2 : (c : ℕ) → (bit_and c 4 == 4) ≡ bit c 2
part_2 c = by_place c 2 (omega arith)

pub part_1 : (c : ℕ) → (bit_and c 2 == 2) ≡ bit c 1
part_1 c = by_place c 1 (omega arith)

pub part_0 : (c : ℕ) → (bit_and c 1 == 1) ≡ bit c 0
part_0 c = by_place c 0 (omega arith)

pub ruleset parts = (part_7, part_6, part_5, part_4, part_3, part_2, part_1, part_0)
