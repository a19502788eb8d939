-- Flags and bits.
use Rattle.std.proofs.Common.{ℕ, ◌≡◌, ◌≤◌, ◌<◌, ◌==◌, Bool, true, false, zero, suc, refl, arith}
use Rattle.std.specs.Int.{bit_at}
use Rattle.std.proofs.lemmas.Nat.Bits.{bit_at-lt}
use Rattle.ccan_confine.specs.Bits.{bit, flag}

-- a flag is at most 1
pub flag-le : (on : Bool) → flag on ≤ 1
flag-le true = omega arith
flag-le false = omega arith

is_one : (b : ℕ) → b < 2 → flag (b == 1) ≡ b
is_one zero low = refl
is_one (suc zero) low = refl
is_one (suc (suc b)) low = absurd (omega arith)

-- a bit read as a flag is the bit
pub flag-bit : (n place : ℕ) → flag (bit n place) ≡ bit_at n place
flag-bit n place = is_one (bit_at n place) (bit_at-lt n place)

is_on : (on : Bool) (b : ℕ) → b ≡ flag on → (b == 1) ≡ on
is_on true zero h = cc
is_on true (suc zero) h = refl
is_on true (suc (suc b)) h = absurd (omega arith)
is_on false zero h = refl
is_on false (suc b) h = absurd (omega arith)

-- where the bit of a flag stands, the flag is read
pub bit-flag : (n place : ℕ) (on : Bool) → bit_at n place ≡ flag on → bit n place ≡ on
bit-flag n place on h = is_on on (bit_at n place) h
