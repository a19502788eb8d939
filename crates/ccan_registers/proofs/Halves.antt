-- The halves of a word.
use Rattle.std.proofs.Common.{◌≡◌, ℕ, ◌+◌, ◌*◌, ◌%◌, ◌^◌, true, false, Some, None, Ok, Err, refl, arith}
use Rattle.std.specs.Prelude.{Option, Result}
use Rattle.ccan_registers.specs.declared.access_error.AccessError.{AccessError}
use Rattle.ccan_registers.specs.Register.{is_refused, joined}

-- where the lower half was refused, so is the word
pub joined-refused : (low : Option (Result ℕ AccessError)) → is_refused low ≡ true → joined low None ≡ low
joined-refused None is = absurd (let wrong : false ≡ true = is in cc)
joined-refused (Some (Ok low)) is = absurd (let wrong : false ≡ true = is in cc)
joined-refused (Some (Err why)) is = refl

-- sixteen bits above sixteen
pub put_together : (h l n low : ℕ) → h ≡ n % 2 ^ 16 → l ≡ low → h * 65536 % 4294967296 + l ≡ n % 2 ^ 16 * 2 ^ 16 + low
put_together h l n low is_high is_low = grind arith
