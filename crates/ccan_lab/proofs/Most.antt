-- A number as it is given.
use Rattle.std.proofs.Common.{ℕ, ◌≡◌, ◌<◌, ◌^◌, List, Option, Some, None, Result, Ok, Err, decimal, unwrap_or, refl}
use Rattle.std.specs.declared.num.ParseIntError.{ParseIntError}
use Rattle.std.specs.Str.Parse.{ExplainsUnsignedError, HasUnsignedDigitsIfOk, ParsesUnsigned}
use Rattle.std.proofs.lemmas.Fmt.{parse-decimal}
use Rattle.clap.specs.Words.{ReadsOne}

-- what is read of a word as a number
abbrev pub Reads : List ℕ → Result ℕ ParseIntError → Type 0
Reads word read = ParsesUnsigned 64 10 word read × ExplainsUnsignedError 10 word read × HasUnsignedDigitsIfOk word read

-- a number that is written in decimal digits is read as it is
pub read_as_given : (n : ℕ) → n < 2 ^ 64 → (found : Option ℕ) → ReadsOne Reads (decimal n) found → (otherwise : ℕ)
    → unwrap_or found otherwise ≡ n
read_as_given n small (Some value) read otherwise = by (Ok value) refl read.0
  where
    by : (is : Result ℕ ParseIntError) → is ≡ Ok value → ParsesUnsigned 64 10 (decimal n) is → value ≡ n
    by is value_is parses =
        let same : is ≡ Ok n = parse-decimal 64 n (decimal n) is small small refl parses in cc
read_as_given n small None read otherwise = by (Err read.0) refl read.1.0
  where
    by : (is : Result ℕ ParseIntError) → is ≡ Err read.0 → ParsesUnsigned 64 10 (decimal n) is → otherwise ≡ n
    by is error_is parses =
        let same : is ≡ Ok n = parse-decimal 64 n (decimal n) is small small refl parses in cc

-- and there is one if it is given
pub read_if_given : (n : ℕ) → n < 2 ^ 64 → (found : Option ℕ) → ReadsOne Reads (decimal n) found → found ≡ Some n
read_if_given n small (Some value) read = by (Ok value) refl read.0
  where
    by : (is : Result ℕ ParseIntError) → is ≡ Ok value → ParsesUnsigned 64 10 (decimal n) is → Some value ≡ Some n
    by is value_is parses =
        let same : is ≡ Ok n = parse-decimal 64 n (decimal n) is small small refl parses in cc
read_if_given n small None read = by (Err read.0) refl read.1.0
  where
    by : (is : Result ℕ ParseIntError) → is ≡ Err read.0 → ParsesUnsigned 64 10 (decimal n) is → None ≡ Some n
    by is error_is parses =
        let same : is ≡ Ok n = parse-decimal 64 n (decimal n) is small small refl parses in cc
