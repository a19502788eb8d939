-- What an `IndexHasher` computes. Source: this project's own.
use Rattle.std.specs.Prelude.{ℕ, ◌*◌, ◌/◌, ◌-◌, ◌^◌, List, [], ◌∷◌, fold, length, nat_eq, slice_index, bit_and, bit_xor, if◌then◌else◌}
use Rattle.std.specs.Int.{w64, from_le_bytes}
use Rattle.ccan_language.specs.declared.hashing.IndexHasher.{IndexHasher}

unfoldable pub start : IndexHasher
start = record { state = 0x243f_6a88_85a3_08d3 }

-- both halves of the 128 bits of the product, joined by xor
unfoldable pub folded_product : ℕ → ℕ → ℕ
folded_product one other = bit_xor (bit_and (one * other) (2 ^ 64 - 1)) (one * other / 2 ^ 64)

-- the state after one more word
abbrev pub mixed : ℕ → ℕ → ℕ
mixed state word = folded_product (bit_xor state word) 0x9e37_79b9_7f4a_7c15

-- the first eight bytes, the lowest first
unfoldable pub word_of : List ℕ → ℕ
word_of bytes =
    from_le_bytes w64 (slice_index bytes 0 ∷ slice_index bytes 1 ∷ slice_index bytes 2 ∷ slice_index bytes 3
    ∷ slice_index bytes 4 ∷ slice_index bytes 5 ∷ slice_index bytes 6 ∷ slice_index bytes 7 ∷ [])

-- the state after the bytes: a word is mixed in at once, and other bytes one by one
unfoldable pub written : IndexHasher → List ℕ → IndexHasher
written hasher bytes = record {
  state = if nat_eq (length bytes) 8 then mixed hasher.state (word_of bytes) else fold mixed hasher.state bytes;
}
