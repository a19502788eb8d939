-- Words and their bytes.
use Rattle.std.proofs.Common.{ℕ, ◌≡◌, ◌*◌, ◌<◌, ◌^◌, List, [], ◌∷◌, length, take, drop, refl, sym, ap, ◌∙◌, arith}
use Rattle.std.specs.Int.{from_le_bytes, to_le_bytes, w64}
use Rattle.std.specs.List.{flat_map}
use Rattle.std.proofs.lemmas.List.Elements.{All-head, All-tail}
use Rattle.std.proofs.lemmas.Nat.{from_le_bytes-to_le_bytes_8}
use Rattle.ccan_object.specs.declared.record.Record.{Record}
use Rattle.ccan_object.specs.Packing.{packed}
use Rattle.ccan_registers.specs.declared.saved.chip.Saved.{Saved}
use Rattle.ccan_registers.specs.Format.{AreWords, IsSaved, bytes_in, format_length, format_version, text_of, words_of}
use Rattle.ccan_registers.specs.FormatError.{HasHead}

-- words with the same bytes are the same
pub same_words : (ws vs : List ℕ) → AreWords ws → AreWords vs → bytes_in ws ≡ bytes_in vs → ws ≡ vs
same_words [] [] x y e = refl
same_words [] (v ∷ vs) x y e = absurd (let n = ap length e in omega arith)
same_words (w ∷ ws) [] x y e = absurd (let n = ap length e in omega arith)
same_words (w ∷ ws) (v ∷ vs) x y e =
    let first : to_le_bytes w64 w ≡ to_le_bytes w64 v = ap (λ (l : List ℕ). take 8 l) e in
    let same : w ≡ v =
    sym (from_le_bytes-to_le_bytes_8 w (All-head (λ n. n < 2 ^ 64) w ws x))
    ∙ (ap (λ (l : List ℕ). from_le_bytes w64 l) first
    ∙ from_le_bytes-to_le_bytes_8 v (All-head (λ n. n < 2 ^ 64) v vs y)) in
    let rest : ws ≡ vs =
    same_words ws vs (All-tail (λ n. n < 2 ^ 64) w ws x) (All-tail (λ n. n < 2 ^ 64) v vs y)
    (ap (λ (l : List ℕ). drop 8 l) e) in
    cc

length_bytes : (ws : List ℕ) → length (bytes_in ws) ≡ 8 * length ws
length_bytes [] = refl
length_bytes (w ∷ ws) = let h = length_bytes ws in omega arith

pub length_packed : (rs : List Record) → length (flat_map packed rs) ≡ 3 * length rs
length_packed [] = refl
length_packed (r ∷ rs) = let h = length_packed rs in omega arith

-- the text of a saved chip has its length, and begins as it should
pub length_text : (saved : Saved) → IsSaved saved → length (text_of saved) ≡ format_length
length_text saved is =
    let a = length_bytes (words_of saved) in
    let b = length_packed saved.records in
    let count = is.records.count in
    omega arith

pub head_of : (saved : Saved) → IsSaved saved → HasHead (text_of saved) format_version
head_of saved is = record { long = (let n = length_text saved is in omega arith); name = refl; version_is = refl }
