-- Bits that are sent one after another.
use Rattle.std.proofs.Common.{◌≡◌, ◌+◌, ◌-◌, ◌*◌, ◌/◌, ◌^◌, ◌<◌, ◌≤◌, ℕ, zero, suc, Bool, true, false, cond, List, [], ◌∷◌, ◌++◌, length, take, get_or, refl, sym, ap, ◌∙◌, arith}
use Rattle.std.specs.List.{flat_map}
use Rattle.std.proofs.lemmas.List.{flat_map_more, take_more}
use Rattle.ccan_accept.specs.declared.frame.Frame.{Frame}
use Rattle.ccan_accept.specs.Frame.{data_count}
use Rattle.ccan_object.specs.Bits.{bit}
use Rattle.ccan_time.specs.declared.transmitter.Transmitter.{Transmitter}
use Rattle.ccan_time.specs.Bits.{lowest_bits}
use Rattle.ccan_time.specs.FrameBits.{extended_arbitration, standard_arbitration, arbitration_field, control_field, data_field, checked_bits}
use Rattle.ccan_time.specs.Transmitter.{IsReady, transmitter_after, transmitter_with}

pub after_append : (t : Transmitter) (xs ys : List Bool)
    → transmitter_after t (xs ++ ys) ≡ transmitter_after (transmitter_after t xs) ys
unfolding transmitter_after
after_append t [] ys = refl
after_append t (b ∷ xs) ys = after_append (transmitter_with t b) xs ys

pub after_none : (t : Transmitter) → transmitter_after t [] ≡ t
unfolding transmitter_after
after_none t = refl

pub after_more : (t : Transmitter) (b : Bool) (bits : List Bool)
    → transmitter_after t (b ∷ bits) ≡ transmitter_after (transmitter_with t b) bits
unfolding transmitter_after
after_more t b bits = refl

-- some of all bits are sent, and these are left, so many of so many
pub record IsSending (start now : Transmitter) (all left : List Bool) (total rest : ℕ) : Type 0 where
  pub ready : IsReady now
  pub value : transmitter_after now left ≡ transmitter_after start all
  pub grown : now.stuffing.bits + 2 * rest ≤ start.stuffing.bits + 2 * total

pub highest_first : (number k : ℕ) → 0 < k → lowest_bits k number ≡ bit number (k - 1) ∷ lowest_bits (k - 1) number
unfolding lowest_bits
highest_first number zero some = absurd (omega arith)
highest_first number (suc k) some =
    let e : k ≡ suc k - 1 = omega arith in
    ap (λ j. bit number j ∷ lowest_bits j number) e

pub none_left : (number k : ℕ) → k ≡ 0 → lowest_bits k number ≡ []
unfolding lowest_bits
none_left number k is = ap (λ n. lowest_bits n number) is

-- ---- bytes

-- these bits are sent, of so many bytes
pub record HasSent (start now : Transmitter) (bits : List Bool) (count : ℕ) : Type 0 where
  pub ready : IsReady now
  pub value : now ≡ transmitter_after start bits
  pub grown : now.stuffing.bits ≤ start.stuffing.bits + 16 * count

pub bytes_more : (t : Transmitter) (bytes : List ℕ) (k : ℕ) → k < length bytes
    → transmitter_after t (flat_map (lowest_bits 8) (take (k + 1) bytes))
    ≡ transmitter_after (transmitter_after t (flat_map (lowest_bits 8) (take k bytes))) (lowest_bits 8 (get_or bytes k 0))
bytes_more t bytes k low =
    ap (λ (l : List ℕ). transmitter_after t (flat_map (lowest_bits 8) l)) (take_more bytes k 0 low)
    ∙ (ap (transmitter_after t) (sym (flat_map_more (lowest_bits 8) [] (take k bytes) (get_or bytes k 0)))
    ∙ after_append t (flat_map (lowest_bits 8) (take k bytes)) (lowest_bits 8 (get_or bytes k 0)))

-- ---- the fields of a frame

pub sends_extended : (t : Transmitter) (id : ℕ) (rtr : Bool)
    → transmitter_with (transmitter_after (transmitter_with (transmitter_with (transmitter_after t (lowest_bits 11 (id / 2 ^ 18)))
    true) true) (lowest_bits 18 id)) rtr
    ≡ transmitter_after t (extended_arbitration id rtr)
unfolding transmitter_after
sends_extended t id rtr =
    let base = lowest_bits 11 (id / 2 ^ 18) in
    let rest = lowest_bits 18 id in
    let two = transmitter_with (transmitter_with (transmitter_after t base) true) true in
    sym (after_append t base (true ∷ true ∷ (rest ++ rtr ∷ [])) ∙ after_append two rest (rtr ∷ []))

pub sends_standard : (t : Transmitter) (id : ℕ) (rtr : Bool)
    → transmitter_with (transmitter_after t (lowest_bits 11 id)) rtr ≡ transmitter_after t (standard_arbitration id rtr)
unfolding transmitter_after
sends_standard t id rtr = sym (after_append t (lowest_bits 11 id) (rtr ∷ []))

pub arbitration_by : (f : Frame) (xtd : Bool) → xtd ≡ f.xtd
    → cond xtd (extended_arbitration f.id f.rtr) (standard_arbitration f.id f.rtr) ≡ arbitration_field f
unfolding arbitration_field
arbitration_by f xtd is = ap (λ b. cond b (extended_arbitration f.id f.rtr) (standard_arbitration f.id f.rtr)) is

pub sends_control : (t : Transmitter) (f : Frame)
    → transmitter_after (transmitter_with (transmitter_with t false) false) (lowest_bits 4 f.dlc)
    ≡ transmitter_after t (control_field f)
unfolding transmitter_after control_field
sends_control t f = refl

pub data_is : (f : Frame) (count : ℕ) (bytes : List ℕ) → count ≡ data_count f.rtr f.dlc → bytes ≡ f.bytes
    → flat_map (lowest_bits 8) (take count bytes) ≡ data_field f
unfolding data_field
data_is f count bytes many are = λ i. flat_map (lowest_bits 8) (take (many i) (are i))

pub sends_checked : (t : Transmitter) (f : Frame)
    → transmitter_after (transmitter_after (transmitter_after (transmitter_with t false) (arbitration_field f)) (control_field f))
    (data_field f)
    ≡ transmitter_after t (checked_bits f)
unfolding transmitter_after checked_bits
sends_checked t f =
    let one = transmitter_with t false in
    let a = arbitration_field f in
    let b = control_field f in
    sym (after_append one (a ++ b) (data_field f)
    ∙ ap (λ (u : Transmitter). transmitter_after u (data_field f)) (after_append one a b))
