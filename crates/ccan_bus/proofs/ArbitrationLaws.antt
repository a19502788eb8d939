-- The laws of arbitration.
use Rattle.std.proofs.Common.{ℕ, ◌≡◌, ◌≤◌, ◌<◌, ◌+◌, ◌*◌, ◌/◌, ◌%◌, ◌^◌, ◌==◌, Bool, true, false, cond, List, [], ◌∷◌, ◌++◌, length, map, refl, sym, ap, ◌∙◌, inl, inr, Some, arith}
use Rattle.std.specs.Prelude.{nat_lt, slice_get}
use Rattle.std.proofs.Math.ListN.{length-map}
use Rattle.std.proofs.lemmas.Bool.{eqb-true}
use Rattle.std.proofs.lemmas.Bool.Decides.{nat_tests}
use Rattle.std.proofs.lemmas.List.{get_or-map}
use Rattle.std.proofs.lemmas.Option.{get_or_from_slice_get, slice_get_cases}
use Rattle.ccan_object.specs.Bits.{flag}
use Rattle.ccan_accept.specs.declared.frame.Frame.{Frame}
use Rattle.ccan_accept.specs.Frame.{IsFrame}
use Rattle.ccan_bus.specs.Arbitration.{lowest_bits, arbitration_bits, precedes, list_at, Wins}
use Rattle.ccan_bus.specs.Lead.{packed}
use Rattle.ccan_bus.specs.Laws.{DataBeatsRemote, StandardBeatsExtended, upper_part, LeastUpperPartWins}
use Rattle.ccan_bus.proofs.Order.{packed-order, packed_standard, packed_extended}

-- what two lists begin with alike doesn't matter
precedes-same : (us c d : List Bool) → precedes (us ++ c) (us ++ d) ≡ precedes c d
precedes-same [] c d = refl
precedes-same (false ∷ us) c d = precedes-same us c d
precedes-same (true ∷ us) c d = precedes-same us c d

-- the lists by their identifiers
abbrev standard_list : ℕ → Bool → List Bool
standard_list id rtr = lowest_bits 11 id ++ rtr ∷ false ∷ []

abbrev extended_list : ℕ → ℕ → Bool → List Bool
extended_list upper id rtr = lowest_bits 11 upper ++ true ∷ true ∷ (lowest_bits 18 id ++ rtr ∷ [])

list_of : (f : Frame) (xtd : Bool) (id : ℕ) (rtr : Bool) → f.xtd ≡ xtd → f.id ≡ id → f.rtr ≡ rtr
    → arbitration_bits f ≡ cond xtd (extended_list (id / 2 ^ 18) id rtr) (standard_list id rtr)
unfolding arbitration_bits
list_of f xtd id rtr x i r = rw (x, i, r) refl

data_first : (xtd : Bool) (id : ℕ)
    → precedes (cond xtd (extended_list (id / 2 ^ 18) id false) (standard_list id false))
    (cond xtd (extended_list (id / 2 ^ 18) id true) (standard_list id true)) ≡ true
data_first true id =
    precedes-same (lowest_bits 11 (id / 2 ^ 18)) (true ∷ true ∷ (lowest_bits 18 id ++ false ∷ []))
    (true ∷ true ∷ (lowest_bits 18 id ++ true ∷ []))
    ∙ precedes-same (lowest_bits 18 id) (false ∷ []) (true ∷ [])
data_first false id = precedes-same (lowest_bits 11 id) (false ∷ false ∷ []) (true ∷ false ∷ [])

pub data_wins : DataBeatsRemote
data_wins data_frame remote width same d r =
    rw (
      list_of data_frame data_frame.xtd data_frame.id false refl refl d,
      list_of remote data_frame.xtd data_frame.id true
          (sym width) (sym same) r,
    ) (data_first data_frame.xtd data_frame.id)

by_kind : (rtr : Bool) (rest : List Bool) → precedes (rtr ∷ false ∷ []) (true ∷ true ∷ rest) ≡ true
by_kind false rest = refl
by_kind true rest = refl

standard_before : (id : ℕ) (a b : Bool) (lower : ℕ) → precedes (standard_list id a) (extended_list id lower b) ≡ true
standard_before id a b lower =
    precedes-same (lowest_bits 11 id) (a ∷ false ∷ []) (true ∷ true ∷ (lowest_bits 18 lower ++ b ∷ []))
    ∙ by_kind a (lowest_bits 18 lower ++ b ∷ [])

pub standard_wins : StandardBeatsExtended
standard_wins standard extended s e same =
    rw (
      list_of standard false (extended.id / 2 ^ 18) standard.rtr s same refl,
      list_of extended true extended.id extended.rtr e refl refl,
    )
    (standard_before (extended.id / 2 ^ 18) standard.rtr extended.rtr extended.id)

-- ---- the upper part of the identifier

-- it is what stands above the lower 21 bits of the number
record HasUpper (f : Frame) : Type 0 where
  low : ℕ
  small : low < 2097152
  number : packed f ≡ upper_part f * 2097152 + low

flag_small : (b : Bool) → flag b ≤ 1
flag_small false = omega arith
flag_small true = omega arith

upper_by : (f : Frame) (xtd : Bool) → f.xtd ≡ xtd → IsFrame f → HasUpper f
upper_by f false x frame =
    let within : f.id < 2048 = rw x at frame.id in
    let bit = flag_small f.rtr in
    record {
      low = flag f.rtr * 1048576;
      small = omega arith;
      number = packed_standard f x within ∙ ap (λ b. cond b (f.id / 2 ^ 18) f.id * 2097152 + flag f.rtr * 1048576) (sym x);
    }
upper_by f true x frame =
    let within : f.id < 536870912 = rw x at frame.id in
    let bit = flag_small f.rtr in
    let rest : f.id % 262144 < 262144 = omega arith in
    record {
      low = 1572864 + ((f.id % 262144) * 2 + flag f.rtr);
      small = omega arith;
      number =
          packed_extended f x within
          ∙ ap (λ b. cond b (f.id / 2 ^ 18) f.id * 2097152 + (1572864 + ((f.id % 262144) * 2 + flag f.rtr))) (sym x);
    }

at_place : (frames : List Frame) (place : ℕ) (f : Frame) → slice_get frames place ≡ Some f → place < length frames
    → list_at (map arbitration_bits frames) place ≡ arbitration_bits f
at_place frames place f is within =
    get_or-map arbitration_bits frames place f [] within ∙ ap arbitration_bits (get_or_from_slice_get frames place f f is)

there : (frames : List Frame) (place : ℕ) (f : Frame) → slice_get frames place ≡ Some f → place < length frames
there frames place f is =
    elim ((slice_get_cases frames place).1) [
      | inl some ↦ some.1
      | inr none ↦ absurd (let e = sym is ∙ none.1 in cc)
    ]

same_frame : (frames : List Frame) (place other : ℕ) (winner loser : Frame) → slice_get frames place ≡ Some winner
    → slice_get frames other ≡ Some loser → other ≡ place
    → upper_part winner ≤ upper_part loser
same_frame frames place other winner loser w l is =
    let both : Some winner ≡ Some loser = sym w ∙ (ap (slice_get frames) (sym is) ∙ l) in
    let same : winner ≡ loser = cc in
    let e = ap upper_part same in
    omega arith

other_frame : (frames : List Frame) (place other : ℕ) (winner loser : Frame) → Wins (map arbitration_bits frames) place
    → slice_get frames place ≡ Some winner
    → slice_get frames other ≡ Some loser → IsFrame winner → IsFrame loser → (other ≡ place → ⊥)
    → upper_part winner ≤ upper_part loser
other_frame frames place other winner loser wins w l wf lf apart =
    let all : length (map arbitration_bits frames) ≡ length frames = simp length-map in
    let here = there frames other loser l in
    let within : other < length (map arbitration_bits frames) = omega arith in
    let listed : precedes (list_at (map arbitration_bits frames) place) (list_at (map arbitration_bits frames) other)
    ≡ true = wins.first other within apart in
    let first : precedes (arbitration_bits winner) (arbitration_bits loser) ≡ true =
    rw (at_place frames place winner w (there frames place winner w), at_place frames other loser l here) at listed in
    let less : nat_lt (packed winner) (packed loser) ≡ true = sym (packed-order winner loser) ∙ first in
    let lower : packed winner < packed loser = grind (arith, nat_tests) in
    let a = upper_by winner winner.xtd refl wf in
    let b = upper_by loser loser.xtd refl lf in
    let an = a.number in
    let bn = b.number in
    let bs = b.small in
    omega arith

not_same : (a b : ℕ) → (a == b) ≡ false → a ≡ b → ⊥
not_same a b e same = grind (arith, nat_tests)

by_test : (frames : List Frame) (place other : ℕ) (winner loser : Frame) → Wins (map arbitration_bits frames) place
    → slice_get frames place ≡ Some winner
    → slice_get frames other ≡ Some loser → IsFrame winner → IsFrame loser → (same : Bool) → (other == place) ≡ same
    → upper_part winner ≤ upper_part loser
by_test frames place other winner loser wins w l wf lf true is =
    same_frame frames place other winner loser w l (eqb-true other place is)
by_test frames place other winner loser wins w l wf lf false is =
    other_frame frames place other winner loser wins w l wf lf (λ e. not_same other place is e)

pub least_upper : LeastUpperPartWins
least_upper frames place other winner loser wins w l wf lf =
    by_test frames place other winner loser wins w l wf lf (other == place) refl
