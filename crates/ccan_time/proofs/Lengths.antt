-- How many bits are on the bus.
use Rattle.std.proofs.Common.{◌≡◌, ◌+◌, ◌*◌, ◌<◌, ◌≤◌, ◌==◌, ℕ, zero, suc, Bool, true, false, not, cond, List, [], ◌∷◌, ◌++◌, length, take, inl, inr, refl, sym, ◌∙◌, ⊎_elim, arith}
use Rattle.std.proofs.lemmas.Bool.{eq-eqb, eqb-true, true≢false}
use Rattle.std.specs.Prelude.{◌⊎◌, ◌≢◌}
use Rattle.std.specs.List.{flat_map}
use Rattle.std.proofs.lemmas.List.{length-append}
use Rattle.ccan_accept.specs.declared.frame.Frame.{Frame}
use Rattle.ccan_accept.specs.Frame.{data_count}
use Rattle.ccan_time.specs.declared.stuffing.Stuffing.{Stuffing}
use Rattle.ccan_time.specs.declared.transmitter.Transmitter.{Transmitter}
use Rattle.ccan_time.specs.Bits.{lowest_bits}
use Rattle.ccan_time.specs.FrameBits.{extended_arbitration, standard_arbitration, arbitration_field, control_field, data_field, checked_bits, crc_sequence, bits_on_bus, end_bits}
use Rattle.ccan_time.specs.Stuffing.{most_identical, run_with, stuffed_behind, stuffed}
use Rattle.ccan_time.specs.Transmitter.{silent_transmitter, stuffing_at, stuffing_with, transmitter_after, transmitter_with}
use Rattle.ccan_time.proofs.Registers.{length_lowest}

-- ---- with stuff bits

sent_one : (ends : Bool) (s : Stuffing) (b : Bool) (bits : List Bool)
    → (cond ends (stuffing_at (not b) 1 (s.bits + 2)) (stuffing_at b (run_with s.value s.run b) (s.bits + 1))).bits
    + length (stuffed_behind
    (cond ends (stuffing_at (not b) 1 (s.bits + 2)) (stuffing_at b (run_with s.value s.run b) (s.bits + 1))).value
    (cond ends (stuffing_at (not b) 1 (s.bits + 2)) (stuffing_at b (run_with s.value s.run b) (s.bits + 1))).run bits)
    ≡ s.bits + length (cond ends (b ∷ not b ∷ stuffed_behind (not b) 1 bits)
    (b ∷ stuffed_behind b (run_with s.value s.run b) bits))
sent_one true s b bits = omega arith
sent_one false s b bits = omega arith

-- a transmitter counts what is on the bus
counts : (bits : List Bool) (t : Transmitter)
    → (transmitter_after t bits).stuffing.bits
    ≡ t.stuffing.bits + length (stuffed_behind t.stuffing.value t.stuffing.run bits)
unfolding transmitter_after transmitter_with stuffing_with stuffed_behind
counts [] t = omega arith
counts (b ∷ bits) t =
    counts bits (transmitter_with t b)
    ∙ sent_one (run_with t.stuffing.value t.stuffing.run b == most_identical) t.stuffing b bits

pub bits_sent : (bits : List Bool) → (transmitter_after silent_transmitter bits).stuffing.bits ≡ length (stuffed bits)
unfolding stuffed
bits_sent bits =
    let all = counts bits silent_transmitter in
    let none : 0 + length (stuffed_behind true 0 bits) ≡ length (stuffed_behind true 0 bits) = omega arith in
    all ∙ none

pub on_bus : (f : Frame) → length (bits_on_bus f) ≡ length (stuffed (checked_bits f ++ crc_sequence f)) + 10
unfolding bits_on_bus
on_bus f = length-append (stuffed (checked_bits f ++ crc_sequence f)) end_bits

-- ---- at most so many

run_bound : (value : Bool) (run : ℕ) (b : Bool) → 1 ≤ run → run < 5
    → (run_with value run b ≡ run + 1) ⊎ (run_with value run b ≡ 1)
run_bound true run true least most = inl refl
run_bound true run false least most = inr refl
run_bound false run true least most = inr refl
run_bound false run false least most = inl refl

below_five : (run : ℕ) → (run + 1 ≢ 5) → run < 5 → run + 1 < 5
below_five run other most = omega arith

-- a stuff bit for each four bits at most, as the first of a run of five may be a stuff bit itself
abbrev AreFew : List Bool → Type 0
AreFew bits =
    (value : Bool) (run : ℕ) → 1 ≤ run → run < 5 → 4 * length (stuffed_behind value run bits) + 1 ≤ 5 * length bits + run

one_few : (ends value b : Bool) (run : ℕ) (bits : List Bool) → AreFew bits → 1 ≤ run → run < 5
    → (run_with value run b == most_identical) ≡ ends
    → 4 * length (cond ends (b ∷ not b ∷ stuffed_behind (not b) 1 bits) (b ∷ stuffed_behind b (run_with value run b) bits)) + 1
    ≤ 5 * length (b ∷ bits) + run
one_few true value b run bits few least most test =
    let five : run_with value run b ≡ 5 = eqb-true (run_with value run b) 5 test in
    let rest = few (not b) 1 (omega arith) (omega arith) in
    ⊎_elim
    (λ (up : run_with value run b ≡ run + 1). (let four : run ≡ 4 = omega arith in omega arith))
    (λ (one : run_with value run b ≡ 1). absurd (omega arith))
    (run_bound value run b least most)
one_few false value b run bits few least most test =
    ⊎_elim
    (λ (up : run_with value run b ≡ run + 1).
    let other : run_with value run b ≢ 5 = λ e. absurd (true≢false (sym (eq-eqb (run_with value run b) 5 e) ∙ test)) in
    let less : run + 1 < 5 = below_five run (λ e. other (up ∙ e)) most in
    let rest = few b (run_with value run b) (omega arith) (omega arith) in
    omega arith)
    (λ (one : run_with value run b ≡ 1).
    let rest = few b (run_with value run b) (omega arith) (omega arith) in
    omega arith)
    (run_bound value run b least most)

stuffed_few : (bits : List Bool) → AreFew bits
unfolding stuffed_behind
stuffed_few [] value run least most = omega arith
stuffed_few (b ∷ bits) value run least most =
    one_few (run_with value run b == most_identical) value b run bits (stuffed_few bits) least most refl

-- all bits, behind the first one
pub stuffed_most : (b : Bool) (bits : List Bool) → 4 * length (stuffed (b ∷ bits)) ≤ 5 * length bits + 4
unfolding stuffed stuffed_behind
stuffed_most true bits =
    let rest = stuffed_few bits true 1 (omega arith) (omega arith) in
    omega arith
stuffed_most false bits =
    let rest = stuffed_few bits false 1 (omega arith) (omega arith) in
    omega arith

-- ---- the bits of a frame before stuffing

length_by_kind : (xtd : Bool) (id : ℕ) (rtr : Bool)
    → length (cond xtd (extended_arbitration id rtr) (standard_arbitration id rtr)) ≤ 32
unfolding lowest_bits
length_by_kind true id rtr = omega arith
length_by_kind false id rtr = omega arith

length_arbitration : (f : Frame) → length (arbitration_field f) ≤ 32
unfolding arbitration_field
length_arbitration f = length_by_kind f.xtd f.id f.rtr

length_control : (f : Frame) → length (control_field f) ≡ 6
unfolding control_field lowest_bits
length_control f = refl

length_taken : (j : ℕ) (l : List ℕ) → length (take j l) ≤ j
length_taken zero l = omega arith
length_taken (suc j) [] = omega arith
length_taken (suc j) (x ∷ l) = (let less = length_taken j l in omega arith)

length_bytes : (bytes : List ℕ) → length (flat_map (lowest_bits 8) bytes) ≡ 8 * length bytes
length_bytes [] = refl
length_bytes (x ∷ bytes) =
    let rest = length_bytes bytes in
    let eight = length_lowest 8 x in
    length-append (lowest_bits 8 x) (flat_map (lowest_bits 8) bytes) ∙ omega arith

length_data : (f : Frame) → data_count f.rtr f.dlc ≤ 8 → length (data_field f) ≤ 64
unfolding data_field
length_data f few =
    let all = length_bytes (take (data_count f.rtr f.dlc) f.bytes) in
    let some = length_taken (data_count f.rtr f.dlc) f.bytes in
    omega arith

few_data : (rtr : Bool) (dlc : ℕ) → data_count rtr dlc ≤ 8
few_data true dlc = omega arith
few_data false dlc = omega arith

-- the bits behind the start of frame
abbrev behind_start : Frame → List Bool
behind_start f = (arbitration_field f ++ control_field f ++ data_field f) ++ crc_sequence f

length_behind : (f : Frame) → length (crc_sequence f) ≡ 15 → length (behind_start f) ≤ 117
length_behind f crc =
    let a = length_arbitration f in
    let b = length_control f in
    let d = length_data f (few_data f.rtr f.dlc) in
    let one = length-append (arbitration_field f) (control_field f) in
    let two = length-append (arbitration_field f ++ control_field f) (data_field f) in
    let three = length-append (arbitration_field f ++ control_field f ++ data_field f) (crc_sequence f) in
    omega arith

pub few_on_bus : (f : Frame) → length (crc_sequence f) ≡ 15 → length (bits_on_bus f) ≤ 157
unfolding checked_bits
few_on_bus f crc =
    let all = on_bus f in
    let most = stuffed_most false (behind_start f) in
    let few = length_behind f crc in
    omega arith
