-- The frames that none precedes.
use Rattle.std.proofs.Common.{ℕ, ◌≡◌, ◌<◌, ◌≤◌, ◌+◌, ◌==◌, Bool, true, false, ◌&&◌, not, List, length, take, take_all, get_or, refl, sym, ap, ◌∙◌, arith}
use Rattle.std.specs.Prelude.{nat_lt}
use Rattle.std.specs.List.{list_all, list_any}
use Rattle.std.proofs.lemmas.Bool.Decides.{nat_tests}
use Rattle.std.proofs.lemmas.List.Folds.{list_all_more, list_all_at}
use Rattle.ccan_accept.specs.declared.frame.Frame.{Frame}
use Rattle.ccan_bus.specs.Arbitration.{arbitration_bits, precedes}
use Rattle.ccan_bus.specs.Lead.{packed}
use Rattle.ccan_bus.specs.Contenders.{is_least, sends_least, frames_of}
use Rattle.ccan_bus.proofs.Order.{packed-order}

abbrev pub keeps : Frame → Frame → Bool
keeps frame other = not (precedes (arbitration_bits other) (arbitration_bits frame))

kept : (frame other : Frame) → packed frame ≤ packed other → keeps frame other ≡ true
kept frame other h =
    let here : nat_lt (packed other) (packed frame) ≡ false = grind (arith, nat_tests) in ap not (packed-order other frame ∙ here)

lost : (frame other : Frame) → packed other < packed frame → keeps frame other ≡ false
lost frame other h =
    let here : nat_lt (packed other) (packed frame) ≡ true = grind (arith, nat_tests) in ap not (packed-order other frame ∙ here)

pub least_more : (frame : Frame) (frames : List Frame) (i : ℕ) (other : Frame) → i < length frames → other ≡ get_or frames i other
    → packed frame ≤ packed other
    → list_all (keeps frame) (take i frames) ≡ true → list_all (keeps frame) (take (i + 1) frames) ≡ true
least_more frame frames i other within read low so_far =
    let here : keeps frame (get_or frames i other) ≡ true = ap (keeps frame) (sym read) ∙ kept frame other low in
    list_all_more (keeps frame) frames i other within ∙ (rw (so_far, here) refl)

pub not_least : (frame : Frame) (frames : List Frame) (i : ℕ) (other : Frame) → i < length frames → other ≡ get_or frames i other
    → packed other < packed frame
    → false ≡ is_least frame frames
not_least frame frames i other within read low =
    sym (list_all_at (keeps frame) frames i other within (ap (keeps frame) (sym read) ∙ lost frame other low))

pub all_seen : (list : List (ℕ × Frame)) (i node : ℕ) → length list ≤ i
    → list_any (λ c. c.0 == node && is_least c.1 (frames_of list)) (take i list) ≡ sends_least list node
unfolding sends_least
all_seen list i node out = ap (list_any (λ c. c.0 == node && is_least c.1 (frames_of list))) (take_all i list out)
