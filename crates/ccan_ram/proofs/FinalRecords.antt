-- The records that a history leaves, place by place.
use Rattle.std.proofs.Common.{◌≡◌, ℕ, zero, suc, ◌+◌, ◌-◌, ◌<◌, ◌≤◌, ◌++◌, List, [], ◌∷◌, length, map, get_or, set, replicate, sym, refl, ap, ◌∙◌, arith, add-zero, lit≤}
use Rattle.std.proofs.lemmas.List.{get_or-replicate, get_or-set_same, get_or-set_other}
use Rattle.std.specs.List.{range_with_len}
use mathlib.Core.Logic.{dite}
use native.Mathlib.Decide.{ℕ_discrete}
use Rattle.ccan_object.specs.declared.profile.Profile.{Profile}
use Rattle.ccan_object.specs.declared.profile.Profile.TheVariants.{One, Two}
use Rattle.ccan_object.specs.declared.record.Record.{Record}
use Rattle.ccan_object.specs.Profile.{objects_in}
use Rattle.ccan_object.specs.Record.{zero_record}
use Rattle.ccan_ram.specs.declared.event.Event.{Event}
use Rattle.ccan_ram.specs.Ending.{final_records}
use Rattle.ccan_ram.specs.History.{record_at}

-- a profile has at most 64 objects
pub most_objects : (profile : Profile) → objects_in profile ≤ 64
most_objects One = lit≤ tt
most_objects Two = lit≤ tt

-- records that are known place by place, and then others
listed_from : (f : ℕ → Record) (n m start : ℕ) (r d : Record) (records : List Record) → length records ≡ n + m
    → ((k : ℕ) → k < n → get_or records k d ≡ f (start + k)) → ((k : ℕ) → n ≤ k → k < n + m → get_or records k d ≡ r)
    → records ≡ map f (range_with_len start n) ++ replicate m r
listed_from f zero zero start r d [] count each rest = refl
listed_from f zero zero start r d (x ∷ xs) count each rest = absurd (omega arith)
listed_from f zero (suc m) start r d [] count each rest = absurd (omega arith)
listed_from f zero (suc m) start r d (x ∷ xs) count each rest =
    let first : x ≡ r = rest 0 (omega arith) (omega arith) in
    let more =
    listed_from f zero m start r d xs (omega arith) (λ k l. absurd (omega arith))
    (λ k l u. rest (suc k) (omega arith) (omega arith)) in
    λ i. first i ∷ more i
listed_from f (suc n) m start r d [] count each rest = absurd (omega arith)
listed_from f (suc n) m start r d (x ∷ xs) count each rest =
    let first : x ≡ f start = each 0 (omega arith) ∙ ap f (add-zero start) in
    let next : (k : ℕ) → start + suc k ≡ start + 1 + k = λ k. omega arith in
    let more =
    listed_from f n m (start + 1) r d xs (omega arith) (λ k l. each (suc k) (omega arith) ∙ ap f (next k))
    (λ k l u. rest (suc k) (omega arith) (omega arith)) in
    λ i. first i ∷ more i

-- the records of a memory's objects, and then zero records
pub record AreListed (n : ℕ) (log : List Event) (records : List Record) : Type 0 where
  pub each : (k : ℕ) → k < n → get_or records k zero_record ≡ record_at (k + 1) log
  pub rest : (k : ℕ) → n ≤ k → k < 64 → get_or records k zero_record ≡ zero_record

pub listed : (profile : Profile) (log : List Event) (records : List Record) → length records ≡ 64
    → AreListed (objects_in profile) log records → records ≡ final_records profile log
listed profile log records count all =
    let most = most_objects profile in
    let sum : objects_in profile + (64 - objects_in profile) ≡ 64 = omega arith in
    listed_from (λ k. record_at k log) (objects_in profile) (64 - objects_in profile) 1 zero_record zero_record records
    (count ∙ sym sum)
    (λ k l. all.each k l ∙ ap (λ (n : ℕ). record_at n log) (let e : k + 1 ≡ 1 + k = omega arith in e))
    (λ k l u. all.rest k l (omega arith))

pub listed_none : (log : List Event) → AreListed 0 log (replicate 64 zero_record)
listed_none log = record { each = λ k l. absurd (omega arith); rest = λ k l u. get_or-replicate 64 k zero_record zero_record u }

-- one record more
pub listed_more : (i : ℕ) (log : List Event) (r : Record) (records : List Record) → length records ≡ 64 → i < 64
    → r ≡ record_at (i + 1) log
    → AreListed i log records → AreListed (i + 1) log (set records i r)
listed_more i log r records count few is all = record {
  each = λ k l.
      dite (ℕ_discrete k i)
      (λ e.
      ap (λ (n : ℕ). get_or (set records i r) n zero_record) e
      ∙ (get_or-set_same records i r zero_record (omega arith) ∙ (is ∙ ap (λ (n : ℕ). record_at (n + 1) log) (sym e))))
      (λ n. get_or-set_other records i k r zero_record n ∙ all.each k (omega arith));
  rest = λ k l u. get_or-set_other records i k r zero_record (λ e. absurd (omega arith)) ∙ all.rest k (omega arith) u;
}
