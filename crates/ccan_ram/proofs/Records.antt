-- The records that a history leaves: the zero record is a record, and so is what each event of a sound history left.
use Rattle.std.proofs.Common.{◌≡◌, ℕ, zero, suc, ◌<◌, ◌==◌, ◌&&◌, ◌^◌, Bool, true, false, cond, [], ◌∷◌, replicate, sym, refl}
use Rattle.std.proofs.Common.{subst, ⊎_elim, arith, lit<, lit≤}
use Rattle.std.specs.Prelude.{slice_index_or}
use Rattle.ccan_object.specs.declared.record.Record.{Record}
use Rattle.ccan_object.specs.Record.{IsRecord, zero_record}
use Rattle.ccan_ram.specs.History.{History, is_change, record_at, next_number}
use Rattle.ccan_ram.specs.Sound.{AreRecords, Stands}

zeros : (n k d : ℕ) → k < n → slice_index_or (replicate n 0) k d < 2 ^ 8
zeros zero k d l = absurd (omega arith)
zeros (suc n) zero d l = lit< tt
zeros (suc n) (suc k) d l = zeros n k d (omega arith)

pub zero_is_record : IsRecord zero_record
zero_is_record = record { id = lit< tt; mask = lit< tt; dlc = lit≤ tt; length_is = refl; bytes = λ k d l. zeros 8 k d l }

one_record : (b : Bool) (r s : Record) → IsRecord r → IsRecord s → IsRecord (cond b r s)
one_record true r s x y = x
one_record false r s x y = y

pub record_is : (k : ℕ) (h : History) → AreRecords h → IsRecord (record_at k h)
record_is k [] a = zero_is_record
record_is k (e ∷ h) a = one_record (is_change e && (e.object == k)) e.after (record_at k h) a.0 (record_is k h a.1)

pub stands_records : (h : History) (n : ℕ) (at : History) → AreRecords h → Stands h n at → AreRecords at
stands_records [] n at a t = absurd t
stands_records (e ∷ h) n at a t =
    ⊎_elim (λ (x : (is_change e ≡ true) × (next_number e.port h ≡ n) × (at ≡ e ∷ h)). subst AreRecords (sym x.2) a)
    (λ (x : Stands h n at). stands_records h n at a.1 x) t
