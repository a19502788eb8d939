-- Steps after which a sound history is sound still: a look, looks at all objects, and a change that fits, of a port that has one
-- left.
use Rattle.std.proofs.Common.{◌≡◌, ◌≢◌, ℕ, zero, suc, ◌+◌, ◌<◌, ◌≤◌, true, ◌∷◌, ◌++◌, sym, refl, ◌∙◌, subst, ⊎_elim, arith}
use Rattle.std.proofs.Common.{true≢false}
use Rattle.ccan_object.specs.declared.profile.Profile.{Profile}
use Rattle.ccan_object.specs.declared.record.Record.{Record}
use Rattle.ccan_object.specs.Profile.{Holds, objects_in}
use Rattle.ccan_object.specs.Record.{IsRecord}
use Rattle.ccan_ram.specs.declared.port.PortName.{PortName}
use Rattle.ccan_ram.specs.declared.change.Change.{Change}
use Rattle.ccan_ram.specs.Port.{same_port}
use Rattle.ccan_ram.specs.Change.{fits, changed}
use Rattle.ccan_ram.specs.History.{History, record_at, events_of, changes_by}
use Rattle.ccan_ram.specs.Attempt.{look_at, change_at}
use Rattle.ccan_ram.specs.Picture.{pictured}
use Rattle.ccan_ram.specs.Sound.{AreRecords, IsSound, Stands}
use Rattle.ccan_ram.proofs.Booleans.{chosen, passed}
use Rattle.ccan_ram.proofs.Ports.{port_discrete, same_own, same_not}
use Rattle.ccan_ram.proofs.Counting.{of_other}
use Rattle.ccan_ram.proofs.Records.{record_is}
use Rattle.ccan_ram.proofs.Pictures.{pictured_changes, pictured_legal}

pub sound_look : (profile : Profile) (quota : ℕ) (p : PortName) (k : ℕ) (h : History) → Holds profile k → IsSound profile quota h
    → IsSound profile quota (look_at p k (record_at k h) ∷ h)
sound_look profile quota p k h object s = record {
  legal = (record { held = object; before = refl; after = refl; stands = refl }, s.legal);
  records = (record_is k h s.records, s.records);
  few = s.few;
}

-- ---- looks at all objects

pub pictured_stands : (p : PortName) (n : ℕ) (h g : History) (m : ℕ) (at : History) → Stands (pictured p n h ++ g) m at
    → Stands g m at
pictured_stands p zero h g m at t = t
pictured_stands p (suc n) h g m at t =
    ⊎_elim (λ a. absurd (true≢false (sym a.0))) (λ a. pictured_stands p n h g m at a) t

pub pictured_others : (p q : PortName) (n : ℕ) (h g : History) → q ≢ p → events_of q (pictured p n h ++ g) ≡ events_of q g
pictured_others p q zero h g other = refl
pictured_others p q (suc n) h g other =
    of_other p q (look_at p (suc n) (record_at (suc n) h)) (pictured p n h ++ g) refl other ∙ pictured_others p q n h g other

pictured_records : (p : PortName) (n : ℕ) (h : History) → AreRecords h → AreRecords (pictured p n h ++ h)
pictured_records p zero h a = a
pictured_records p (suc n) h a = (record_is (suc n) h a, pictured_records p n h a)

pub pictured_sound : (profile : Profile) (quota : ℕ) (p : PortName) (h : History) → IsSound profile quota h
    → IsSound profile quota (pictured p (objects_in profile) h ++ h)
pictured_sound profile quota p h s = record {
  legal = pictured_legal profile p (objects_in profile) h (omega arith) s.legal;
  records = pictured_records p (objects_in profile) h s.records;
  few = λ q. let same = pictured_changes p q (objects_in profile) h h in let f = s.few q in omega arith;
}

-- ---- a change

module _ (p : PortName) (object : ℕ) (change : Change) (before : Record) (h : History) where
  pub changes_mine : changes_by p (change_at p object change before ∷ h) ≡ changes_by p h + 1
  changes_mine = chosen (same_port p p) _ _ (same_own p)

  pub changes_not : (q : PortName) → q ≢ p → changes_by q (change_at p object change before ∷ h) ≡ changes_by q h
  changes_not q n = passed (same_port p q) _ _ (same_not p q n)

  pub sound_change : (profile : Profile) (quota : ℕ) → Holds profile object → before ≡ record_at object h
      → fits change before ≡ true → IsRecord (changed change before) → changes_by p h < quota → IsSound profile quota h
      → IsSound profile quota (change_at p object change before ∷ h)
  sound_change profile quota held here fit left room s = record {
    legal = (record { held = held; before = here; after = refl; stands = fit }, s.legal);
    records = (left, s.records);
    few = λ q.
        ⊎_elim
        (λ (eq : q ≡ p).
        subst (λ (u : PortName). changes_by u (change_at p object change before ∷ h) ≤ quota) (sym eq)
        (let c = changes_mine in omega arith))
        (λ (n : q ≢ p). let c = changes_not q n in let b = s.few q in omega arith)
        (port_discrete q p);
  }
