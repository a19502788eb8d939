-- A look reads the record of one version.
use Rattle.std.proofs.Common.{◌≡◌, ◌≢◌, ℕ, zero, suc, ◌+◌, ◌<◌, ◌≤◌, Bool, [], ◌∷◌, get_or, sym, refl, ap, ◌∙◌, inr, arith}
use Rattle.std.proofs.Common.{Some, lit<}
use mathlib.Core.Logic.{dite}
use native.Mathlib.Decide.{ℕ_discrete}
use Rattle.ccan_object.specs.declared.profile.Profile.{Profile}
use Rattle.ccan_object.specs.declared.record.Record.{Record}
use Rattle.ccan_object.specs.Profile.{Holds}
use Rattle.ccan_object.specs.Record.{IsRecord, zero_record}
use Rattle.ccan_object.specs.Packing.{packed}
use Rattle.ccan_ram.specs.declared.port.PortName.{PortName}
use Rattle.ccan_ram.specs.History.{record_at, History}
use Rattle.ccan_ram.specs.Attempt.{look_at}
use Rattle.ccan_words.specs.declared.view.PortView.{PortView}
use Rattle.ccan_ram.specs.ByPort.{holding}
use Rattle.ccan_words.specs.View.{see}
use Rattle.ccan_words.specs.Layout.{Form, Lies, Shows}
use Rattle.ccan_words.specs.Plays.{Knows, Looks, Reads}
use Rattle.ccan_words.specs.Version.{IsSeatOf, IsRecordOf}
use Rattle.ccan_ram.proofs.Records.{stands_records, record_is}
use Rattle.ccan_words.proofs.Seats.{only_holds, only_sees}

-- three places
pub of_three : (P : ℕ → Type 0) → P 0 → P 1 → P 2 → (j : ℕ) → j < 3 → P j
of_three P a b c zero l = a
of_three P a b c (suc zero) l = b
of_three P a b c (suc (suc zero)) l = c
of_three P a b c (suc (suc (suc j))) l = absurd (omega arith)

-- three words that a record packs to
pub three_words : (r : Record) (a b c : ℕ) → ((j : ℕ) → j < 3 → get_or (packed r) j 0 ≡ get_or (a ∷ b ∷ c ∷ []) j 0)
    → packed r ≡ a ∷ b ∷ c ∷ []
three_words r a b c e =
    let x = e 0 (lit< tt) in let y = e 1 (lit< tt) in let z = e 2 (lit< tt) in λ i. x i ∷ y i ∷ z i ∷ []

module _ {profile : Profile} {most : ℕ} {contends : ℕ → ℕ → Bool} (F : Form profile most contends) where
  -- three words of one version whose change some port has seen
  pub three_reads : (number k first : ℕ) (a b c : ℕ) (m0 m1 m2 m3 : Knows) (shown : Record) → first ≡ F.offset k
      → first + 3 ≤ F.width
      → Reads F (F.place number first) m0 a m1 → Reads F (F.place number (first + 1)) m1 b m2
      → Reads F (F.place number (first + 2)) m2 c m3
      → ((r : Record) → IsRecord r → packed r ≡ a ∷ b ∷ c ∷ [] → shown ≡ r) → IsRecordOf F k number m0 shown
  three_reads number k first a b c m0 m1 m2 m3 shown is inside A B C unpacks p x at r held st good words =
      let held1 : holding p m1.0 ≡ Some x = ap (λ (m : Knows). holding p m.0) A.view ∙ held in
      let held2 : holding p m2.0 ≡ Some x = ap (λ (m : Knows). holding p m.0) B.view ∙ held1 in
      let va = A.value p x number first at held st (omega arith) refl in
      let vb = B.value p x number (first + 1) at held1 st (omega arith) refl in
      let vc = C.value p x number (first + 2) at held2 st (omega arith) refl in
      let from : (j n : ℕ) → F.offset k + j ≡ n → j < 3 → get_or (packed r) j 0 ≡ get_or (F.content at) n 0 =
      λ j n e l. sym (words j l) ∙ ap (λ (u : ℕ). get_or (F.content at) u 0) e in
      unpacks r good
      (three_words r a b c (of_three (λ j. get_or (packed r) j 0 ≡ get_or (a ∷ b ∷ c ∷ []) j 0)
      (from 0 first (omega arith) (lit< tt) ∙ sym va)
      (from 1 (first + 1) (omega arith) (lit< tt) ∙ sym vb)
      (from 2 (first + 2) (omega arith) (lit< tt) ∙ sym vc)))

  -- the record in the version that a look found is the object's
  pub fetched : (lies : Lies F) (shows : Shows F) (p : PortName) (k found : ℕ) (r : Record) (x : PortView) (me me' : Knows)
      → IsSeatOf p x me
      → Holds profile k → (t : Looks F p k me found me') → (found ≡ 0 → r ≡ zero_record)
      → (found ≢ 0 → IsRecordOf F k found me' r)
      → r ≡ record_at k t.log
  fetched lies shows p k found r x me me' view object t none value =
      dite (ℕ_discrete found 0)
      (λ z. none z ∙ sym (t.latest.none z k (lies.itself k)))
      (λ nz.
      let s = t.latest.some nz in
      let log' : History = look_at p k (record_at k t.log) ∷ t.log in
      let held = only_holds p (see log' x) me' (only_sees p x log' me me' view t.view) in
      let on = (t.goes_on x (only_holds p x me view)).0 in
      let good = record_is k s.0 (stands_records t.log found s.0 on.sound.records s.1) in
      value nz p (see log' x) s.0 (record_at k s.0) held (inr s.1) good (λ j l. shows.value k j s.0 object s.2 l)
      ∙ s.3 k (lies.itself k))
