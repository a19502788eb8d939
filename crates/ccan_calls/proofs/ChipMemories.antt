-- The chip as a history leaves it: the record of each object, its picture, and what one more event makes of it.
use Rattle.std.proofs.Common.{ℕ, zero, suc, ◌≡◌, ◌==◌, ◌+◌, ◌<◌, ◌≤◌, Bool, false, ◌&&◌, List, [], ◌∷◌, ◌++◌, Some, map, reverse, slice_get, slice_set, refl, sym, ap, ◌∙◌, arith, eq-eqb, ne_eqb, if◌then◌else◌}
use Rattle.std.specs.List.{range_with_len}
use Rattle.std.proofs.lemmas.List.{reverse-append}
use Rattle.ccan_object.specs.declared.profile.Profile.{Profile}
use Rattle.ccan_object.specs.declared.record.Record.{Record}
use Rattle.ccan_object.specs.Profile.{Holds, objects_in}
use Rattle.ccan_ram.specs.declared.change.Change.{Change}
use Rattle.ccan_ram.specs.declared.event.Event.{Event}
use Rattle.ccan_ram.specs.declared.port.PortName.{PortName}
use Rattle.ccan_ram.specs.Attempt.{change_at}
use Rattle.ccan_ram.specs.Change.{changed}
use Rattle.ccan_ram.specs.HandlerRegisters.{first_records}
use Rattle.ccan_ram.specs.History.{is_change, leaves, record_at}
use Rattle.ccan_endless.specs.declared.chip.ChipEvent.TheVariants.{OfRam}
use Rattle.ccan_endless.specs.Chip.{ChipHistory, ram_of}
use Rattle.ccan_device.specs.declared.memory.ChipMemory.{ChipMemory}
use Rattle.ccan_device.specs.ChipSteps.{record_in, with_record}
use Rattle.ccan_calls.specs.InTheList.{chip_after}

-- ---- what a function has at numbers in turn

abbrev listed : (ℕ → Record) → ℕ → ℕ → List Record
listed f start n = map f (range_with_len start n)

listed_get : (f : ℕ → Record) (n start k : ℕ) → k < n → slice_get (listed f start n) k ≡ Some (f (start + k))
listed_get f zero start k less = absurd (omega (arith, less))
listed_get f (suc n) start zero less = let e : start ≡ start + 0 = omega arith in ap (λ m. Some (f m)) e
listed_get f (suc n) start (suc k) less =
    let e : start + 1 + k ≡ start + suc k = omega arith in
    listed_get f n (start + 1) k (omega (arith, less)) ∙ ap (λ m. Some (f m)) e

listed_same : (f g : ℕ → Record) (n start : ℕ) → ((m : ℕ) → start ≤ m → f m ≡ g m) → listed f start n ≡ listed g start n
listed_same f g zero start same = refl
listed_same f g (suc n) start same =
    λ i. same start (omega arith) i ∷ listed_same f g n (start + 1) (λ m le. same m (omega (arith, le))) i

-- another one at one of the numbers
listed_set : (f g : ℕ → Record) (r : Record) (n start k : ℕ) → k < n → r ≡ g (start + k)
    → ((m : ℕ) → (m ≡ start + k → ⊥) → f m ≡ g m) → slice_set (listed f start n) k r ≡ listed g start n
listed_set f g r zero start k less here others = absurd (omega (arith, less))
listed_set f g r (suc n) start zero less here others =
    let e : start + 0 ≡ start = omega arith in
    let first : r ≡ g start = here ∙ ap g e in
    let rest = listed_same f g n (start + 1) (λ m le. others m (λ is. absurd (omega (arith, le, is)))) in
    λ i. first i ∷ rest i
listed_set f g r (suc n) start (suc k) less here others =
    let e : start + suc k ≡ start + 1 + k = omega arith in
    let first = others start (λ is. absurd (omega (arith, is))) in
    let rest = listed_set f g r n (start + 1) k (omega (arith, less)) (here ∙ ap g e)
    (λ m other. others m (λ is. other (is ∙ e))) in
    λ i. first i ∷ rest i

listed_more : (f : ℕ → Record) (n start : ℕ) → listed f start (suc n) ≡ listed f start n ++ f (start + n) ∷ []
listed_more f zero start = let e : start ≡ start + 0 = omega arith in ap (λ (m : ℕ). f m ∷ []) e
listed_more f (suc n) start =
    let e : start + 1 + n ≡ start + suc n = omega arith in
    ap (λ (l : List Record). f start ∷ l)
    (listed_more f n (start + 1) ∙ ap (λ (m : ℕ). listed f (start + 1) n ++ f m ∷ []) e)

-- ---- the chip after a history

module _ (profile : Profile) where
  reversed : (n : ℕ) (history : List Event) → reverse (listed (λ o. record_at o history) 1 n) ≡ first_records n history
  reversed zero history = refl
  reversed (suc n) history =
      let e : 1 + n ≡ suc n = omega arith in
      ap reverse (listed_more (λ o. record_at o history) n 1)
      ∙ reverse-append (listed (λ o. record_at o history) 1 n) (record_at (1 + n) history ∷ [])
      ∙ (λ i. record_at (e i) history ∷ reversed n history i)

  -- the records, the last object's first
  pub records_back : (history : List Event) → reverse (leaves profile history) ≡ first_records (objects_in profile) history
  records_back history = reversed (objects_in profile) history

  -- the record of each object
  pub its_record : (history : ChipHistory) (object : ℕ) → Holds profile object
      → record_in (chip_after profile history) object ≡ Some (record_at object (ram_of history))
  its_record history zero held = absurd (omega (arith, held.least))
  its_record history (suc place) held =
      let e : 1 + place ≡ suc place = omega arith in
      listed_get (λ o. record_at o (ram_of history)) (objects_in profile) 1 place (omega (arith, held.greatest))
      ∙ ap (λ m. Some (record_at m (ram_of history))) e

  -- a look leaves the chip as it is
  pub look_keeps : (event : Event) (history : ChipHistory) → is_change event ≡ false
      → chip_after profile (OfRam event ∷ history) ≡ chip_after profile history
  look_keeps event history no_change =
      ap (λ (b : Bool). with_records
      (listed (λ o. if b && event.object == o then event.after else record_at o (ram_of history)) 1 (objects_in profile)))
      no_change
    where
      with_records : List Record → ChipMemory
      with_records records = record { records = records; controller = (chip_after profile history).controller }

  -- a change makes another record of one object
  pub change_makes : (port : PortName) (object : ℕ) (change : Change) (shown : Record) (history : ChipHistory)
      → Holds profile object
      → with_record (chip_after profile history) object (changed change shown)
      ≡ chip_after profile (OfRam (change_at port object change shown) ∷ history)
  change_makes port zero change shown history held = absurd (omega (arith, held.least))
  change_makes port (suc place) change shown history held =
      ap with_records (listed_set before after new (objects_in profile) 1 place (omega (arith, held.greatest))
      (ap (λ (b : Bool). if b then new else before (1 + place)) (sym (eq-eqb (suc place) (1 + place) e)))
      (λ m other. ap (λ (b : Bool). if b then new else before m)
      (sym (ne_eqb (suc place) m (λ is. other (sym is ∙ e))))))
    where
      e : suc place ≡ 1 + place
      e = omega arith

      new : Record
      new = changed change shown

      before : ℕ → Record
      before o = record_at o (ram_of history)

      after : ℕ → Record
      after o = if suc place == o then new else before o

      with_records : List Record → ChipMemory
      with_records records = record { records = records; controller = (chip_after profile history).controller }
