-- The words of a memory at its end. Source: this project's own.
use Rattle.std.specs.Prelude.{◌≡◌, ℕ, ◌+◌, Bool, List, [], ◌∷◌, slice_index}
use Rattle.ccan_object.specs.declared.profile.Profile.{Profile}
use Rattle.ccan_object.specs.declared.record.Record.{Record}
use Rattle.ccan_ram.specs.History.{record_at, History}
use Rattle.ccan_ram.specs.Ending.{final_records}
use Rattle.ccan_words.specs.Layout.{Form}
use Rattle.ccan_words.specs.Rule.{Settles}

module _ {profile : Profile} {most : ℕ} {contends : ℕ → ℕ → Bool} (F : Form profile most contends) where
  -- some history leaves these words
  abbrev pub SomeSettles : List ℕ → Type 0
  SomeSettles words = (log : History) × Settles F words log

  -- whatever history leaves these words leaves this record at the object
  abbrev pub ShowRecord : List ℕ → ℕ → Record → Type 0
  ShowRecord words object shown = (log : History) → Settles F words log → shown ≡ record_at object log

  -- and these records at all objects
  abbrev pub LeaveRecords : List ℕ → List Record → Type 0
  LeaveRecords words records = (log : History) → Settles F words log → records ≡ final_records profile log

  -- three words of a version, one after another
  pub record AreWordsOf (words : List ℕ) (number first : ℕ) (three : List ℕ) : Type 0 where
    pub a : ℕ
    pub b : ℕ
    pub c : ℕ
    pub all : three ≡ a ∷ b ∷ c ∷ []
    pub a_is : slice_index words (F.place number first) ≡ a
    pub b_is : slice_index words (F.place number (first + 1)) ≡ b
    pub c_is : slice_index words (F.place number (first + 2)) ≡ c
