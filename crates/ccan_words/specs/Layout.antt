-- How a memory lies in words: each object has a word, which holds the number of a version, and each version has its words
-- at a place of its own. Source: this project's own.
use Rattle.std.specs.Prelude.{◌≡◌, ◌≢◌, ℕ, ◌+◌, ◌<◌, ◌≤◌, ◌⊎◌, Bool, true, false, List, [], ◌∷◌, slice_index}
use Rattle.ccan_object.specs.declared.profile.Profile.{Profile}
use Rattle.ccan_object.specs.declared.record.Record.{Record}
use Rattle.ccan_object.specs.Record.{zero_record}
use Rattle.ccan_object.specs.Profile.{Holds}
use Rattle.ccan_object.specs.Packing.{packed}
use Rattle.ccan_ram.specs.declared.port.PortName.{PortName}
use Rattle.ccan_ram.specs.declared.change.Change.{Change}
use Rattle.ccan_ram.specs.Port.{change_number}
use Rattle.ccan_ram.specs.Change.{changed}
use Rattle.ccan_ram.specs.History.{is_change, record_at, History}
use Rattle.ccan_ram.specs.Attempt.{change_at}

-- how a memory lies in words: one that has the objects of a profile, whose ports may be given at most this many changes, and
-- in which a change at the first object contends with the second
pub record Form (profile : Profile) (most : ℕ) (contends : ℕ → ℕ → Bool) : Type 0 where
  -- how many words there are, and how many of them come before the versions
  pub size : ℕ
  pub cells : ℕ
  -- how many words a version has
  pub width : ℕ
  -- the place of an object's word
  pub cell : ℕ → ℕ
  -- the place of a word of the version with this number
  pub place : ℕ → ℕ → ℕ
  -- where an object's record begins in a version
  pub offset : ℕ → ℕ
  -- the words of the version that the newest change of a history made
  pub content : History → List ℕ

-- a change's number, if each port makes at most this many
pub record IsNumber (most number : ℕ) : Type 0 where
  pub port : PortName
  pub count : ℕ
  pub is : number ≡ change_number port count
  pub from_one : 1 ≤ count
  pub up_to : count ≤ most

module _ (contends : ℕ → ℕ → Bool) where
  -- the history's newest event is a change that contends with the object
  abbrev pub IsChangeFor : ℕ → History → Type 0
  IsChangeFor k [] = ⊥
  IsChangeFor k (e ∷ h) = (is_change e ≡ true) × (contends e.object k ≡ true)

  -- the objects whose changes contend with this one's have the same records after both histories
  abbrev pub AgreeFor : ℕ → History → History → Type 0
  AgreeFor k h g = (i : ℕ) → contends i k ≡ true → record_at i h ≡ record_at i g

  -- no object whose changes contend with this one's was written
  abbrev pub IsBlankFor : ℕ → History → Type 0
  IsBlankFor k h = (i : ℕ) → contends i k ≡ true → record_at i h ≡ zero_record

module _ {profile : Profile} {most : ℕ} {contends : ℕ → ℕ → Bool} (F : Form profile most contends) where
  -- the place is before or after the words of the object's record
  abbrev pub IsBeside : ℕ → ℕ → Type 0
  IsBeside k j = (j < F.offset k) ⊎ (F.offset k + 3 ≤ j)

  -- the versions lie after the objects' words, and apart; two objects share a word exactly if their changes contend
  pub record Lies : Type 0 where
    pub few : most ≤ 4096
    pub cells : (k : ℕ) → Holds profile k → F.cell k < F.cells
    pub itself : (k : ℕ) → contends k k ≡ true
    pub sharing : (i k : ℕ) → contends i k ≡ true → F.cell i ≡ F.cell k
    pub separate : (i k : ℕ) → 1 ≤ i → 1 ≤ k → contends i k ≡ false → F.cell i ≢ F.cell k
    pub above : F.cells ≤ F.size
    pub fits : (n j : ℕ) → IsNumber most n → j < F.width → (F.cells ≤ F.place n j) × (F.place n j < F.size)
    pub one : (n j m i : ℕ) → IsNumber most n → IsNumber most m → j < F.width → i < F.width → F.place n j ≡ F.place m i
        → (n ≡ m) × (j ≡ i)

  -- a version that a change made for an object's word has the object's record, at its offset
  pub record Shows : Type 0 where
    pub inside : (k : ℕ) → Holds profile k → F.offset k + 3 ≤ F.width
    pub value : (k j : ℕ) (at : History) → Holds profile k → IsChangeFor contends k at → j < 3
        → slice_index (F.content at) (F.offset k + j) ≡ slice_index (packed (record_at k at)) j

  -- the version that a change makes has the object's new record at its offset, and beside it the words of any version with
  -- the records from before, or zeros if no record was written
  pub record Makes : Type 0 where
    pub value : (p : PortName) (k i : ℕ) (c : Change) (r : Record) (h : History) → Holds profile k → i < 3
        → slice_index (F.content (change_at p k c r ∷ h)) (F.offset k + i) ≡ slice_index (packed (changed c r)) i
    pub none : (p : PortName) (k j : ℕ) (c : Change) (r : Record) (h : History) → Holds profile k → j < F.width → IsBeside k j
        → IsBlankFor contends k h → slice_index (F.content (change_at p k c r ∷ h)) j ≡ 0
    pub rest : (p : PortName) (k j : ℕ) (c : Change) (r : Record) (h at : History) → Holds profile k → j < F.width → IsBeside k j
        → AgreeFor contends k at h → slice_index (F.content (change_at p k c r ∷ h)) j ≡ slice_index (F.content at) j
