-- What each step of a seat shows, and what it asks. Source: this project's own.
use Rattle.std.specs.Prelude.{Bool, true, ◌≡◌, ◌≢◌, ℕ, ◌<◌, ◌≤◌, [], ◌∷◌, length, slice_index, Some}
use Rattle.atomic_table.specs.Table.{Me}
use Rattle.ccan_object.specs.declared.profile.Profile.{Profile}
use Rattle.ccan_object.specs.Record.{IsRecord, zero_record}
use Rattle.ccan_object.specs.Profile.{Holds}
use Rattle.ccan_ram.specs.declared.port.PortName.{PortName}
use Rattle.ccan_ram.specs.declared.port.PortName.TheVariants.{If1}
use Rattle.ccan_ram.specs.declared.change.Change.TheVariants.{Start}
use Rattle.ccan_ram.specs.declared.event.Event.{Event}
use Rattle.ccan_ram.specs.Change.{fits, changed}
use Rattle.ccan_ram.specs.History.{record_at, IsLegal, events_of, changes_by, next_number, last_number, BeginsWith, History}
use Rattle.ccan_ram.specs.Attempt.{look_at, change_at}
use Rattle.ccan_words.specs.declared.view.PortView.{PortView}
use Rattle.ccan_words.specs.declared.version.Version.{Version}
use Rattle.ccan_ram.specs.ByPort.{holding, with_held}
use Rattle.ccan_words.specs.View.{see_all, note_at, View}
use Rattle.ccan_words.specs.Layout.{Form, IsNumber}
use Rattle.ccan_ram.specs.Sound.{IsSound, Stands}
use Rattle.ccan_words.specs.Rule.{Latest}

-- a seat's view, beside the slots that it holds: these memories have none
abbrev pub Knows : Type 0
Knows = Me (Unit {0}) View

-- the history goes on from what was seen for the port, with no event of the port
pub record GoesOn (profile : Profile) (p : PortName) (x : PortView) (h : History) : Type 0 where
  pub sound : IsSound profile x.quota h
  pub part : BeginsWith h x.seen
  pub own : events_of p h ≡ events_of p x.seen

-- the change that a version is made for
abbrev pub change_of : Version → Event
change_of version = change_at version.port version.object version.change version.before

-- no version, if a step is made for none
abbrev pub no_version : Version
no_version =
    record {
      port = If1;
      number = 0;
      object = 0;
      old = 0;
      change = Start;
      before = zero_record;
      after = zero_record;
      content = [];
    }

-- a word of the port's next version was written
abbrev pub Notes : PortName → ℕ → ℕ → Knows → Knows → Type 0
Notes p j word m n = (x : PortView) → holding p m.0 ≡ Some x → n ≡ (with_held p (Some (note_at j word x)) m.0, m.1)

-- what a store asks: the port's next version has this number, and its first words were written
pub record IsNoting (most : ℕ) (p : PortName) (number j : ℕ) (m : Knows) : Type 0 where
  pub x : PortView
  pub held : holding p m.0 ≡ Some x
  pub next : number ≡ next_number p x.seen
  pub few : changes_by p x.seen < most
  pub up : j ≤ length x.note

-- the port's change was made, after all of this history
pub record Makes (profile : Profile) (p : PortName) (log : History) (m n : Knows) (x : PortView) : Type 0 where
  pub view : n ≡ (with_held p (Some (record { seen = log; note = []; quota = x.quota })) (see_all log m.0), m.1)
  pub sound : IsSound profile x.quota log

module _ {profile : Profile} {most : ℕ} {contends : ℕ → ℕ → Bool} (F : Form profile most contends) where
  -- Each step shows its seat a history `log` of its own, which goes on from what the port has seen. The proofs take the one
  -- history of the rule for it (`Keeps.log`); but no clause says so, nor that two steps have the same one.

  -- such a history was seen, and the look is its last event; the number found is that of the last change in it that contends
  pub record Looks (p : PortName) (k : ℕ) (m : Knows) (found : ℕ) (n : Knows) : Type 0 where
    pub log : History
    pub view : n ≡ (see_all (look_at p k (record_at k log) ∷ log) m.0, m.1)
    pub goes_on : (x : PortView) → holding p m.0 ≡ Some x
        → GoesOn profile p x log × IsSound profile x.quota (look_at p k (record_at k log) ∷ log)
    pub found_last : found ≡ last_number contends k log
    pub latest : Latest contends k found log
    pub number : found ≢ 0 → IsNumber most found

  -- such a history was seen
  pub record Watches (m : Knows) (n : Knows) : Type 0 where
    pub log : History
    pub view : n ≡ (see_all log m.0, m.1)
    pub goes_on : (p : PortName) (x : PortView) → holding p m.0 ≡ Some x → GoesOn profile p x log

  -- a word of a version: if its change has been seen for some port, the word that the change made
  pub record Reads (word : ℕ) (m : Knows) (found : ℕ) (n : Knows) : Type 0 where
    pub view : n ≡ m
    pub value : (p : PortName) (x : PortView) (number j : ℕ) (at : History) → holding p m.0 ≡ Some x → Stands x.seen number at
        → j < F.width → word ≡ F.place number j → found ≡ slice_index (F.content at) j

  -- the word held the old number, and the change was made, as the last event after such a history; or such a history was seen
  pub record Exchanges (version : Version) (m : Knows) (found : ℕ) (n : Knows) : Type 0 where
    pub log : History
    pub goes_on : (x : PortView) → holding version.port m.0 ≡ Some x → GoesOn profile version.port x log
    pub found_last : found ≡ last_number contends version.object log
    pub done : found ≡ version.old → (x : PortView) → holding version.port m.0 ≡ Some x
        → Makes profile version.port (change_of version ∷ log) m n x
    pub lost : found ≢ version.old → n ≡ (see_all log m.0, m.1)

  -- a word of the version after any history that goes on from `at`, if no change that contends comes between
  abbrev pub IsNextWord : Version → History → ℕ → ℕ → Type 0
  IsNextWord version at j word =
      (h : History) → IsLegal profile h → ((q : PortName) → changes_by q h ≤ most) → BeginsWith h at
      → last_number contends version.object h ≡ version.old → word ≡ slice_index (F.content (change_of version ∷ h)) j

  -- what an exchange asks: the draft of the version was made at a history that the port has seen, its record fits, and the
  -- port's note is the whole version
  pub record IsDrafted (version : Version) (x : PortView) : Type 0 where
    pub held : Holds profile version.object
    pub room : changes_by version.port x.seen < x.quota
    pub numbered : version.number ≡ next_number version.port x.seen
    pub at : History
    pub at_seen : BeginsWith x.seen at
    pub old_is : last_number contends version.object at ≡ version.old
    pub before_is : record_at version.object at ≡ version.before
    pub fit : fits version.change version.before ≡ true
    pub left : IsRecord (changed version.change version.before)
    pub full : length x.note ≡ F.width
    pub words : (j : ℕ) → j < F.width → IsNextWord version at j (slice_index x.note j)

  -- the seat holds the port, which has such a draft
  abbrev pub IsDraftedIn : Version → Knows → Type 0
  IsDraftedIn version m = (x : PortView) × (holding version.port m.0 ≡ Some x) × IsDrafted version x
