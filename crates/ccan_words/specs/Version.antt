-- Looks that read a version, and versions that are written and published. Source: this project's own.
use Rattle.std.specs.Prelude.{Bool, true, ◌≡◌, ◌≢◌, ℕ, ◌+◌, ◌<◌, ◌≤◌, List, [], length, slice_index, Some}
use Rattle.ccan_object.specs.declared.profile.Profile.{Profile}
use Rattle.ccan_object.specs.declared.record.Record.{Record}
use Rattle.ccan_object.specs.Record.{IsRecord}
use Rattle.ccan_object.specs.Profile.{Holds}
use Rattle.ccan_object.specs.Packing.{packed}
use Rattle.ccan_ram.specs.declared.port.PortName.{PortName}
use Rattle.ccan_ram.specs.declared.change.Change.{Change}
use Rattle.ccan_ram.specs.declared.draft.Draft.{Draft}
use Rattle.ccan_ram.specs.Port.{change_number}
use Rattle.ccan_ram.specs.Change.{fits, changed}
use Rattle.ccan_ram.specs.History.{record_at, changes_by, next_number, last_number, BeginsWith, History}
use Rattle.ccan_words.specs.declared.view.PortView.{PortView}
use Rattle.ccan_words.specs.declared.version.Version.{Version}
use Rattle.ccan_ram.specs.ByPort.{holding, only}
use Rattle.ccan_words.specs.Layout.{Form, IsNumber}
use Rattle.ccan_ram.specs.Sound.{Stands}
use Rattle.ccan_words.specs.Plays.{Knows, Looks, Exchanges, IsNextWord}

-- the seat holds one port, for which it knows this
abbrev pub IsSeatOf : PortName → PortView → Knows → Type 0
IsSeatOf p x m = m ≡ (only p (Some x), [])

-- what a port knows, with another note
abbrev pub with_note : List ℕ → PortView → PortView
with_note note x = record { seen = x.seen; note = note; quota = x.quota }

-- the version of a port that has made this many changes, for a draft and a change
abbrev pub version_of : PortName → ℕ → Draft → Change → Version
version_of port used draft change =
    record {
      port = port;
      number = change_number port (used + 1);
      object = draft.object;
      old = draft.number;
      change = change;
      before = draft.held;
      after = changed change draft.held;
      content = packed (changed change draft.held);
    }

-- the version has the record that the change makes, as it is packed
abbrev pub IsContent : Version → Type 0
IsContent z = (z.content ≡ packed (changed z.change z.before)) × IsRecord (changed z.change z.before)

module _ {profile : Profile} {most : ℕ} {contends : ℕ → ℕ → Bool} (F : Form profile most contends) where
  -- a look found this number, and this record
  abbrev pub Finds : PortName → ℕ → Knows → ℕ → Record → Knows → Type 0
  Finds p k m found shown n = (t : Looks F p k m found n) × (shown ≡ record_at k t.log)

  -- if a change that some port has seen has this number, and its version has a record of the object, it is this one
  abbrev pub IsRecordOf : ℕ → ℕ → Knows → Record → Type 0
  IsRecordOf k number m shown =
      (p : PortName) (x : PortView) (at : History) (r : Record) → holding p m.0 ≡ Some x → Stands x.seen number at → IsRecord r
      → ((j : ℕ) → j < 3 → slice_index (F.content at) (F.offset k + j) ≡ slice_index (packed r) j) → shown ≡ r

  -- the word is one of the version, if some port has seen its draft
  abbrev pub IsNextFor : Version → Knows → ℕ → ℕ → Type 0
  IsNextFor version m j word =
      (p : PortName) (x : PortView) (at : History) → holding p m.0 ≡ Some x → BeginsWith x.seen at
      → last_number contends version.object at ≡ version.old → IsNextWord F version at j word

  -- the first words of the port's next version are those of this one
  pub record IsWritten (version : Version) (x : PortView) (n : ℕ) (m : Knows) : Type 0 where
    pub note : List ℕ
    pub view : IsSeatOf version.port (with_note note x) m
    pub full : 0 < n → length note ≡ n
    pub words : (at : History) → BeginsWith x.seen at → last_number contends version.object at ≡ version.old
        → (j : ℕ) → j < n → IsNextWord F version at j (slice_index note j)

  -- the version may be published: its draft was made at a history that the port has seen, its record fits, and the port has
  -- a change left, which has this number
  pub record IsReady (version : Version) (x : PortView) : Type 0 where
    pub held : Holds profile version.object
    pub room : changes_by version.port x.seen < x.quota
    pub top : x.quota ≤ most
    pub numbered : version.number ≡ next_number version.port x.seen
    pub at : History
    pub at_seen : BeginsWith x.seen at
    pub old_is : last_number contends version.object at ≡ version.old
    pub old_number : version.old ≢ 0 → IsNumber most version.old
    pub before_is : record_at version.object at ≡ version.before
    pub fit : fits version.change version.before ≡ true

  -- it was published, or a change that contends came first
  pub record Publishes (version : Version) (x : PortView) (found : ℕ) (n : Knows) : Type 0 where
    pub note : List ℕ
    pub written : Knows
    pub view : IsSeatOf version.port (with_note note x) written
    pub exchanges : Exchanges F version written found n

  -- the same, of the port of a seat
  abbrev pub IsReadyIn : Version → Knows → Type 0
  IsReadyIn version m = (x : PortView) × IsSeatOf version.port x m × IsReady version x

  abbrev pub IsWrittenIn : Version → ℕ → Knows → Knows → Type 0
  IsWrittenIn version n old new = (x : PortView) → IsSeatOf version.port x old → IsWritten version x n new

  abbrev pub PublishesIn : Version → Knows → ℕ → Knows → Type 0
  PublishesIn version old found new = (x : PortView) → IsSeatOf version.port x old → Publishes version x found new
