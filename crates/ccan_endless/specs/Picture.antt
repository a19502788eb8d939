-- The steps of a picture: values of many words, and looks at all objects between them. Source: this project's own.
use Rattle.std.specs.Prelude.{◌≡◌, ◌≢◌, ℕ, ◌+◌, ◌<◌, Bool, true, false, List, ◌++◌, Some, slice_index}
use Rattle.ccan_object.specs.declared.profile.Profile.{Profile}
use Rattle.ccan_object.specs.declared.record.Record.{Record}
use Rattle.ccan_object.specs.Profile.{objects_in}
use Rattle.ccan_object.specs.Record.{IsRecord}
use Rattle.ccan_ram.specs.declared.handler_registers.HandlerRegisters.{HandlerRegisters}
use Rattle.ccan_ram.specs.declared.port.PortName.{PortName}
use Rattle.ccan_ram.specs.declared.event.Event.{Event}
use Rattle.ccan_ram.specs.History.{events_of, changes_by, last_number, BeginsWith, History}
use Rattle.ccan_ram.specs.HandlerRegisters.{registers_at, with_flags}
use Rattle.ccan_ram.specs.Picture.{pictured, LostTurns, IsPicture}
use Rattle.ccan_ram.specs.SharedRam.{Memory, terms_of}
use Rattle.ccan_endless.specs.declared.view.PortView.{PortView}
use Rattle.ccan_ram.specs.ByPort.{holding}
use Rattle.ccan_endless.specs.View.{see, see_all}
use Rattle.ccan_endless.specs.Parts.{marks_of}
use Rattle.ccan_endless.specs.Layout.{same_object, number_in}
use Rattle.ccan_ram.specs.Sound.{IsSound, AreRecords}
use Rattle.ccan_endless.specs.Rule.{IsHead}
use Rattle.ccan_endless.specs.Plays.{Knows, GoesOn}
use Rattle.ccan_endless.specs.Version.{IsSeatOf}

-- the value has the number of the object's last change
abbrev pub HasNumber : ℕ → ℕ → History → Type 0
HasNumber k value log = number_in value ≡ last_number same_object k log

-- the flags of a record with these marks were added to the registers
abbrev pub AddsMarks : ℕ → ℕ → HandlerRegisters → HandlerRegisters → Type 0
AddsMarks place marks old new =
    (object : Record) → IsRecord object → marks_of object ≡ marks → new ≡ with_flags place object old

-- this was true at some place between these two histories
pub record Stood (older newer : History) (Tells : History → Type 0) : Type 0 where
  pub at : History
  pub from : BeginsWith at older
  pub to : BeginsWith newer at
  pub tells : Tells at

module _ (profile : Profile) where
  -- a history that goes on was seen (`Plays`), and looks at all objects are its last events
  pub record Poses (p : PortName) (m : Knows) (n : Knows) : Type 0 where
    pub log : History
    pub view : n ≡ (see_all (pictured p (objects_in profile) log ++ log) m.0, m.1)
    pub goes_on : (x : PortView) → holding p m.0 ≡ Some x
        → GoesOn profile p x log × IsSound profile x.quota (pictured p (objects_in profile) log ++ log)

  -- ---- many words

  -- this was true of the values of the first n objects' words, of each at some place after what the port had seen
  pub record Swept (Tells : ℕ → ℕ → History → Type 0) (p : PortName) (x : PortView) (n : ℕ) (values : List ℕ) (m : Knows)
      : Type 0 where
    pub log : History
    pub view : IsSeatOf p (see log x) m
    pub goes_on : GoesOn profile p x log
    pub each : (k : ℕ) → k < n → Stood x.seen log (Tells (k + 1) (slice_index values k))

  -- at some place after what the port had seen, an object's word had another number
  pub record Moved (p : PortName) (x : PortView) (values : List ℕ) (m : Knows) : Type 0 where
    pub log : History
    pub view : IsSeatOf p (see log x) m
    pub goes_on : GoesOn profile p x log
    pub k : ℕ
    pub less : k < objects_in profile
    pub stood : Stood x.seen log (λ at. number_in (slice_index values k) ≢ last_number same_object (k + 1) at)

  -- a sweep found these values, by the port of a seat that has seen a sound history
  abbrev pub CollectedIn : ℕ → List ℕ → Knows → Knows → Type 0
  CollectedIn n values old new =
      (p : PortName) (x : PortView) → IsSeatOf p x old → IsSound profile x.quota x.seen → Swept IsHead p x n values new

  -- a sweep found their numbers
  abbrev pub StayedIn : ℕ → List ℕ → Knows → Knows → Type 0
  StayedIn n values old new =
      (p : PortName) (x : PortView) → IsSeatOf p x old → IsSound profile x.quota x.seen → Swept HasNumber p x n values new

  -- a sweep found another number
  abbrev pub MovedIn : List ℕ → Knows → Knows → Type 0
  MovedIn values old new =
      (p : PortName) (x : PortView) → IsSeatOf p x old → IsSound profile x.quota x.seen → Moved p x values new

  -- wherever these are values of all objects' words, the registers are those of the memory that the history left
  abbrev pub ShowsAll : List ℕ → HandlerRegisters → Type 0
  ShowsAll values shown =
      (log : History) → AreRecords log
      → ((k : ℕ) → k < objects_in profile → IsHead (k + 1) (slice_index values k) log)
      → shown ≡ registers_at profile log

  -- ---- turns

  -- a turn: the looks come directly after one history, and another goes on from them, which the port has then seen
  pub record Turned (p : PortName) (x : PortView) (m : Knows) : Type 0 where
    pub at : History
    pub end : History
    pub from : BeginsWith at x.seen
    pub own_from : events_of p at ≡ events_of p x.seen
    pub to : BeginsWith end (pictured p (objects_in profile) at ++ at)
    pub own_to : events_of p end ≡ events_of p (pictured p (objects_in profile) at ++ at)
    pub view : IsSeatOf p (see end x) m
    pub sound : IsSound profile x.quota end
    pub sound_at : IsSound profile x.quota at

  -- it succeeded: these are values of all objects' words at the place of the looks
  pub record Posed (p : PortName) (x : PortView) (values : List ℕ) (m : Knows) : Type 0 where
    pub turn : Turned p x m
    pub each : (k : ℕ) → k < objects_in profile → IsHead (k + 1) (slice_index values k) turn.at

  -- it was lost
  pub record Missed (p : PortName) (x : PortView) (m : Knows) : Type 0 where
    pub turn : Turned p x m
    pub other : PortName
    pub changed : changes_by other x.seen < changes_by other turn.end

  -- the same, of the port of a seat
  abbrev pub TurnsIn : PortName → List ℕ → Bool → Knows → Knows → Type 0
  TurnsIn p values true old new = (x : PortView) → IsSeatOf p x old → IsSound profile x.quota x.seen → Posed p x values new
  TurnsIn p values false old new = (x : PortView) → IsSeatOf p x old → IsSound profile x.quota x.seen → Missed p x new

  -- the port added these events, and has then seen them
  pub record Added (p : PortName) (x : PortView) (added : List Event) (m : Knows) : Type 0 where
    pub view : IsSeatOf p (see (added ++ x.seen) x) m
    pub sound : IsSound profile x.quota (added ++ x.seen)
    pub own : changes_by p (added ++ x.seen) ≡ changes_by p x.seen

-- ---- a picture

-- the port of a seat tried in so many turns, which were lost
abbrev pub TriedIn : Memory → PortName → ℕ → Knows → Knows → Type 0
TriedIn memory p i old new =
    (x : PortView) → IsSeatOf p x old → IsSound memory.profile x.quota x.seen → x.quota ≡ memory.quota
    → (added : List Event) × Added memory.profile p x added new × LostTurns (terms_of same_object memory p) i x.seen added

-- the port of a seat made a picture
abbrev pub PicturesIn : Memory → PortName → HandlerRegisters → Knows → Knows → Type 0
PicturesIn memory p shown old new =
    (x : PortView) → IsSeatOf p x old → IsSound memory.profile x.quota x.seen → x.quota ≡ memory.quota
    → (added : List Event) × Added memory.profile p x added new
    × IsPicture (terms_of same_object memory p) shown x.seen added
