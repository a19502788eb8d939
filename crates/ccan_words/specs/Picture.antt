-- The steps of a picture: numbers of many words, and looks at all objects between them. Source: this project's own.
use Rattle.std.specs.Prelude.{◌≡◌, ◌≢◌, ℕ, ◌+◌, ◌<◌, ◌≤◌, Bool, true, false, List, ◌++◌, Some, slice_index}
use Rattle.ccan_object.specs.declared.profile.Profile.{Profile}
use Rattle.ccan_object.specs.Profile.{objects_in}
use Rattle.ccan_ram.specs.declared.handler_registers.HandlerRegisters.{HandlerRegisters}
use Rattle.ccan_ram.specs.declared.port.PortName.{PortName}
use Rattle.ccan_ram.specs.declared.event.Event.{Event}
use Rattle.ccan_ram.specs.History.{events_of, changes_by, last_number, BeginsWith, History}
use Rattle.ccan_ram.specs.HandlerRegisters.{registers_at}
use Rattle.ccan_ram.specs.Picture.{pictured, LostTurns, IsPicture}
use Rattle.ccan_ram.specs.SharedRam.{Memory, terms_of}
use Rattle.ccan_words.specs.declared.view.PortView.{PortView}
use Rattle.ccan_ram.specs.ByPort.{holding}
use Rattle.ccan_words.specs.View.{see, see_all}
use Rattle.ccan_words.specs.Layout.{Form, IsNumber}
use Rattle.ccan_ram.specs.Sound.{IsSound}
use Rattle.ccan_words.specs.Plays.{Knows, GoesOn}
use Rattle.ccan_words.specs.Version.{IsSeatOf}

-- ---- steps

module _ {profile : Profile} {most : ℕ} {contends : ℕ → ℕ → Bool} (F : Form profile most contends) where
  -- a history that goes on was seen (`Plays`), and the number found is that of the last change in it that contends
  pub record CountsOn (k : ℕ) (m : Knows) (found : ℕ) (n : Knows) : Type 0 where
    pub log : History
    pub view : n ≡ (see_all log m.0, m.1)
    pub goes_on : (p : PortName) (x : PortView) → holding p m.0 ≡ Some x → GoesOn profile p x log
    pub found_last : found ≡ last_number contends k log
    pub number : found ≢ 0 → IsNumber most found

  -- such a history was seen, and looks at all objects are its last events
  pub record Poses (p : PortName) (m : Knows) (n : Knows) : Type 0 where
    pub log : History
    pub view : n ≡ (see_all (pictured p (objects_in profile) log ++ log) m.0, m.1)
    pub goes_on : (x : PortView) → holding p m.0 ≡ Some x
        → GoesOn profile p x log × IsSound profile x.quota (pictured p (objects_in profile) log ++ log)

  -- ---- many words

  -- at some point between these two histories this was the number of the last change that contends
  pub record Stood (older newer : History) (k number : ℕ) : Type 0 where
    pub at : History
    pub from : BeginsWith at older
    pub to : BeginsWith newer at
    pub last : number ≡ last_number contends k at
    pub ranged : number ≢ 0 → IsNumber most number

  -- the numbers of the first n objects' words, each as it was at some point after what the port had seen
  pub record Counted (p : PortName) (x : PortView) (n : ℕ) (numbers : List ℕ) (m : Knows) : Type 0 where
    pub log : History
    pub view : IsSeatOf p (see log x) m
    pub goes_on : GoesOn profile p x log
    pub each : (k : ℕ) → k < n → Stood x.seen log (k + 1) (slice_index numbers k)

  -- at some point after what the port had seen, an object's word held another number
  pub record Moved (p : PortName) (x : PortView) (numbers : List ℕ) (m : Knows) : Type 0 where
    pub log : History
    pub view : IsSeatOf p (see log x) m
    pub goes_on : GoesOn profile p x log
    pub k : ℕ
    pub less : k < objects_in profile
    pub now : ℕ
    pub stood : Stood x.seen log (k + 1) now
    pub other : now ≢ slice_index numbers k

  -- the same, of the port of a seat that has seen a sound history
  abbrev pub CountedIn : ℕ → List ℕ → Knows → Knows → Type 0
  CountedIn n numbers old new =
      (p : PortName) (x : PortView) → IsSeatOf p x old → IsSound profile x.quota x.seen → Counted p x n numbers new

  abbrev pub MovedIn : List ℕ → Knows → Knows → Type 0
  MovedIn numbers old new =
      (p : PortName) (x : PortView) → IsSeatOf p x old → IsSound profile x.quota x.seen → Moved p x numbers new

  -- the numbers of the objects' words are those of changes, or 0
  abbrev pub AreNumbers : List ℕ → Type 0
  AreNumbers numbers = (k : ℕ) → k < objects_in profile → slice_index numbers k ≢ 0 → IsNumber most (slice_index numbers k)

  -- if these were the last numbers at some history that a port of the seat has seen, the registers are those of the memory
  -- that it left
  abbrev pub ShowsAll : List ℕ → Knows → HandlerRegisters → Type 0
  ShowsAll numbers m shown =
      (p : PortName) (x : PortView) (log : History) → IsSeatOf p x m → BeginsWith x.seen log → IsSound profile x.quota log
      → ((k : ℕ) → k < objects_in profile → slice_index numbers k ≡ last_number contends (k + 1) log)
      → shown ≡ registers_at profile log

  -- ---- turns

  -- a turn: the looks come right after one history, and another goes on from them, which the port has then seen
  pub record Turned (p : PortName) (x : PortView) (m : Knows) : Type 0 where
    pub at : History
    pub end : History
    pub from : BeginsWith at x.seen
    pub own_from : events_of p at ≡ events_of p x.seen
    pub to : BeginsWith end (pictured p (objects_in profile) at ++ at)
    pub own_to : events_of p end ≡ events_of p (pictured p (objects_in profile) at ++ at)
    pub view : IsSeatOf p (see end x) m
    pub sound : IsSound profile x.quota end
    pub sound_at : IsSound profile x.quota at

  -- it succeeded: these were the numbers of all objects' words at the point of the looks
  pub record Posed (p : PortName) (x : PortView) (numbers : List ℕ) (m : Knows) : Type 0 where
    pub turn : Turned p x m
    pub each : (k : ℕ) → k < objects_in profile → slice_index numbers k ≡ last_number contends (k + 1) turn.at
    pub ranged : AreNumbers numbers

  -- it was lost
  pub record Missed (p : PortName) (x : PortView) (m : Knows) : Type 0 where
    pub turn : Turned p x m
    pub other : PortName
    pub changed : changes_by other x.seen < changes_by other turn.end

  -- the same, of the port of a seat
  abbrev pub TurnsIn : PortName → List ℕ → Bool → Knows → Knows → Type 0
  TurnsIn p numbers true old new =
      (x : PortView) → IsSeatOf p x old → IsSound profile x.quota x.seen → x.quota ≤ most → Posed p x numbers new
  TurnsIn p numbers false old new =
      (x : PortView) → IsSeatOf p x old → IsSound profile x.quota x.seen → x.quota ≤ most → Missed p x new

-- ---- a picture

-- the port added these events, which it has then seen
pub record Added (profile : Profile) (p : PortName) (x : PortView) (added : List Event) (m : Knows) : Type 0 where
  pub view : IsSeatOf p (see (added ++ x.seen) x) m
  pub sound : IsSound profile x.quota (added ++ x.seen)
  pub own : changes_by p (added ++ x.seen) ≡ changes_by p x.seen

-- the port of a seat tried in this many turns, which were lost
abbrev pub TriedIn : (ℕ → ℕ → Bool) → Memory → PortName → ℕ → Knows → Knows → Type 0
TriedIn contends memory p i old new =
    (x : PortView) → IsSeatOf p x old → IsSound memory.profile x.quota x.seen → x.quota ≡ memory.quota
    → (added : List Event) × Added memory.profile p x added new × LostTurns (terms_of contends memory p) i x.seen added

-- the port of a seat made a picture
abbrev pub PicturesIn : (ℕ → ℕ → Bool) → Memory → PortName → HandlerRegisters → Knows → Knows → Type 0
PicturesIn contends memory p shown old new =
    (x : PortView) → IsSeatOf p x old → IsSound memory.profile x.quota x.seen → x.quota ≡ memory.quota
    → (added : List Event) × Added memory.profile p x added new × IsPicture (terms_of contends memory p) shown x.seen added
