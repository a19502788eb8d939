-- The rule of the shared words: what is true of them, and of what each seat knows, between any two steps of the three
-- ports. No program stores the history; it is there for the proofs. Source: this project's own. That the steps come one
-- after another in one order, each of them sequentially consistent, is a promise of the kit's `atomic_table` (its README,
-- "Limits" and "What is proved").
use Rattle.std.specs.Prelude.{◌≡◌, ◌≢◌, ℕ, ◌<◌, ◌≤◌, Bool, List, length, slice_index, Some}
use mathlib.Core.Option.{some}
use lib.ListN.{get_elem?}
use Rattle.atomic_table.specs.Table.{State}
use Rattle.ccan_object.specs.declared.profile.Profile.{Profile}
use Rattle.ccan_object.specs.Profile.{Holds}
use Rattle.ccan_ram.specs.declared.port.PortName.{PortName}
use Rattle.ccan_ram.specs.History.{events_of, changes_by, next_number, last_number, BeginsWith, History}
use Rattle.ccan_words.specs.declared.view.PortView.{PortView}
use Rattle.ccan_words.specs.View.{View}
use Rattle.ccan_ram.specs.ByPort.{holding}
use Rattle.ccan_words.specs.Layout.{Form, IsChangeFor, IsBlankFor, AgreeFor}
use Rattle.ccan_ram.specs.Sound.{IsSound, Stands}

module _ {profile : Profile} {most : ℕ} {contends : ℕ → ℕ → Bool} (F : Form profile most contends) where
  -- the word of each object holds the number of the last change in the history that contends there, 0 if there is none
  abbrev pub Heads : List ℕ → History → Type 0
  Heads words log = (k : ℕ) → Holds profile k → slice_index words (F.cell k) ≡ last_number contends k log

  -- the words of each version whose change is in the history are those that the change made
  abbrev pub Versions : List ℕ → History → Type 0
  Versions words log =
      (n j : ℕ) (at : History) → Stands log n at → j < F.width → slice_index words (F.place n j) ≡ slice_index (F.content at) j

  -- what is true of a port that a seat holds
  pub record Fits (words : List ℕ) (log : History) (p : PortName) (x : PortView) : Type 0 where
    -- what the port has seen is a beginning of the history
    pub part : BeginsWith log x.seen
    -- and has all of the port's events
    pub own : events_of p log ≡ events_of p x.seen
    -- the port's note is the first words of its next version, which is not published
    pub short : length x.note ≤ F.width
    pub note : changes_by p log < most → (j : ℕ) → j < length x.note
        → slice_index words (F.place (next_number p log) j) ≡ slice_index x.note j

  -- the rule
  pub record Keeps {S : Type 0} (s : State S View) : Type 0 where
    -- there is one legal history, in which each port made its changes under its numbers, without a gap
    pub log : History
    pub quota : ℕ
    pub top : quota ≤ most
    pub sound : IsSound profile quota log
    pub wide : length s.words ≡ F.size
    pub heads : Heads s.words log
    pub versions : Versions s.words log
    pub seats : (i : ℕ) (p : PortName) (v : View) (x : PortView) → get_elem? s.views i ≡ some v → holding p v ≡ Some x
        → Fits s.words log p x
    pub one_quota : (i : ℕ) (p : PortName) (v : View) (x : PortView) → get_elem? s.views i ≡ some v → holding p v ≡ Some x
        → x.quota ≡ quota
    -- no two seats hold the same port
    pub apart : (i j : ℕ) (p : PortName) (v w : View) (x y : PortView) → get_elem? s.views i ≡ some v
        → get_elem? s.views j ≡ some w
        → holding p v ≡ Some x → holding p w ≡ Some y → i ≡ j

  -- the words at the end are those that the history leaves
  pub record Settles (words : List ℕ) (log : History) : Type 0 where
    pub sound : IsSound profile most log
    pub wide : length words ≡ F.size
    pub heads : Heads words log
    pub versions : Versions words log

-- what the number of the last change that contends says of the records of the objects that share the word: at 0 nobody
-- wrote them, and else they are those that this change left
pub record Latest (contends : ℕ → ℕ → Bool) (k n : ℕ) (h : History) : Type 0 where
  pub none : n ≡ 0 → IsBlankFor contends k h
  pub some : n ≢ 0 → (at : History) × Stands h n at × IsChangeFor contends k at × AgreeFor contends k at h
