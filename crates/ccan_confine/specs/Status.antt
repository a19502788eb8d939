-- The Status register of the controller and its interrupt, over the whole list of what happened to it: C_CAN User's
-- Manual 1.2, "Status Register" and "CAN Control Register" (SIE and EIE). That a group of recessive bits makes nothing
-- pending by itself and that EPass follows the counters in bus off too are this project's own.
use Rattle.std.specs.Prelude.{ℕ, ◌≡◌, ◌≢◌, ◌+◌, ◌^◌, ◌↔◌, Bool, true, false, ◌&&◌, ◌||◌, not, IsTrue, ◌⊎◌, Option, Some, None}
use Rattle.std.specs.Prelude.{unwrap_or, List, ◌∷◌, ◌++◌, slice_get, if◌then◌else◌}
use Rattle.std.specs.List.{list_any, filter_map}
use Rattle.ccan_confine.specs.declared.status_event.StatusEvent.{StatusEvent}
use Rattle.ccan_confine.specs.StatusEvent.{code_of, is_sent, is_received, is_transfer_or_error}
use Rattle.ccan_confine.specs.Counters.{Levels, no_errors, reaches, is_off, passive_limit}

-- from this count of either counter on EWarn is set
abbrev pub warning_limit : ℕ
warning_limit = 96

-- what happens to the register, in a list with the newest first
pub data StatusStep : Type 0 where
  -- an event, with the error counters after it
  Happened : StatusEvent → Levels → StatusStep
  -- SIE and EIE were written
  Enabled : Bool → Bool → StatusStep
  WasRead : StatusStep

-- what the newest step that gives something gives, else a value of the opening
abbrev pub newest : {A : Type 0} → (StatusStep → Option A) → A → List StatusStep → A
newest given opening steps = unwrap_or (slice_get (filter_map given steps) 0) opening

abbrev pub code_given : StatusStep → Option ℕ
code_given (Happened event _) = code_of event
code_given (Enabled _ _) = None
code_given WasRead = None

abbrev pub levels_given : StatusStep → Option Levels
levels_given (Happened _ levels) = Some levels
levels_given (Enabled _ _) = None
levels_given WasRead = None

abbrev pub sie_given : StatusStep → Option Bool
sie_given (Happened _ _) = None
sie_given (Enabled sie _) = Some sie
sie_given WasRead = None

abbrev pub eie_given : StatusStep → Option Bool
eie_given (Happened _ _) = None
eie_given (Enabled _ eie) = Some eie
eie_given WasRead = None

abbrev pub sends : StatusStep → Bool
sends (Happened event _) = is_sent event
sends (Enabled _ _) = false
sends WasRead = false

abbrev pub receives : StatusStep → Bool
receives (Happened event _) = is_received event
receives (Enabled _ _) = false
receives WasRead = false

abbrev pub is_read : StatusStep → Bool
is_read (Happened _ _) = false
is_read (Enabled _ _) = false
is_read WasRead = true

-- TxOk and RxOk: such a frame is in the list; a read leaves them
abbrev pub tx_ok_of : List StatusStep → Bool
tx_ok_of steps = list_any sends steps

abbrev pub rx_ok_of : List StatusStep → Bool
rx_ok_of steps = list_any receives steps

-- LEC: the code of the last event that set one
abbrev pub lec_of : List StatusStep → ℕ
lec_of steps = newest code_given 0 steps

-- SIE and EIE as they were written last
abbrev pub sie_of : List StatusStep → Bool
sie_of steps = newest sie_given false steps

abbrev pub eie_of : List StatusStep → Bool
eie_of steps = newest eie_given false steps

-- BOff and EWarn at the last event
abbrev pub boff_of : List StatusStep → Bool
boff_of steps = is_off (newest levels_given no_errors steps)

abbrev pub ewarn_of : List StatusStep → Bool
ewarn_of steps = reaches warning_limit (newest levels_given no_errors steps)

-- an event changes BOff or EWarn, as they were at the last event before it
abbrev pub ChangesLevel : Levels → List StatusStep → Type 0
ChangesLevel levels earlier = (is_off levels ≢ boff_of earlier) ⊎ (reaches warning_limit levels ≢ ewarn_of earlier)

-- an event makes the status interrupt pending: with SIE a message transfer or a bus error, with EIE a change of BOff
-- or EWarn
abbrev pub IsCause : StatusEvent → Levels → List StatusStep → Type 0
IsCause event levels earlier =
    (IsTrue (sie_of earlier) × IsTrue (is_transfer_or_error event))
    ⊎ (IsTrue (eie_of earlier) × ChangesLevel levels earlier)

-- since the last read there is an event that made the status interrupt pending, as things were before it
pub record IsPending (steps : List StatusStep) : Type 0 where
  pub later : List StatusStep
  pub event : StatusEvent
  pub levels : Levels
  pub earlier : List StatusStep
  pub stands : steps ≡ later ++ Happened event levels ∷ earlier
  pub unread : list_any is_read later ≡ false
  pub cause : IsCause event levels earlier

-- a flag at its place in the word
abbrev pub flag : ℕ → Bool → ℕ
flag place set = if set then 2 ^ place else 0

-- the word: BOff 7, EWarn 6, EPass 5, RxOk 4, TxOk 3, LEC 2 to 0
abbrev pub word_of : Bool → Bool → ℕ → Levels → ℕ
word_of tx_ok rx_ok lec levels =
    flag 7 (is_off levels) + flag 6 (reaches warning_limit levels) + flag 5 (reaches passive_limit levels)
    + flag 4 rx_ok + flag 3 tx_ok + lec

-- the word that a read answers after a list, with the counters as they are then
abbrev pub word_after : List StatusStep → Levels → ℕ
word_after steps levels = word_of (tx_ok_of steps) (rx_ok_of steps) (lec_of steps) levels

-- what the register holds, and what the next event needs beside it
pub record Held : Type 0 where
  pub tx_ok : Bool
  pub rx_ok : Bool
  pub lec : ℕ
  pub sie : Bool
  pub eie : Bool
  -- BOff and EWarn at the last event
  pub boff : Bool
  pub ewarn : Bool
  pub pending : Bool

-- this is held after this list
pub record IsHeldAfter (steps : List StatusStep) (held : Held) : Type 0 where
  pub tx_ok : held.tx_ok ≡ tx_ok_of steps
  pub rx_ok : held.rx_ok ≡ rx_ok_of steps
  pub lec : held.lec ≡ lec_of steps
  pub sie : held.sie ≡ sie_of steps
  pub eie : held.eie ≡ eie_of steps
  pub boff : held.boff ≡ boff_of steps
  pub ewarn : held.ewarn ≡ ewarn_of steps
  pub pending : IsTrue held.pending ↔ IsPending steps

-- after each list that led to what was held before, and this step, the new value is held
abbrev pub AddsStep : StatusStep → Held → Held → Type 0
AddsStep step old new = (steps : List StatusStep) → IsHeldAfter steps old → IsHeldAfter (step ∷ steps) new

-- as the register opens: nothing happened, nothing is enabled
abbrev pub nothing_held : Held
nothing_held =
    record {
      tx_ok = false;
      rx_ok = false;
      lec = 0;
      sie = false;
      eie = false;
      boff = false;
      ewarn = false;
      pending = false;
    }

abbrev pub differ : Bool → Bool → Bool
differ a b = if a then not b else b

-- an event makes the status interrupt pending, when this is held
abbrev pub raises : Held → StatusEvent → Levels → Bool
raises held event levels =
    (held.sie && is_transfer_or_error event)
    || (held.eie && (differ held.boff (is_off levels) || differ held.ewarn (reaches warning_limit levels)))

-- what an event makes of what is held
abbrev pub held_after : StatusEvent → Levels → Held → Held
held_after event levels held =
    record {
      tx_ok = held.tx_ok || is_sent event;
      rx_ok = held.rx_ok || is_received event;
      lec = unwrap_or (code_of event) held.lec;
      sie = held.sie;
      eie = held.eie;
      boff = is_off levels;
      ewarn = reaches warning_limit levels;
      pending = held.pending || raises held event levels;
    }

-- the word of what is held
abbrev pub word_held : Held → Levels → ℕ
word_held held levels = word_of held.tx_ok held.rx_ok held.lec levels
