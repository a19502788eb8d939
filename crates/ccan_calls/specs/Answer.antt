-- What C gets from a call: a code, and what the call gives. Source: this project's own.
use Rattle.std.specs.Prelude.{ℕ, ◌≡◌, Option, Some, Ok}
use Rattle.ccan_process.specs.Process.{Ended}
use Rattle.ccan_endless.specs.Chip.{ChipHistory}
use Rattle.ccan_endless.specs.Note.{Told}
use Rattle.ccan_c.specs.declared.shown_counters.ShownCounters.{ShownCounters}
use Rattle.ccan_c.specs.declared.shown_finished.ShownFinished.{ShownFinished}
use Rattle.ccan_c.specs.declared.shown_load.ShownLoad.{ShownLoad}
use Rattle.ccan_c.specs.declared.shown_member.ShownMember.{ShownMember}
use Rattle.ccan_c.specs.declared.shown_outcome.ShownOutcome.{ShownOutcome}
use Rattle.ccan_c.specs.declared.shown_record.ShownRecord.{ShownRecord}
use Rattle.ccan_c.specs.Note.{TellsOf}
use Rattle.ccan_calls.specs.Process.{Process}
use Rattle.ccan_calls.specs.ReadProcess.{Word}

-- what a call gives, if it gives something
pub data Given : Type 0 where
  Nothing : Given
  Number : (value : ℕ) → Given
  Shown : (shown : ShownRecord) → Given
  Counters : (shown : ShownCounters) → Given
  Loading : (shown : ShownLoad) → Given
  Outcome : (shown : ShownOutcome) → Given
  Member : (shown : ShownMember) → Given
  Finished : (shown : ShownFinished) → Given
  -- a note that says this
  Noted : (seen : ChipHistory) → Given

-- what C gets: a code, and what the call gives
pub record Answer : Type 0 where
  pub code : ℕ
  pub given : Given

-- what stands in the place for the result after a call, or in the note
pub data Place : Type 0 where
  NoPlace : Place
  NumberAt : (out : ℕ) → Place
  RecordAt : (out : ShownRecord) → Place
  CountersAt : (out : ShownCounters) → Place
  LoadingAt : (out : ShownLoad) → Place
  OutcomeAt : (out : ShownOutcome) → Place
  MemberAt : (out : ShownMember) → Place
  FinishedAt : (out : ShownFinished) → Place
  NoteAt : (note : Option Told) → Place

-- what was given stands there; if nothing was, anything may stand there
abbrev pub IsIn : Given → Place → Type 0
IsIn Nothing place = Unit {0}
IsIn (Number value) (NumberAt out) = out ≡ value
IsIn (Shown shown) (RecordAt out) = out ≡ shown
IsIn (Counters shown) (CountersAt out) = out ≡ shown
IsIn (Loading shown) (LoadingAt out) = out ≡ shown
IsIn (Outcome shown) (OutcomeAt out) = out ≡ shown
IsIn (Member shown) (MemberAt out) = out ≡ shown
IsIn (Finished shown) (FinishedAt out) = out ≡ shown
IsIn (Noted seen) (NoteAt note) = TellsOf note seen
IsIn given place = ⊥

-- a call that got this code, with this in the place for the result, got this answer
pub record IsAnswered (code : ℕ) (place : Place) (answer : Answer) : Type 0 where
  pub code_is : code ≡ answer.code
  pub given_is : IsIn answer.given place

-- how a call ends: with an answer, and what it leaves of what the handle has of its own
abbrev pub CallEnd : Type 0 → Type 0
CallEnd State = Answer × State

abbrev pub CallProcess : Type 0 → Type 0
CallProcess State = Process (CallEnd State)

abbrev pub end_of : {State : Type 0} → ℕ → Given → State → CallEnd State
end_of code given left = (record { code = code; given = given }, left)

-- the numbers of the call are refused, and nothing happens
abbrev pub refuses : {State : Type 0} → ℕ → State → CallProcess State
refuses code own = Ended (end_of code Nothing own)

-- what a read writes into the place for its result
abbrev pub word_given : Option Word → Given
word_given (Some (Ok word)) = Number word
word_given told = Nothing
