-- Laws of what scripts mean. Source: this project's own.
use Rattle.std.specs.Prelude.{◌≡◌, ◌≤◌, ℕ, Bool, List, All, Option}
use Rattle.std.specs.Io.KnownBytes.{Appends}
use Rattle.ccan_ram.specs.declared.port.PortName.{PortName}
use Rattle.ccan_ram.specs.declared.ending.Final.{Final}
use Rattle.ccan_ram.specs.declared.event.Event.{Event}
use Rattle.ccan_ram.specs.Ending.{final_records}
use Rattle.ccan_bus.specs.declared.answer.LoadAnswer.TheVariants as load
use Rattle.ccan_bus.specs.declared.answer.RoundAnswer.TheVariants as round
use Rattle.ccan_line.specs.declared.line_answer.LineAnswer.{LineAnswer}
use Rattle.ccan_line.specs.declared.line_answer.LineAnswer.TheVariants.{Busy, Load, Round}
use Rattle.ccan_line.specs.Script.{ScriptFields}
use Rattle.ccan_run.specs.declared.outcome.Outcome.{Outcome}
use Rattle.ccan_run.specs.Ordered.{LinesRun, HasText, Prints, finals_text}
use Rattle.ccan_run.specs.Threads.{RunsAtOnce}
use Rattle.ccan_run.specs.Answered.{IsAnsweredBy}
use Rattle.ccan_run.specs.Outcome.{last_lines}

abbrev pub IsNotBusy : LineAnswer → Type 0
IsNotBusy (Busy object) = ⊥
IsNotBusy (Load (load.Busy object)) = ⊥
IsNotBusy (Round (round.Busy object)) = ⊥
IsNotBusy answer = Unit {0}

-- a script has at most one text: nothing about a run is left open
abbrev pub HasOneText : Type 0
HasOneText =
    (script : ScriptFields) (text other : List ℕ) → 1 ≤ script.tries → HasText script text → HasText script other
    → text ≡ other

-- and what a run that ended well has written is a text of the script, which has no other
abbrev pub WhatWasPrintedIsTheText : Type 0
WhatWasPrintedIsTheText =
    (script : ScriptFields) (old new : Option (List ℕ)) → 1 ≤ script.tries → Prints script old new
    → (text : List ℕ) × HasText script text × Appends old new text × ((other : List ℕ) → HasText script other → other ≡ text)

-- over a one-thread memory no line is busy, be it a transfer, a load or a round
abbrev pub HasNoBusyLine : Type 0
HasNoBusyLine =
    (script : ScriptFields) (history : List Event) (answers : List (PortName × LineAnswer))
    → 1 ≤ script.tries → LinesRun script history answers → All (λ reply. IsNotBusy reply.1) answers

-- whatever a run without an order comes to, the history by which it is one shows each of its answers by steps of that
-- answer's own. Any history by which it is one will do
abbrev pub AnswersHaveEvents : Type 0
AnswersHaveEvents =
    (contends : ℕ → ℕ → Bool) (script : ScriptFields) (outcome : Outcome)
    (run : RunsAtOnce contends script outcome) → IsAnsweredBy script outcome run.history

-- the lines of the objects that a shared memory had as it was closed are those of an ordered run of the same history
abbrev pub LastLinesAreFinals : Type 0
LastLinesAreFinals =
    (last : Final) (history : List Event) → last.records ≡ final_records last.profile history
    → last_lines last ≡ finals_text last.profile history
