-- What a step says of the line that it reports, besides the line's answer: the report of a round, the objects that the line
-- concerns, with their records before the line and after it, and which nodes were bus off as it began. Source: this project's
-- own, over the definitions of lines, of rounds and of histories.
use Rattle.std.specs.Prelude.{ℕ, ◌≡◌, ◌≤◌, List, ◌++◌, slice_get, slice_index_or, Option, Some, None, Bool, IsNone}
use Rattle.ccan_object.specs.declared.record.Record.{Record}
use Rattle.ccan_object.specs.Record.{zero_record}
use Rattle.ccan_ram.specs.declared.port.PortName.{PortName}
use Rattle.ccan_ram.specs.declared.port.PortName.TheVariants as port
use Rattle.ccan_ram.specs.declared.event.Event.{Event}
use Rattle.ccan_ram.specs.History.{record_at}
use Rattle.ccan_ram.specs.Terms.{Terms}
use Rattle.ccan_confine.specs.Counters.{is_off}
use Rattle.ccan_bus.specs.declared.answer.LoadAnswer.{LoadAnswer}
use Rattle.ccan_bus.specs.declared.answer.LoadAnswer.TheVariants as load
use Rattle.ccan_bus.specs.declared.answer.RoundAnswer.{RoundAnswer}
use Rattle.ccan_bus.specs.declared.answer.RoundAnswer.TheVariants as round
use Rattle.ccan_bus.specs.declared.round_report.RoundReport.{RoundReport}
use Rattle.ccan_bus.specs.Past.{BusPast, levels_at}
use Rattle.ccan_line.specs.declared.line_answer.LineAnswer.{LineAnswer}
use Rattle.ccan_line.specs.declared.line_answer.LineAnswer.TheVariants as answer
use Rattle.ccan_line.specs.Script.{ScriptFields}
use Rattle.ccan_line.specs.Turn.{PortLine, of_if1, of_if2, of_bus, Three, PortLineMeans, terms_of}
use Rattle.ccan_explain.specs.declared.step.Step.{Step}
use Rattle.ccan_explain.specs.declared.step.Touched.{Touched}
use Rattle.ccan_explain.specs.Reported.{HasReport}

-- the object that a load was about: what is loaded, or what could not be
abbrev pub object_loaded : LoadAnswer → Option ℕ
object_loaded (load.Loaded object _) = Some object
object_loaded (load.Held object) = Some object
object_loaded (load.Busy object) = Some object
object_loaded (load.Spent object) = Some object
object_loaded load.Nothing = None

-- the object that an answer names
abbrev pub object_named : LineAnswer → Option ℕ
object_named (answer.Write object _) = Some object
object_named (answer.Read object _) = Some object
object_named (answer.Busy object) = Some object
object_named (answer.Spent object) = Some object
object_named (answer.Until object _ _) = Some object
object_named (answer.Load loading) = object_loaded loading
object_named other = None

-- the object that the controller was about to send in a round, or else the one that the answer names
abbrev pub own_object : Option RoundReport → LineAnswer → Option ℕ
own_object (Some report) reply = object_loaded report.loading
own_object None reply = object_named reply

-- the object that stored the frame of a round
abbrev pub object_storing : RoundAnswer → Option ℕ
object_storing (round.Received (Some stored)) = Some stored.0
object_storing (round.Looped _ _ (Some stored)) = Some stored.0
object_storing (round.Received None) = None
object_storing (round.Looped _ _ None) = None
object_storing round.Idle = None
object_storing (round.Sent _ _) = None
object_storing round.Passed = None
object_storing round.Collision = None
object_storing round.NoAck = None
object_storing round.Fault = None
object_storing (round.Busy _) = None
object_storing (round.Spent _) = None

abbrev pub stored_object : LineAnswer → Option ℕ
stored_object (answer.Round ended) = object_storing ended
stored_object _ = None

-- an object with its records, by what each object holds before and after
abbrev pub touched_of : (ℕ → Record) → (ℕ → Record) → Option ℕ → Option Touched
touched_of before after None = None
touched_of before after (Some object) =
    Some (record { object = object; before = before object; after = after object })

-- the record at the place of an object, by its number, and zero if there is none
abbrev pub at_number : List Record → ℕ → Record
at_number records object = slice_index_or records object zero_record

-- the line of this number, from 0, among those of a port
abbrev pub IsLineAt : ScriptFields → PortName → ℕ → PortLine → Type 0
IsLineAt script port.If1 number (of_if1 line) = slice_get script.if1 number ≡ Some line
IsLineAt script port.If2 number (of_if2 line) = slice_get script.if2 number ≡ Some line
IsLineAt script port.Bus number (of_bus line) = slice_get script.bus number ≡ Some line
IsLineAt script _ number _ = ⊥

-- a line of the bus has the report of its round; no other line has one
abbrev pub ReportsTurn : (PortName → Terms) → ℕ → PortLine → Three → List Event → List Event → LineAnswer
    → Option RoundReport → Three → Type 0
ReportsTurn terms tries (of_if1 line) three seen added reply report left = IsNone report
ReportsTurn terms tries (of_if2 line) three seen added reply report left = IsNone report
ReportsTurn terms tries (of_bus line) three seen added reply report left =
    HasReport (terms port.Bus) tries line three.bus seen added reply report left.bus

-- whether each node was bus off
abbrev pub AreOff : BusPast → List Bool → Type 0
AreOff past off = (node : ℕ) → node ≤ past.others → slice_get off node ≡ Some (is_off (levels_at past node))

-- a step reports this line, which stands for the added events after those that were seen: its number, its answer, its report, and
-- the records as these histories leave them
pub record TellsLine (script : ScriptFields) (line : PortLine) (three : Three) (seen added : List Event) (step : Step)
    (left : Three) : Type 0 where
  pub numbered : IsLineAt script step.port step.line line
  pub means : PortLineMeans (terms_of script) script.tries line three seen added (step.port, step.answer) left
  pub report : ReportsTurn (terms_of script) script.tries line three seen added step.answer step.report left
  pub own : step.own ≡ touched_of (λ object. record_at object seen) (λ object. record_at object (added ++ seen))
      (own_object step.report step.answer)
  pub stored : step.stored ≡ touched_of (λ object. record_at object seen) (λ object. record_at object (added ++ seen))
      (stored_object step.answer)
  pub off : AreOff three.bus step.off
