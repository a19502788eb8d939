-- The meaning of a script in its order: its lines run one after another over a one-thread memory, and its text shows their
-- answers and what they left. Source: this project's own.
use Rattle.std.specs.Prelude.{ℕ, ◌≡◌, List, [], ◌∷◌, ◌++◌, Option, map, unwrap_or}
use Rattle.std.specs.List.{concat, flat_map, range_with_len}
use Rattle.std.specs.Io.KnownBytes.{Appends, Keeps}
use Rattle.ccan_object.specs.declared.record.Record.{Record}
use Rattle.ccan_object.specs.declared.profile.Profile.{Profile}
use Rattle.ccan_object.specs.Profile.{objects_in}
use Rattle.ccan_ram.specs.declared.port.PortName.{PortName}
use Rattle.ccan_ram.specs.declared.port.PortName.TheVariants.{If1, If2, Bus}
use Rattle.ccan_ram.specs.declared.event.Event.{Event}
use Rattle.ccan_ram.specs.declared.ending.Final.{Final}
use Rattle.ccan_ram.specs.Ending.{final_records}
use Rattle.ccan_ram.specs.History.{IsLegal, record_at}
use Rattle.ccan_line.specs.declared.host_line.HostLine.{HostLine}
use Rattle.ccan_line.specs.declared.bus_line.BusLine.{BusLine}
use Rattle.ccan_line.specs.declared.line_answer.LineAnswer.{LineAnswer}
use Rattle.ccan_line.specs.Script.{ScriptFields}
use Rattle.ccan_script.specs.Print.{line_text, final_line}
use Rattle.ccan_run.specs.declared.run_error.RunError.{RunError}
use Rattle.ccan_run.specs.declared.run_error.RunError.TheVariants.{Memory, Write}
use Rattle.ccan_line.specs.Lines.{Run}
use Rattle.ccan_line.specs.Turn.{PortLine, of_if1, of_if2, of_bus, PortLineMeans, opening, terms_of}
use Rattle.ccan_run.specs.Output.{WritesPart}

-- ---- the lines in their order

-- the lines of the three ports in an order: each name takes that port's next line
abbrev pub joined : List PortName → List HostLine → List HostLine → List BusLine → List PortLine
joined [] if1 if2 bus = []
joined (If1 ∷ order) [] if2 bus = joined order [] if2 bus
joined (If1 ∷ order) (line ∷ if1) if2 bus = of_if1 line ∷ joined order if1 if2 bus
joined (If2 ∷ order) if1 [] bus = joined order if1 [] bus
joined (If2 ∷ order) if1 (line ∷ if2) bus = of_if2 line ∷ joined order if1 if2 bus
joined (Bus ∷ order) if1 if2 [] = joined order if1 if2 []
joined (Bus ∷ order) if1 if2 (line ∷ bus) = of_bus line ∷ joined order if1 if2 bus

abbrev pub lines_of : ScriptFields → List PortLine
lines_of script = joined script.order script.if1 script.if2 script.bus

-- the lines of a script in its order stand for this history, with these answers
abbrev pub LinesRun : ScriptFields → List Event → List (PortName × LineAnswer) → Type 0
LinesRun script history answers =
    Run (PortLineMeans (terms_of script) script.tries) (opening script.nodes) (lines_of script) [] history answers

-- and the history is legal
pub record RunsInOrder (script : ScriptFields) (history : List Event) (answers : List (PortName × LineAnswer)) : Type 0 where
  pub legal : IsLegal script.profile history
  pub lines : LinesRun script history answers

-- the lines have run in their order with these answers, and this is what they left
pub record RunsTo (script : ScriptFields) (answers : List (PortName × LineAnswer)) (final : Final) : Type 0 where
  pub history : List Event
  pub runs : RunsInOrder script history answers
  pub profile_is : final.profile ≡ script.profile
  pub left : final.records ≡ final_records script.profile history

-- ---- the text of a script

-- a line for each answer
unfoldable pub answers_text : List (PortName × LineAnswer) → List ℕ
answers_text answers = flat_map (λ reply. line_text reply.0 reply.1) answers

-- the line of an object, if it has one
unfoldable pub final_part : ℕ → Record → List ℕ
final_part object r = unwrap_or (final_line object r) []

-- the lines of this many objects from object 1 on, with their records after the history
unfoldable pub final_parts : List Event → ℕ → List ℕ
final_parts history count = concat (map (λ object. final_part object (record_at object history)) (range_with_len 1 count))

-- the lines of all objects
abbrev pub finals_text : Profile → List Event → List ℕ
finals_text profile history = final_parts history (objects_in profile)

-- a text of a script: the answers to its lines in their order, and then what their history leaves in the objects
pub record HasText (script : ScriptFields) (text : List ℕ) : Type 0 where
  pub history : List Event
  pub answers : List (PortName × LineAnswer)
  pub runs : RunsInOrder script history answers
  pub is : text ≡ answers_text answers ++ finals_text script.profile history

-- ---- what a run writes

-- the script's text was written
pub record Prints (script : ScriptFields) (old new : Option (List ℕ)) : Type 0 where
  pub text : List ℕ
  pub has_text : HasText script text
  pub written : Appends old new text

-- a prefix of the script's text was written, and not all of it
pub record PrintsPart (script : ScriptFields) (old new : Option (List ℕ)) : Type 0 where
  pub text : List ℕ
  pub has_text : HasText script text
  pub written : WritesPart old new text

-- a run stops if memory runs out, before it writes anything, or if a write fails
abbrev pub StopsRun : ScriptFields → Option (List ℕ) → Option (List ℕ) → RunError → Type 0
StopsRun script old new Memory = Keeps old new
StopsRun script old new Write = PrintsPart script old new
StopsRun script old new _ = ⊥
