-- The text of a run is what was printed, and an order has as many names as its ports have lines.
use Rattle.std.proofs.Common.{◌≡◌, ◌+◌, ℕ, List, [], ◌∷◌, ◌++◌, Option, Result, Ok, Err, length, cond, refl, ap, sym, subst, ◌∙◌, arith}
use Rattle.std.proofs.lemmas.List.Sums.{sum_by-cons}
use Rattle.std.specs.Io.KnownBytes.{Appends}
use Rattle.std.specs.Prelude.{IfErr, OnErr}
use Rattle.ccan_ram.specs.declared.ending.Final.{Final}
use Rattle.ccan_ram.specs.declared.port.PortName.{PortName}
use Rattle.ccan_ram.specs.declared.port.PortName.TheVariants.{If1, If2, Bus}
use Rattle.ccan_ram.specs.Port.{same_port}
use Rattle.ccan_ram.specs.Ending.{final_records}
use Rattle.ccan_line.specs.declared.line_answer.LineAnswer.{LineAnswer}
use Rattle.ccan_line.specs.Script.{ScriptFields}
use Rattle.ccan_line.specs.Order.{times}
use Rattle.ccan_run.specs.declared.run_error.RunError.{RunError}
use Rattle.ccan_run.specs.declared.run_error.RunError.TheVariants.{Write}
use Rattle.ccan_run.specs.Ordered.{HasText, Prints, RunsTo, StopsRun, answers_text, finals_text}
use Rattle.ccan_run.specs.Outcome.{last_lines}
use Rattle.ccan_run.specs.Output.{WritesPart}
use Rattle.ccan_run.proofs.OutcomeLines.{last_lines_are}

one_of_three : (port : PortName)
    → cond (same_port If1 port) 1 0 + cond (same_port If2 port) 1 0 + cond (same_port Bus port) 1 0 ≡ 1
one_of_three If1 = refl
one_of_three If2 = refl
one_of_three Bus = refl

times_more : (name port : PortName) (order : List PortName)
    → times name (port ∷ order) ≡ cond (same_port name port) 1 0 + times name order
times_more name port order = sum_by-cons (λ p. cond (same_port name p) 1 0) port order

-- an order has as many names as the ports have together
pub names_of_all : (order : List PortName) → length order ≡ times If1 order + times If2 order + times Bus order
names_of_all [] = refl
names_of_all (port ∷ order) =
    omega (
      arith,
      names_of_all order,
      one_of_three port,
      times_more If1 port order,
      times_more If2 port order,
      times_more Bus port order,
    )

-- ---- the text of a run

-- what the lines left has the lines of their history
pub whole_text : (script : ScriptFields) (answers : List (PortName × LineAnswer)) (left : Final) → RunsTo script answers left
    → HasText script (answers_text answers ++ last_lines left)
whole_text script answers left ran = record {
  history = ran.history;
  answers = answers;
  runs = ran.runs;
  is = ap (λ (t : List ℕ). answers_text answers ++ t)
      (last_lines_are left ran.history (ran.left ∙ ap (λ p. final_records p ran.history) (sym ran.profile_is))
      ∙ ap (λ p. finals_text p ran.history) ran.profile_is);
}

module _ (script : ScriptFields) (old new : Option (List ℕ)) (text : List ℕ) (whole : HasText script text) where
  pub prints_text : Appends old new text → Prints script old new
  prints_text written = record { text = text; has_text = whole; written = written }

  -- a print that broke off has written a part of the text
  pub prints_part : (result : Result (Unit {0}) RunError) → IfErr result (λ e. e ≡ Write)
      → OnErr result (WritesPart old new text)
      → IfErr result (StopsRun script old new)
  prints_part (Ok value) is part = tt
  prints_part (Err why) is part =
      subst (StopsRun script old new) (sym is) (record { text = text; has_text = whole; written = part })
