-- Turns of three ports over a plain memory, one after another: the lines so far stand for what the memory has seen.
use Rattle.std.proofs.Common.{ℕ, ◌≡◌, ◌+◌, length, arith, List, [], ◌∷◌, ◌++◌, refl, sym, ap, subst, ◌∙◌, append_assoc, append-nil}
use Rattle.std.proofs.lemmas.List.{map-append}
use Rattle.ccan_ram.specs.declared.port.PortName.{PortName}
use Rattle.ccan_ram.specs.declared.port.PortName.TheVariants.{If1, If2, Bus}
use Rattle.ccan_ram.specs.declared.event.Event.{Event}
use Rattle.ccan_ram.specs.Access.{Passes, SeesLegal}
use Rattle.ccan_ram.specs.History.{IsLegal}
use Rattle.ccan_line.specs.declared.line_answer.LineAnswer.{LineAnswer}
use Rattle.ccan_line.specs.declared.script.Script.{Script}
use Rattle.ccan_line.specs.Script.{ScriptFields, fields_of}
use Rattle.ccan_line.specs.Order.{times}
use Rattle.ccan_line.specs.Port.{count_of}
use Rattle.ccan_line.specs.Lines.{LinesMean}
use Rattle.ccan_line.specs.Turn.{PortLine, of_if1, of_if2, of_bus, Three, opening, PortLineMeans, terms_of}
use Rattle.ccan_run.specs.Ordered.{lines_of}
use Rattle.ccan_line.proofs.Rows.{LinesMean-push}
use Rattle.ccan_explain.specs.declared.bench.Bench.{Bench}
use Rattle.ccan_explain.specs.Bench.{next_of, rest, HaveLedTo, TakesStep}
use Rattle.ccan_explain.specs.declared.step.Step.{Step}
use Rattle.ccan_explain.specs.Step.{IsLineAt, TellsLine}
use Rattle.ccan_explain.specs.Told.{AreStepsOf, IsOrderOf, answers_of, in_order}

pub record SoFar (memory : Passes) (script : ScriptFields) (bench : Bench) (order : List PortName)
    (steps : List Step) : Type 0 where
  pub three : Three
  pub done : List PortLine
  pub history : List Event
  pub led : HaveLedTo three bench
  pub whole : lines_of script ≡ done ++ rest script bench order
  pub seen : memory.has_seen history
  pub ran : LinesMean (PortLineMeans (terms_of script) script.tries) done (opening script.nodes) [] history (answers_of steps)
      three
  pub tell : LinesMean (TellsLine script) done (opening script.nodes) [] history steps three

-- one more step has one more answer
answers_more : (steps more : List Step) (step : Step) → more ≡ steps ++ step ∷ []
    → answers_of more ≡ answers_of steps ++ (step.port, step.answer) ∷ []
answers_more steps more step is =
    let f : Step → PortName × LineAnswer = λ s. (s.port, s.answer) in ap answers_of is ∙ map-append f steps (step ∷ [])

module _ (script : ScriptFields) where
  pub so_far_none : (memory : Passes) (bench : Bench) (order : List PortName) (steps : List Step)
      → memory.has_seen [] → HaveLedTo (opening script.nodes) bench → bench.next_if1 ≡ 0 → bench.next_if2 ≡ 0
      → bench.next_bus ≡ 0 → order ≡ script.order → steps ≡ [] → SoFar memory script bench order steps
  so_far_none memory bench order steps seen led if1 if2 bus all none = record {
    three = opening script.nodes;
    done = [];
    history = [];
    led = led;
    whole = rw (if1, if2, bus, all) refl;
    seen = seen;
    ran = (refl, ap answers_of none, refl);
    tell = (refl, none, refl);
  }

  module _ (before after : Passes) (old new : Bench) (step : Step) (order : List PortName) (steps : List Step)
      (s : SoFar before script old order steps) (turn : TakesStep before after script old new step) where
    pub so_far_more : (later : List PortName) (steps' : List Step) → order ≡ step.port ∷ later
        → steps' ≡ steps ++ step ∷ [] → SoFar after script new later steps'
    so_far_more later steps' is more =
        let means = PortLineMeans (terms_of script) script.tries in
        let each = turn.each s.three s.history s.led s.seen in
        let here = subst (λ (es : List Event). TellsLine script turn.line s.three es each.0 step each.1)
        (sym (append-nil s.history)) each.4 in
        record {
          three = each.1;
          done = s.done ++ turn.line ∷ [];
          history = each.0 ++ s.history;
          led = each.3;
          whole = s.whole ∙ ap (λ names. s.done ++ rest script old names) is ∙ ap (λ ls. s.done ++ ls) (turn.next later)
              ∙ sym (append_assoc s.done (turn.line ∷ []) (rest script new later));
          seen = each.2;
          ran = rw (answers_more steps steps' step more)
              (LinesMean-push means s.done turn.line (opening script.nodes) s.three each.1 [] s.history each.0
              (answers_of steps) (step.port, step.answer) s.ran here.means);
          tell = rw more
              (LinesMean-push (TellsLine script) s.done turn.line (opening script.nodes) s.three each.1 [] s.history each.0
              steps step s.tell here);
        }

  -- where no turn is left, all lines have run
  pub all_ran : (memory : Passes) (bench : Bench) (order : List PortName) (steps : List Step)
      → order ≡ [] → SoFar memory script bench order steps → SeesLegal memory → memory.terms.profile ≡ script.profile
      → AreStepsOf script steps memory
  all_ran memory bench order steps is s legal profile =
      let lines : lines_of script ≡ s.done = s.whole ∙ ap (λ names. s.done ++ rest script bench names) is ∙ append-nil s.done in
      let means = PortLineMeans (terms_of script) script.tries in
      let start = opening script.nodes in
      record {
        history = s.history;
        runs = record {
          legal = subst (λ p. IsLegal p s.history) profile (legal s.history s.seen);
          lines = (
            s.three,
            subst (λ (ls : List PortLine). LinesMean means ls start [] s.history (answers_of steps) s.three) (sym lines) s.ran,
          );
        };
        tell = (
          s.three,
          subst (λ (ls : List PortLine). LinesMean (TellsLine script) ls start [] s.history steps s.three) (sym lines) s.tell,
        );
        seen = s.seen;
      }

-- the lines of a port are the same in any order
IsLineAt-in : (script : ScriptFields) (order : List PortName) (port : PortName) (number : ℕ) (line : PortLine)
    → IsLineAt script port number line → IsLineAt (in_order script order) port number line
IsLineAt-in script order If1 number (of_if1 line) h = h
IsLineAt-in script order If1 number (of_if2 line) h = h
IsLineAt-in script order If1 number (of_bus line) h = h
IsLineAt-in script order If2 number (of_if1 line) h = h
IsLineAt-in script order If2 number (of_if2 line) h = h
IsLineAt-in script order If2 number (of_bus line) h = h
IsLineAt-in script order Bus number (of_if1 line) h = h
IsLineAt-in script order Bus number (of_if2 line) h = h
IsLineAt-in script order Bus number (of_bus line) h = h

-- before the first turn all lines are left
pub all_left : (script : ScriptFields) (bench : Bench) → ((port : PortName) → next_of bench port ≡ 0)
    → times If1 script.order ≡ length script.if1 → times If2 script.order ≡ length script.if2
    → times Bus script.order ≡ length script.bus
    → (name : PortName) → next_of bench name + times name script.order ≡ count_of script name
all_left script bench none if1 if2 bus If1 = omega (arith, none If1, if1)
all_left script bench none if1 if2 bus If2 = omega (arith, none If2, if2)
all_left script bench none if1 if2 bus Bus = omega (arith, none Bus, bus)

-- a step doesn't ask for the script's order
pub step_in : (before after : Passes) (script : ScriptFields) (order : List PortName) (old new : Bench) (step : Step)
    → TakesStep before after script old new step → TakesStep before after (in_order script order) old new step
step_in before after script order old new step t = record {
  line = t.line;
  next = t.next;
  each = λ three seen led was.
      let each = t.each three seen led was in
      let tells = each.4 in (
        each.0,
        each.1,
        each.2,
        each.3,
        record {
          numbered = IsLineAt-in script order step.port step.line t.line tells.numbered;
          means = tells.means;
          report = tells.report;
          own = tells.own;
          stored = tells.stored;
          off = tells.off;
        },
      );
}

-- a script's own order names each port as often as it has lines
pub own_order : (script : Script) → IsOrderOf (fields_of script) script.order.items
own_order script If1 = script.if1_times
own_order script If2 = script.if2_times
own_order script Bus = script.bus_times
