-- A turn, as its step tells it.
use Rattle.std.proofs.Common.{ℕ, ◌≡◌, List, ◌++◌, Bool, sym, subst, ◌∙◌, Option}
use Rattle.ccan_object.specs.declared.record.Record.{Record}
use Rattle.ccan_ram.specs.declared.port.PortName.{PortName}
use Rattle.ccan_ram.specs.Access.{Passes}
use Rattle.ccan_ram.specs.Array.{Leaves}
use Rattle.ccan_ram.specs.History.{record_at}
use Rattle.ccan_bus.specs.declared.round_report.RoundReport.{RoundReport}
use Rattle.ccan_bus.specs.Bus.{LedTo}
use Rattle.ccan_bus.specs.Past.{BusPast}
use Rattle.ccan_line.specs.declared.line_answer.LineAnswer.{LineAnswer}
use Rattle.ccan_line.specs.Script.{ScriptFields}
use Rattle.ccan_explain.specs.declared.bench.Bench.{Bench}
use Rattle.ccan_explain.specs.declared.step.Touched.{Touched}
use Rattle.ccan_explain.specs.Bench.{TakesStep, TakesTurn, next_of}
use Rattle.ccan_explain.specs.Step.{AreOff, IsLineAt, at_number, own_object, stored_object, touched_of}
use Rattle.ccan_explain.proofs.StepRecords.{touched_same}

pub step_taken : (before after : Passes) (script : ScriptFields) (old new : Bench) (port : PortName) (line : ℕ)
    (reply : LineAnswer) (report : Option RoundReport) (off : List Bool) (own stored : Option Touched) (first last : List Record)
    → TakesTurn before after script old new port reply report
    → ((object : ℕ) → Leaves before object (at_number first object))
    → ((object : ℕ) → Leaves after object (at_number last object))
    → ((past : BusPast) → LedTo past old.bus → AreOff past off)
    → line ≡ next_of old port
    → own ≡ touched_of (at_number first) (at_number last) (own_object report reply)
    → stored ≡ touched_of (at_number first) (at_number last) (stored_object reply)
    → TakesStep before after script old new
    (record { port = port; line = line; answer = reply; report = report; off = off; own = own; stored = stored })
step_taken before after script old new port line reply report off own stored first last turn was is offs at own_is stored_is =
    record {
      line = turn.line;
      next = turn.next;
      each = λ three seen led saw.
          let each = turn.each three seen led saw in
          let same = touched_same (at_number first) (at_number last) (λ object. record_at object seen)
          (λ object. record_at object (each.0 ++ seen)) in
          let left : (object : ℕ) → at_number first object ≡ record_at object seen = λ object. was object seen saw in
          let then : (object : ℕ) → at_number last object ≡ record_at object (each.0 ++ seen) =
          λ object. is object (each.0 ++ seen) each.2 in (
            each.0,
            each.1,
            each.2,
            each.3,
            record {
              numbered = subst (λ (n : ℕ). IsLineAt script port n turn.line) (sym at) turn.numbered;
              means = each.4;
              report = each.5;
              own = own_is ∙ same (own_object report reply) left then;
              stored = stored_is ∙ same (stored_object reply) left then;
              off = offs three.bus led.bus;
            },
          );
    }
