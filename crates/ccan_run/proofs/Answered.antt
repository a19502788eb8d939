-- Each answer of a run without an order has steps of its own in one history.
use Rattle.std.proofs.Common.{ℕ, ◌≡◌, Bool, List, [], ◌∷◌, ◌++◌, refl, sym, ap, subst, ◌∙◌, length, length-append, arith}
use Rattle.ccan_object.specs.declared.profile.Profile.{Profile}
use Rattle.ccan_object.specs.Interface.{zero_registers}
use Rattle.ccan_ram.specs.declared.port.PortName.{PortName}
use Rattle.ccan_ram.specs.declared.port.PortName.TheVariants.{If1, If2, Bus}
use Rattle.ccan_ram.specs.declared.event.Event.{Event}
use Rattle.ccan_ram.specs.History.{events_of}
use Rattle.ccan_ram.proofs.Histories.{events_of-append}
use Rattle.ccan_ram.specs.SharedRam.{Memory, terms_of}
use Rattle.ccan_line.specs.declared.line_answer.LineAnswer.{LineAnswer}
use Rattle.ccan_line.specs.Script.{ScriptFields}
use Rattle.ccan_run.specs.Threads.{HasPart}
use Rattle.ccan_run.specs.Answered.{HostInOrder, BusInOrder}
use Rattle.ccan_run.specs.Laws.{AnswersHaveEvents}
use Rattle.ccan_run.proofs.HostAnswered.{host_lines}
use Rattle.ccan_run.proofs.BusAnswered.{opened_lines}

none_before : (xs ys : List Event) → xs ++ ys ≡ ys → xs ≡ []
none_before [] ys h = refl
none_before (x ∷ xs) ys h = absurd (omega (arith, ap length h, length-append xs ys))

-- the port has no step after what it had seen
none_after : (contends : ℕ → ℕ → Bool) (memory : Memory) (script : ScriptFields) (history : List Event) (port : PortName)
    (answers : List LineAnswer) (part : HasPart contends memory script history port answers) → events_of port part.begins.0 ≡ []
none_after contends memory script history port answers part =
    none_before (events_of port part.begins.0) (events_of port part.seen)
    (sym (events_of-append port part.begins.0 part.seen) ∙ (sym (ap (events_of port) part.begins.1) ∙ part.own))

module _ (contends : ℕ → ℕ → Bool) (memory : Memory) (script : ScriptFields) (history : List Event)
    (answers : List LineAnswer) where
  of_if1 : HasPart contends memory script history If1 answers
      → HostInOrder memory.profile If1 script.if1 zero_registers answers history
  of_if1 part =
      let none = none_after contends memory script history If1 answers part in
      let all = host_lines (terms_of contends memory If1) script.tries script.if1 zero_registers [] part.seen answers
      part.answered.0 part.answered.1 part.begins.0 none in
      subst (λ (es : List Event). HostInOrder memory.profile If1 script.if1 zero_registers answers es) (sym part.begins.1) all

  of_if2 : HasPart contends memory script history If2 answers
      → HostInOrder memory.profile If2 script.if2 zero_registers answers history
  of_if2 part =
      let none = none_after contends memory script history If2 answers part in
      let all = host_lines (terms_of contends memory If2) script.tries script.if2 zero_registers [] part.seen answers
      part.answered.0 part.answered.1 part.begins.0 none in
      subst (λ (es : List Event). HostInOrder memory.profile If2 script.if2 zero_registers answers es) (sym part.begins.1) all

  of_bus : HasPart contends memory script history Bus answers → BusInOrder memory.profile script.bus answers [] history
  of_bus part =
      let none = none_after contends memory script history Bus answers part in
      let all = opened_lines (terms_of contends memory Bus) refl script.tries script.bus script.nodes part.seen answers
      part.answered.0 part.answered.1 part.begins.0 none in
      subst (λ (es : List Event). BusInOrder memory.profile script.bus answers [] es) (sym part.begins.1) all

pub answers_have_events : AnswersHaveEvents
answers_have_events contends script outcome run =
    record {
      legal = run.legal;
      if1 = subst (λ (p : Profile). HostInOrder p If1 script.if1 zero_registers outcome.if1.items run.history)
          run.memory_is.profile_is (of_if1 contends run.memory script run.history outcome.if1.items run.if1);
      if2 = subst (λ (p : Profile). HostInOrder p If2 script.if2 zero_registers outcome.if2.items run.history)
          run.memory_is.profile_is (of_if2 contends run.memory script run.history outcome.if2.items run.if2);
      bus = subst (λ (p : Profile). BusInOrder p script.bus outcome.bus.items [] run.history)
          run.memory_is.profile_is (of_bus contends run.memory script run.history outcome.bus.items run.bus);
      left = run.left;
    }
