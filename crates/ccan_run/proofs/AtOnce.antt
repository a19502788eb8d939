-- Ports that run their lines in threads of their own.
use Rattle.std.proofs.Common.{ℕ, ◌≡◌, Bool, List, [], refl, sym, ap, subst, ◌∙◌, arith}
use Rattle.std.specs.Prelude.{Option, None, Some, Result, Ok, Err, IfSome, IfErr, IsErrAnd}
use Rattle.std.proofs.lemmas.List.{append-nil}
use Rattle.ccan_object.specs.declared.profile.Profile.{Profile}
use Rattle.ccan_ram.specs.declared.port.PortName.{PortName}
use Rattle.ccan_ram.specs.declared.port.PortName.TheVariants.{If1, If2, Bus}
use Rattle.ccan_ram.specs.declared.event.Event.{Event}
use Rattle.ccan_ram.specs.Terms.{Terms}
use Rattle.ccan_ram.specs.History.{IsLegal, events_of}
use Rattle.ccan_ram.specs.Access.{Goes}
use Rattle.ccan_ram.specs.Ending.{Ends, IsPart, final_records}
use Rattle.ccan_ram.specs.SharedRam.{Memory, Pass, IsMemoryOf, opened, passes_of, terms_of}
use Rattle.ccan_line.specs.declared.line_answer.LineAnswer.{LineAnswer}
use Rattle.ccan_line.specs.Script.{ScriptFields}
use Rattle.ccan_run.specs.declared.outcome.Outcome.{Outcome}
use Rattle.ccan_run.specs.declared.run_error.RunError.{RunError}
use Rattle.ccan_run.specs.declared.run_error.RunError.TheVariants as stop
use Rattle.ccan_line.specs.declared.per_port.PerPort.{PerPort}
use Rattle.ccan_run.specs.declared.port_run.PortRun.{PortRun}
use Rattle.ccan_line.specs.Gate.{IsHeldAt, WasAsked}
use Rattle.ccan_line.specs.Port.{PortMeans, count_of}
use Rattle.ccan_run.specs.Threads.{AllRan, HasPart, HasRun, HaveAsked, HaveRun, IsFirstHeld, RunsAtOnce, StopsThreads, WasHeld}

-- the memory of a port, by what the port works under
abbrev memory_of : Terms → Memory
memory_of terms = record { profile = terms.profile; quota = terms.quota; name = terms.memory }

-- a port that was just opened has seen nothing before its lines
pub ran_from_opened : (contends : ℕ → ℕ → Bool) (memory : Memory) (script : ScriptFields)
    (port : PortName) (stop : Option ℕ) (answers : List LineAnswer) (old new : Pass)
    → old ≡ opened memory port
    → Goes (passes_of contends old) (passes_of contends new)
    (λ terms seen added. PortMeans terms script port stop seen added answers)
    → IfSome stop (IsHeldAt (count_of script port) answers)
    → HasRun contends memory script port stop answers new
ran_from_opened contends memory script port stop answers old new is goes held =
    let from : Goes (passes_of contends (opened memory port)) (passes_of contends new)
    (λ terms seen added. PortMeans terms script port stop seen added answers) =
    subst (λ (o : Pass). Goes (passes_of contends o) (passes_of contends new)
    (λ terms seen added. PortMeans terms script port stop seen added answers)) is goes in
    let ran = from.each [] (refl, record { legal = search; within = λ p. omega arith }) in
    let whole : ran.0 ≡ new.seen = sym (append-nil ran.0) ∙ ran.1.0 in
    record {
      same_memory = ap (λ (t : Terms). memory_of t) from.same;
      same_port = ap (λ (t : Terms). t.port) from.same;
      answered = subst (λ (seen : List Event). PortMeans (terms_of contends memory port) script port stop [] seen answers)
          whole ran.2;
      stopped = held;
    }

-- a port that ran all its lines did its part of the history with which the memory ends
pub part_of : (contends : ℕ → ℕ → Bool) (memory : Memory) (script : ScriptFields)
    (port : PortName) (stop : Option ℕ) (answers : List LineAnswer) (pass : Pass) (history : List Event)
    → HasRun contends memory script port stop answers pass → stop ≡ None → IsPart pass history
    → HasPart contends memory script history port answers
part_of contends memory script port stop answers pass history ran all part =
    record {
      seen = pass.seen;
      begins = part.begins;
      own = subst (λ (p : PortName). events_of p history ≡ events_of p pass.seen) ran.same_port part.own;
      answered = subst (λ (s : Option ℕ). PortMeans (terms_of contends memory port) script port s [] pass.seen answers)
          all ran.answered;
    }

-- three ports that ran all their lines, and the end of their memory
pub at_once : {Port : Type 0} (pass : Port → Pass) (contends : ℕ → ℕ → Bool) (memory : Memory)
    (script : ScriptFields) (runs : PerPort (PortRun Port)) (outcome : Outcome)
    → IsMemoryOf script.profile script.quota memory → HaveRun pass contends memory script runs → AllRan runs
    → outcome.if1.items ≡ runs.if1.log.items → outcome.if2.items ≡ runs.if2.log.items → outcome.bus.items ≡ runs.bus.log.items
    → Ends (pass runs.if1.port) (pass runs.if2.port) (pass runs.bus.port) outcome.last
    → RunsAtOnce contends script outcome
at_once pass contends memory script runs outcome is ran all if1_is if2_is bus_is end =
    let profile : outcome.last.profile ≡ script.profile =
    end.profile_is ∙ ap (λ (m : Memory). m.profile) ran.if1.same_memory ∙ is.profile_is in
    record {
      memory = memory;
      memory_is = is;
      history = end.history;
      legal = subst (λ (p : Profile). IsLegal p end.history) profile end.legal;
      if1 = rw if1_is (part_of contends memory script If1 _ _ _ end.history ran.if1 all.if1 end.part_if1);
      if2 = rw if2_is (part_of contends memory script If2 _ _ _ end.history ran.if2 all.if2 end.part_if2);
      bus = rw bus_is (part_of contends memory script Bus _ _ _ end.history ran.bus all.bus end.part_bus);
      profile_is = profile;
      left = subst (λ (p : Profile). outcome.last.records ≡ final_records p end.history) profile end.left;
    }

-- a port that its gate held had run the lines before
module _ {Port Gate : Type 0} (pass : Port → Pass) (contends : ℕ → ℕ → Bool)
    (enters : Gate → PortName → List LineAnswer → Bool → Gate → Type 0) (gate : Gate) (memory : Memory) (script : ScriptFields)
    (is : IsMemoryOf script.profile script.quota memory) where
  was_held : (port : PortName) (run : PortRun Port) (line : ℕ) → run.stopped ≡ Some line
      → HasRun contends memory script port run.stopped run.log.items (pass run.port)
      → WasAsked enters port gate run.log.items run.stopped → WasHeld contends enters gate script port line
  was_held port run line stopped ran asked =
      record {
        memory = memory;
        memory_is = is;
        answers = run.log.items;
        pass = pass run.port;
        ran = subst (λ (s : Option ℕ). HasRun contends memory script port s run.log.items (pass run.port)) stopped ran;
        asked = subst (WasAsked enters port gate run.log.items) stopped asked;
      }

  pub held_first : (runs : PerPort (PortRun Port)) (why : RunError) → HaveRun pass contends memory script runs
      → HaveAsked enters gate runs → IsFirstHeld runs why → StopsThreads contends enters gate script why
  held_first runs (stop.Held If1 line) ran asked held = was_held If1 runs.if1 line held ran.if1 asked.if1
  held_first runs (stop.Held If2 line) ran asked held = was_held If2 runs.if2 line held.1 ran.if2 asked.if2
  held_first runs (stop.Held Bus line) ran asked held = was_held Bus runs.bus line held.2 ran.bus asked.bus
  held_first runs stop.Read ran asked held = absurd held
  held_first runs stop.TooLong ran asked held = absurd held
  held_first runs (stop.Script why) ran asked held = absurd held
  held_first runs stop.Quota ran asked held = absurd held
  held_first runs stop.Memory ran asked held = absurd held
  held_first runs stop.Spawn ran asked held = absurd held
  held_first runs stop.Write ran asked held = absurd held

-- what holds of an error holds of what it is passed on as
pub passed_on : {Value : Type 0} (result : Result Value RunError) (what same : RunError → Type 0) (why : RunError)
    → IsErrAnd result same → ((e : RunError) → same e → e ≡ why) → what why → IfErr result what
passed_on (Ok value) what same why is equal holds = absurd is
passed_on (Err e) what same why is equal holds = subst what (sym (equal e is)) holds
