-- Ports whose gates let them run so many lines, and the end of their memory.
use Rattle.std.proofs.Common.{ℕ, ◌≡◌, Bool, ap, refl, subst, ◌∙◌}
use Rattle.std.specs.Prelude.{Option, List, Some, None, true, false}
use Rattle.ccan_object.specs.declared.profile.Profile.{Profile}
use Rattle.ccan_ram.specs.declared.port.PortName.{PortName}
use Rattle.ccan_ram.specs.declared.port.PortName.TheVariants.{If1, If2, Bus}
use Rattle.ccan_ram.specs.History.{IsLegal, events_of}
use Rattle.ccan_ram.specs.Ending.{Ends, final_records}
use Rattle.ccan_ram.specs.SharedRam.{Memory, Pass, IsMemoryOf}
use Rattle.ccan_line.specs.declared.line_answer.LineAnswer.{LineAnswer}
use Rattle.ccan_line.specs.Script.{ScriptFields}
use Rattle.ccan_line.specs.declared.gate.FreeGate.{FreeGate}
use Rattle.ccan_run.specs.declared.outcome.Outcome.{Outcome}
use Rattle.ccan_line.specs.Gate.{Asks}
use Rattle.ccan_run.specs.Threads.{HasRun, RunsAtOnce, RunsUpTo}

-- three ports that ran so many lines, and the end of their memory. The lines that a port ran are all those of the script
-- that is cut to them
pub up_to : (contends : ℕ → ℕ → Bool) (memory : Memory) (script : ScriptFields) (one two three : Option ℕ) (if1 if2 bus : Pass)
    (outcome : Outcome) → IsMemoryOf script.profile script.quota memory
    → HasRun contends memory script If1 one outcome.if1.items if1
    → HasRun contends memory script If2 two outcome.if2.items if2
    → HasRun contends memory script Bus three outcome.bus.items bus
    → Ends if1 if2 bus outcome.last → RunsUpTo contends script one two three outcome
up_to contends memory script one two three if1 if2 bus outcome is first second third end =
    let profile : outcome.last.profile ≡ script.profile =
    end.profile_is ∙ ap (λ (m : Memory). m.profile) first.same_memory ∙ is.profile_is in
    record {
      memory = memory;
      memory_is = record { profile_is = is.profile_is; quota_is = is.quota_is };
      history = end.history;
      legal = subst (λ (p : Profile). IsLegal p end.history) profile end.legal;
      if1 = record {
        seen = if1.seen;
        begins = end.part_if1.begins;
        own = subst (λ (p : PortName). events_of p end.history ≡ events_of p if1.seen) first.same_port end.part_if1.own;
        answered = first.answered;
      };
      if2 = record {
        seen = if2.seen;
        begins = end.part_if2.begins;
        own = subst (λ (p : PortName). events_of p end.history ≡ events_of p if2.seen) second.same_port end.part_if2.own;
        answered = second.answered;
      };
      bus = record {
        seen = bus.seen;
        begins = end.part_bus.begins;
        own = subst (λ (p : PortName). events_of p end.history ≡ events_of p bus.seen) third.same_port end.part_bus.own;
        answered = third.answered;
      };
      profile_is = profile;
      left = subst (λ (p : Profile). outcome.last.records ≡ final_records p end.history) profile end.left;
    }

-- a gate that stops nothing holds no port
abbrev pub FreeEnters : FreeGate → PortName → List LineAnswer → Bool → FreeGate → Type 0
FreeEnters gate port answers answer left = answer ≡ true

not_held : (port : PortName) (answers : List LineAnswer) (stop : Option ℕ) (old new : FreeGate)
    → Asks FreeEnters port answers stop old new → stop ≡ None
not_held port answers None old new asked = refl
not_held port answers (Some line) old new (between, before, held) = absurd (let h : false ≡ true = held in cc)

-- so a run with such gates is one of the whole script
pub whole : (contends : ℕ → ℕ → Bool) (script : ScriptFields) (one two three : Option ℕ) (outcome : Outcome)
    (gate1 gate2 gate3 left1 left2 left3 : FreeGate)
    → Asks FreeEnters If1 outcome.if1.items one gate1 left1 → Asks FreeEnters If2 outcome.if2.items two gate2 left2
    → Asks FreeEnters Bus outcome.bus.items three gate3 left3
    → RunsUpTo contends script one two three outcome → RunsAtOnce contends script outcome
whole contends script one two three outcome gate1 gate2 gate3 left1 left2 left3 first second third run =
    let a = not_held If1 _ one gate1 left1 first in
    let b = not_held If2 _ two gate2 left2 second in
    let c = not_held Bus _ three gate3 left3 third in
    subst (λ (s : Option ℕ). RunsUpTo contends script None None s outcome) c
    (subst (λ (s : Option ℕ). RunsUpTo contends script None s three outcome) b
    (subst (λ (s : Option ℕ). RunsUpTo contends script s two three outcome) a run))
