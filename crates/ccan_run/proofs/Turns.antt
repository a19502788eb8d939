-- One turn of one of three ports, which first meets the others, and how many turns are left.
use Rattle.std.proofs.Common.{◌≡◌, ◌<◌, ◌+◌, ℕ, Bool, true, List, ◌∷◌, length, get_or, drop, cond, refl, sym, ap, ap₂, subst, ◌∙◌, arith}
use Rattle.std.proofs.lemmas.List.{drop_more}
use Rattle.std.proofs.lemmas.List.Sums.{sum_by-drop_more}
use Rattle.ccan_object.specs.Interface.{Registers}
use Rattle.ccan_ram.specs.declared.port.PortName.{PortName}
use Rattle.ccan_ram.specs.declared.port.PortName.TheVariants.{If1, If2, Bus}
use Rattle.ccan_ram.specs.declared.event.Event.{Event}
use Rattle.ccan_ram.specs.Port.{same_port}
use Rattle.ccan_ram.specs.History.{events_of}
use Rattle.ccan_ram.specs.Terms.{Terms}
use Rattle.ccan_ram.specs.Access.{Goes}
use Rattle.ccan_ram.specs.SharedRam as shared
use Rattle.ccan_ram.specs.SharedRam.{Memory, Pass, IsSamePort, passes_of}
use Rattle.ccan_bus.specs.declared.bus.Bus as a_bus
use Rattle.ccan_bus.specs.Bus.{LedTo}
use Rattle.ccan_line.specs.declared.host_line.HostLine.{HostLine}
use Rattle.ccan_line.specs.declared.bus_line.BusLine.{BusLine}
use Rattle.ccan_line.specs.declared.line_answer.LineAnswer.{LineAnswer}
use Rattle.ccan_line.specs.Script.{ScriptFields}
use Rattle.ccan_line.specs.Order.{times}
use Rattle.ccan_run.specs.declared.ports.Ports.{Ports}
use Rattle.ccan_line.specs.Side.{GoesOn}
use Rattle.ccan_line.specs.Port.{count_of}
use Rattle.ccan_line.specs.Host.{HostLineMeans}
use Rattle.ccan_line.specs.BusPort.{BusLineMeans}
use Rattle.ccan_line.specs.Turn.{of_if1, of_if2, of_bus, StartsFrom}
use Rattle.ccan_run.specs.Ordered.{joined}
use Rattle.ccan_run.specs.Ports.{next_of, TakesTurn}
use Rattle.ccan_run.specs.Trio.{IsQuiet, CatchesUp, seen_by}

-- ---- one turn

-- a port that made no event, at its name
quiet_at : (old new : Pass) (name : PortName) → old.port ≡ name → IsQuiet old new
    → events_of name new.seen ≡ events_of name old.seen
quiet_at old new name is quiet = subst (λ (p : PortName). events_of p new.seen ≡ events_of p old.seen) is quiet.own

terms_at : (contends : ℕ → ℕ → Bool) (memory : Memory) (old new : Pass) (name : PortName) → old.memory ≡ memory → old.port ≡ name
    → IsSamePort old new → (passes_of contends new).terms ≡ shared.terms_of contends memory name
terms_at contends memory old new name m p same = ap₂ (shared.terms_of contends) (same.memory ∙ m) (same.port ∙ p)

module _ (if1 if2 bus : Pass) (is_if1 : if1.port ≡ If1) (is_if2 : if2.port ≡ If2) (is_bus : bus.port ≡ Bus) where
  abbrev before : PortName → List Event
  before = seen_by if1 if2 bus

  from_if1 : (met last if2' bus' : Pass) → CatchesUp if1 if2 bus met if2' bus'
      → StartsFrom If1 before (seen_by last if2' bus') met.seen
  from_if1 met last if2' bus' c = record {
    begins = elim [ If1 ↦ c.begins | If2 ↦ c.begins_second | Bus ↦ c.begins_third ];
    own = quiet_at _ _ If1 is_if1 c.quiet;
    others = elim [
      | If1 ↦ λ other. absurd (other refl)
      | If2 ↦ λ other. quiet_at _ _ If2 is_if2 c.quiet_second
      | Bus ↦ λ other. quiet_at _ _ Bus is_bus c.quiet_third
    ];
  }

  from_if2 : (met last if1' bus' : Pass) → CatchesUp if2 if1 bus met if1' bus'
      → StartsFrom If2 before (seen_by if1' last bus') met.seen
  from_if2 met last if1' bus' c = record {
    begins = elim [ If1 ↦ c.begins_second | If2 ↦ c.begins | Bus ↦ c.begins_third ];
    own = quiet_at _ _ If2 is_if2 c.quiet;
    others = elim [
      | If1 ↦ λ other. quiet_at _ _ If1 is_if1 c.quiet_second
      | If2 ↦ λ other. absurd (other refl)
      | Bus ↦ λ other. quiet_at _ _ Bus is_bus c.quiet_third
    ];
  }

  from_bus : (met last if1' if2' : Pass) → CatchesUp bus if1 if2 met if1' if2'
      → StartsFrom Bus before (seen_by if1' if2' last) met.seen
  from_bus met last if1' if2' c = record {
    begins = elim [ If1 ↦ c.begins_second | If2 ↦ c.begins_third | Bus ↦ c.begins ];
    own = quiet_at _ _ Bus is_bus c.quiet;
    others = elim [
      | If1 ↦ λ other. quiet_at _ _ If1 is_if1 c.quiet_second
      | If2 ↦ λ other. quiet_at _ _ If2 is_if2 c.quiet_third
      | Bus ↦ λ other. absurd (other refl)
    ];
  }

  module _ (contends : ℕ → ℕ → Bool) (memory : Memory) (script : ScriptFields) (old : Ports) (reply : LineAnswer)
      (met last : Pass) where
    pub by_if1 : (if2' bus' : Pass) (c : CatchesUp if1 if2 bus met if2' bus') → if1.memory ≡ memory
        → (registers : Registers) (n : ℕ) (lines : List HostLine) → lines ≡ script.if1
        → (line : HostLine) × (drop old.if1.next lines ≡ line ∷ drop n lines)
        × Goes (passes_of contends met) (passes_of contends last) (λ terms seen added.
        GoesOn (λ state value. state ≡ value) old.if1.side registers
        (λ state left. HostLineMeans terms script.tries line state seen added reply left))
        → TakesTurn contends memory script before (seen_by last if2' bus')
        old (record old { if1 = record { side = registers; next = n } }) If1 reply
    by_if1 if2' bus' c m registers n lines is (line, at, goes) = record {
      line = of_if1 line;
      next = λ order. ap (λ ls. joined (If1 ∷ order) ls (drop old.if2.next script.if2) (drop old.bus.next script.bus))
          (subst (λ ls. drop old.if1.next ls ≡ line ∷ drop n ls) is at);
      start = met.seen;
      starts = from_if1 met last if2' bus' c;
      each = λ three led.
          let a = goes.each met.seen (refl, c.sees) in
          let b = a.2.each three.first led.first in
          let terms = terms_at contends memory if1 met If1 m is_if1 c.quiet.same in (
            a.0,
            record three { first = b.0 },
            sym a.1.0,
            record { first = b.1; second = led.second; bus = led.bus },
            (
              b.0,
              refl,
              subst (λ (t : Terms). HostLineMeans t script.tries line three.first met.seen a.0 reply b.0) terms b.2,
              refl,
            ),
          );
    }

    pub by_if2 : (if1' bus' : Pass) (c : CatchesUp if2 if1 bus met if1' bus') → if2.memory ≡ memory
        → (registers : Registers) (n : ℕ) (lines : List HostLine) → lines ≡ script.if2
        → (line : HostLine) × (drop old.if2.next lines ≡ line ∷ drop n lines)
        × Goes (passes_of contends met) (passes_of contends last) (λ terms seen added.
        GoesOn (λ state value. state ≡ value) old.if2.side registers
        (λ state left. HostLineMeans terms script.tries line state seen added reply left))
        → TakesTurn contends memory script before (seen_by if1' last bus')
        old (record old { if2 = record { side = registers; next = n } }) If2 reply
    by_if2 if1' bus' c m registers n lines is (line, at, goes) = record {
      line = of_if2 line;
      next = λ order. ap (λ ls. joined (If2 ∷ order) (drop old.if1.next script.if1) ls (drop old.bus.next script.bus))
          (subst (λ ls. drop old.if2.next ls ≡ line ∷ drop n ls) is at);
      start = met.seen;
      starts = from_if2 met last if1' bus' c;
      each = λ three led.
          let a = goes.each met.seen (refl, c.sees) in
          let b = a.2.each three.second led.second in
          let terms = terms_at contends memory if2 met If2 m is_if2 c.quiet.same in (
            a.0,
            record three { second = b.0 },
            sym a.1.0,
            record { first = led.first; second = b.1; bus = led.bus },
            (
              b.0,
              refl,
              subst (λ (t : Terms). HostLineMeans t script.tries line three.second met.seen a.0 reply b.0) terms b.2,
              refl,
            ),
          );
    }

    pub by_bus : (if1' if2' : Pass) (c : CatchesUp bus if1 if2 met if1' if2') → bus.memory ≡ memory
        → (side : a_bus.Bus) (n : ℕ) (lines : List BusLine) → lines ≡ script.bus
        → (line : BusLine) × (drop old.bus.next lines ≡ line ∷ drop n lines)
        × Goes (passes_of contends met) (passes_of contends last) (λ terms seen added. GoesOn LedTo old.bus.side side
        (λ past left. BusLineMeans terms script.tries line past seen added reply left))
        → TakesTurn contends memory script before (seen_by if1' if2' last)
        old (record old { bus = record { side = side; next = n } }) Bus reply
    by_bus if1' if2' c m side n lines is (line, at, goes) = record {
      line = of_bus line;
      next = λ order. ap (λ ls. joined (Bus ∷ order) (drop old.if1.next script.if1) (drop old.if2.next script.if2) ls)
          (subst (λ ls. drop old.bus.next ls ≡ line ∷ drop n ls) is at);
      start = met.seen;
      starts = from_bus met last if1' if2' c;
      each = λ three led.
          let a = goes.each met.seen (refl, c.sees) in
          let b = a.2.each three.bus led.bus in
          let terms = terms_at contends memory bus met Bus m is_bus c.quiet.same in (
            a.0,
            record three { bus = b.0 },
            sym a.1.0,
            record { first = led.first; second = led.second; bus = b.1 },
            (
              b.0,
              refl,
              subst (λ (t : Terms). BusLineMeans t script.tries line three.bus met.seen a.0 reply b.0) terms b.2,
              refl,
            ),
          );
    }

-- ---- how many turns are left

same_self : (port : PortName) → same_port port port ≡ true
same_self If1 = refl
same_self If2 = refl
same_self Bus = refl

-- before the first turn all are left
pub all_left : (script : ScriptFields) (ports : Ports) → ((port : PortName) → next_of ports port ≡ 0)
    → times If1 script.order ≡ length script.if1 → times If2 script.order ≡ length script.if2
    → times Bus script.order ≡ length script.bus
    → (name : PortName) → next_of ports name + times name script.order ≡ count_of script name
all_left script ports none if1 if2 bus If1 = omega (arith, none If1, if1)
all_left script ports none if1 if2 bus If2 = omega (arith, none If2, if2)
all_left script ports none if1 if2 bus Bus = omega (arith, none Bus, bus)

module _ (items order : List PortName) (value : items ≡ order) (i : ℕ) (d : PortName) (within : i < length items) where
  abbrev port : PortName
  port = get_or items i d

  pub names_left : drop i order ≡ port ∷ drop (i + 1) order
  names_left = subst (λ xs. drop i xs ≡ get_or items i d ∷ drop (i + 1) xs) value (drop_more items i d within)

  times_left : (name : PortName) → times name (drop i order) ≡ cond (same_port name port) 1 0 + times name (drop (i + 1) order)
  times_left name = subst (λ xs. times name (drop i xs) ≡ cond (same_port name port) 1 0 + times name (drop (i + 1) xs)) value
      (sum_by-drop_more (λ p. cond (same_port name p) 1 0) items i d within)

  -- the port that is named has a line left
  pub has_left : (next : ℕ) (count : ℕ) → next + times port (drop i order) ≡ count → next < count
  has_left next count all =
      let own : times port (drop i order) ≡ 1 + times port (drop (i + 1) order) = times_left port
      ∙ ap (λ b. cond b 1 0 + times port (drop (i + 1) order)) (same_self port) in
      omega (arith, all, own)

  pub left_after : (next next' : ℕ) (count : ℕ) (name : PortName) → next' ≡ next + cond (same_port name port) 1 0
      → next + times name (drop i order) ≡ count → next' + times name (drop (i + 1) order) ≡ count
  left_after next next' count name goes all = omega (arith, goes, all, times_left name)
