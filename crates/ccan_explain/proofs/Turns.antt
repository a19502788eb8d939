-- A turn of one of three ports over a plain memory: what its line promised is a turn.
use Rattle.std.proofs.Common.{◌≡◌, ◌<◌, ◌+◌, ℕ, zero, suc, List, [], ◌∷◌, All, length, get_or, drop, Option, Some, None}
use Rattle.std.proofs.Common.{refl, sym, ap, ap₂, subst, ◌∙◌}
use Rattle.std.specs.Prelude.{slice_get}
use Rattle.ccan_object.specs.declared.profile.Profile.{Profile}
use Rattle.ccan_object.specs.Interface.{Registers}
use Rattle.ccan_ram.specs.declared.array.Array.{Array}
use Rattle.ccan_ram.specs.declared.port.PortName.{PortName}
use Rattle.ccan_ram.specs.declared.port.PortName.TheVariants.{If1, If2, Bus}
use Rattle.ccan_ram.specs.Access.{Goes, Passes}
use Rattle.ccan_ram.specs.Array.{SameSeen}
use Rattle.ccan_ram.specs.Terms.{Terms, one_thread_terms}
use Rattle.ccan_bus.specs.declared.bus.Bus as a_bus
use Rattle.ccan_bus.specs.declared.round_report.RoundReport.{RoundReport}
use Rattle.ccan_bus.specs.Bus.{LedTo}
use Rattle.ccan_line.specs.declared.bus_line.BusLine.{BusLine}
use Rattle.ccan_line.specs.declared.host_line.HostLine.{HostLine}
use Rattle.ccan_line.specs.declared.line_answer.LineAnswer.{LineAnswer}
use Rattle.ccan_line.specs.Script.{ScriptFields}
use Rattle.ccan_line.specs.Host.{HostLineMeans}
use Rattle.ccan_line.specs.Turn.{of_if1, of_if2, of_bus, terms_of}
use Rattle.ccan_run.specs.Ordered.{joined}
use Rattle.ccan_line.specs.Side.{GoesOn}
use Rattle.ccan_explain.specs.declared.bench.Bench.{Bench}
use Rattle.ccan_explain.specs.Bench.{TakesTurn}
use Rattle.ccan_explain.specs.Reported.{ReportsLine}

-- what all lines fit, one of them fits
pub fits_at : {L : Type 0} (Fits : Profile → L → Type 0) (p q : Profile) (lines items : List L) (i : ℕ) (line : L) → q ≡ p
    → lines ≡ items → line ≡ get_or lines i line → All (Fits p) items → i < length items → Fits q line
fits_at Fits p q lines items i line same value is all h =
    let here = subst (λ ls. Fits p (get_or ls i line)) (sym value) (all i line h) in
    subst (λ r. Fits r line) (sym same) (subst (λ l. Fits p l) (sym is) here)

-- the line at which what is left of a list begins
at_first : {L : Type 0} (lines : List L) (i : ℕ) (line : L) (later : List L) → drop i lines ≡ line ∷ later
    → slice_get lines i ≡ Some line
at_first [] zero line later is = cc
at_first [] (suc i) line later is = cc
at_first (l ∷ lines) zero line later is = cc
at_first (l ∷ lines) (suc i) line later is = at_first lines i line later is

module _ (before at after : Passes) (script : ScriptFields) (old : Bench) (reply : LineAnswer)
    (profile : before.terms.profile ≡ script.profile) (quota : before.terms.quota ≡ script.quota)
    (seen : SameSeen before at) where
  -- the terms under which the port's line ran
  terms_at : (port : PortName) → at.terms ≡ one_thread_terms before.terms.profile port before.terms.quota
      → at.terms ≡ terms_of script port
  terms_at port terms = terms ∙ ap₂ (λ p q. one_thread_terms p port q) profile quota

  pub by_if1 : (terms : at.terms ≡ one_thread_terms before.terms.profile If1 before.terms.quota) (ram : Array)
      (registers : Registers)
      (lines : List HostLine) (line : HostLine) → lines ≡ script.if1
      → drop old.next_if1 lines ≡ line ∷ drop (old.next_if1 + 1) lines
      → Goes at after (λ terms seen added. GoesOn (λ state value. state ≡ value) old.if1 registers
      (λ state left. HostLineMeans terms script.tries line state seen added reply left))
      → TakesTurn before after script old (record old { ram = ram; if1 = registers; next_if1 = old.next_if1 + 1 }) If1 reply
      None
  by_if1 terms ram registers lines line is rest goes = record {
    line = of_if1 line;
    next = λ order. ap (λ ls. joined (If1 ∷ order) ls (drop old.next_if2 script.if2) (drop old.next_bus script.bus))
        (subst (λ ls. drop old.next_if1 ls ≡ line ∷ drop (old.next_if1 + 1) ls) is rest);
    numbered = subst (λ ls. slice_get ls old.next_if1 ≡ Some line) is (at_first lines old.next_if1 line _ rest);
    each = λ three here led was.
        let a = goes.each here ((seen here).0 was) in
        let b = a.2.each three.first led.first in (
          a.0,
          record three { first = b.0 },
          a.1,
          record { first = b.1; second = led.second; bus = led.bus },
          (
            b.0,
            refl,
            subst (λ (t : Terms). HostLineMeans t script.tries line three.first here a.0 reply b.0) (terms_at If1 terms) b.2,
            refl,
          ),
          refl,
        );
  }

  pub by_if2 : (terms : at.terms ≡ one_thread_terms before.terms.profile If2 before.terms.quota) (ram : Array)
      (registers : Registers)
      (lines : List HostLine) (line : HostLine) → lines ≡ script.if2
      → drop old.next_if2 lines ≡ line ∷ drop (old.next_if2 + 1) lines
      → Goes at after (λ terms seen added. GoesOn (λ state value. state ≡ value) old.if2 registers
      (λ state left. HostLineMeans terms script.tries line state seen added reply left))
      → TakesTurn before after script old (record old { ram = ram; if2 = registers; next_if2 = old.next_if2 + 1 }) If2 reply
      None
  by_if2 terms ram registers lines line is rest goes = record {
    line = of_if2 line;
    next = λ order. ap (λ ls. joined (If2 ∷ order) (drop old.next_if1 script.if1) ls (drop old.next_bus script.bus))
        (subst (λ ls. drop old.next_if2 ls ≡ line ∷ drop (old.next_if2 + 1) ls) is rest);
    numbered = subst (λ ls. slice_get ls old.next_if2 ≡ Some line) is (at_first lines old.next_if2 line _ rest);
    each = λ three here led was.
        let a = goes.each here ((seen here).0 was) in
        let b = a.2.each three.second led.second in (
          a.0,
          record three { second = b.0 },
          a.1,
          record { first = led.first; second = b.1; bus = led.bus },
          (
            b.0,
            refl,
            subst (λ (t : Terms). HostLineMeans t script.tries line three.second here a.0 reply b.0) (terms_at If2 terms) b.2,
            refl,
          ),
          refl,
        );
  }

  pub by_bus : (terms : at.terms ≡ one_thread_terms before.terms.profile Bus before.terms.quota) (ram : Array)
      (side : a_bus.Bus) (report : Option RoundReport)
      (lines : List BusLine) (line : BusLine) → lines ≡ script.bus
      → drop old.next_bus lines ≡ line ∷ drop (old.next_bus + 1) lines
      → Goes at after (λ terms seen added. GoesOn LedTo old.bus side
      (λ past left. ReportsLine terms script.tries line past seen added reply report left))
      → TakesTurn before after script old (record old { ram = ram; bus = side; next_bus = old.next_bus + 1 }) Bus reply report
  by_bus terms ram side report lines line is rest goes = record {
    line = of_bus line;
    next = λ order. ap (λ ls. joined (Bus ∷ order) (drop old.next_if1 script.if1) (drop old.next_if2 script.if2) ls)
        (subst (λ ls. drop old.next_bus ls ≡ line ∷ drop (old.next_bus + 1) ls) is rest);
    numbered = subst (λ ls. slice_get ls old.next_bus ≡ Some line) is (at_first lines old.next_bus line _ rest);
    each = λ three here led was.
        let a = goes.each here ((seen here).0 was) in
        let b = a.2.each three.bus led.bus in
        let ran = subst (λ (t : Terms). ReportsLine t script.tries line three.bus here a.0 reply report b.0)
        (terms_at Bus terms) b.2 in (
          a.0,
          record three { bus = b.0 },
          a.1,
          record { first = led.first; second = led.second; bus = b.1 },
          (b.0, refl, ran.means, refl),
          ran.reports,
        );
  }
