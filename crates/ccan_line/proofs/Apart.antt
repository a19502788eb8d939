-- Events of one port alone, and a line of some port during which nobody else acts.
use Rattle.std.proofs.Common.{◌≡◌, ◌≢◌, ◌≤◌, ◌⊎◌, inl, inr, ℕ, Bool, List, [], ◌∷◌, ◌++◌, length, refl, sym, ap, ap₂, subst, ◌∙◌, append_assoc, arith}
use Rattle.std.proofs.lemmas.List.{length-append}
use Rattle.ccan_ram.specs.declared.port.PortName.{PortName}
use Rattle.ccan_ram.specs.declared.port.PortName.TheVariants.{If1, If2, Bus}
use Rattle.ccan_ram.specs.declared.event.Event.{Event}
use Rattle.ccan_ram.specs.History.{BeginsWith, NobodyElse, events_of}
use Rattle.ccan_ram.specs.Terms.{Terms, one_thread_terms}
use Rattle.ccan_ram.specs.SharedRam as shared
use Rattle.ccan_ram.specs.SharedRam.{Memory, IsMemoryOf}
use Rattle.ccan_ram.proofs.Histories.{events_of-append, none_undisturbed}
use Rattle.ccan_line.specs.declared.line_answer.LineAnswer.{LineAnswer}
use Rattle.ccan_line.specs.Script.{ScriptFields}
use Rattle.ccan_line.specs.Host.{HostLineMeans}
use Rattle.ccan_line.specs.BusPort.{BusLineMeans}
use Rattle.ccan_line.specs.Turn.{PortLine, of_if1, of_if2, of_bus, Three, PortLineMeans, terms_of}
use Rattle.ccan_line.proofs.InTurn.{ChoosesInTurn}
use Rattle.ccan_line.proofs.LinesApart.{host_apart, bus_apart}

-- ---- events

pub same_or_not : (p q : PortName) → (p ≡ q) ⊎ (p ≢ q)
same_or_not If1 If1 = inl refl
same_or_not If1 If2 = inr (λ e. cc)
same_or_not If1 Bus = inr (λ e. cc)
same_or_not If2 If1 = inr (λ e. cc)
same_or_not If2 If2 = inl refl
same_or_not If2 Bus = inr (λ e. cc)
same_or_not Bus If1 = inr (λ e. cc)
same_or_not Bus If2 = inr (λ e. cc)
same_or_not Bus Bus = inl refl

nothing : (xs : List Event) → length xs ≡ 0 → xs ≡ []
nothing [] h = refl
nothing (x ∷ xs) h = absurd (omega arith)

-- nothing stands before a list that it leaves as it is
none_before : (xs ys : List Event) → xs ++ ys ≡ ys → xs ≡ []
none_before xs ys h = nothing xs (let n = ap length h in let m = length-append xs ys in omega arith)

pub both_empty : (xs ys : List Event) → xs ++ ys ≡ [] → (xs ≡ []) × (ys ≡ [])
both_empty [] ys h = (refl, h)
both_empty (event ∷ xs) ys h = absurd (let k : event ∷ (xs ++ ys) ≡ [] = h in cc)

-- where a history that has at least these events of a port goes on to one that has just them, nothing of the port came to it
pub no_others : (name : PortName) (last first own : List Event) → BeginsWith (events_of name first) own
    → events_of name (last ++ first) ≡ own
    → (events_of name last ≡ []) × (events_of name first ≡ own)
no_others name last first own (more, is) whole =
    let all : (events_of name last ++ more) ++ own ≡ own =
    append_assoc (events_of name last) more own ∙ ap (λ es. events_of name last ++ es) (sym is)
    ∙ sym (events_of-append name last first) ∙ whole in
    let none = both_empty (events_of name last) more (none_before _ own all) in
    (none.0, is ∙ ap (λ es. es ++ own) none.1)

-- events that are no port's are none
pub none_of_all : (events : List Event) → ((name : PortName) → events_of name events ≡ []) → events ≡ []
none_of_all events none = none_undisturbed If1 events (λ other apart. none other) (none If1)

-- ---- a line

module _ (contends : ℕ → ℕ → Bool) (memory : Memory) (script : ScriptFields)
    (same : IsMemoryOf script.profile script.quota memory)
    (some : 1 ≤ script.tries) where
  single_is : (name : PortName) → one_thread_terms memory.profile name memory.quota ≡ terms_of script name
  single_is name = ap₂ (λ profile quota. one_thread_terms profile name quota) same.profile_is same.quota_is

  pub port_line_apart : (line : PortLine) (three : Three) (seen added : List Event) (reply : PortName × LineAnswer)
      (left : Three)
      → ChoosesInTurn three.bus → NobodyElse reply.0 added
      → PortLineMeans (shared.terms_of contends memory) script.tries line three seen added reply left
      → PortLineMeans (terms_of script) script.tries line three seen added reply left
  port_line_apart (of_if1 line) three seen added reply left in_turn alone (after, port, means, is) =
      let mine = subst (λ (p : PortName). NobodyElse p added) port alone in
      let one = host_apart (shared.terms_of contends memory If1) script.tries some seen added
      mine line three.first reply.1 after means in
      let single = subst (λ (t : Terms). HostLineMeans t script.tries line three.first seen added reply.1 after)
      (single_is If1) one in
      (after, port, single, is)
  port_line_apart (of_if2 line) three seen added reply left in_turn alone (after, port, means, is) =
      let mine = subst (λ (p : PortName). NobodyElse p added) port alone in
      let one = host_apart (shared.terms_of contends memory If2) script.tries some seen added
      mine line three.second reply.1 after means in
      let single = subst (λ (t : Terms). HostLineMeans t script.tries line three.second seen added reply.1 after)
      (single_is If2) one in
      (after, port, single, is)
  port_line_apart (of_bus line) three seen added reply left in_turn alone (after, port, means, is) =
      let mine = subst (λ (p : PortName). NobodyElse p added) port alone in
      let one = bus_apart (shared.terms_of contends memory Bus) script.tries some seen added
      mine line three.bus reply.1 after in_turn means in
      let single = subst (λ (t : Terms). BusLineMeans t script.tries line three.bus seen added reply.1 after)
      (single_is Bus) one in
      (after, port, single, is)
