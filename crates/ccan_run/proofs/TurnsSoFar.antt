-- Turns of three ports, one after another. Where the history of the port in front has just the events that the three ports know
-- to be theirs, all lines so far ran over a one-thread memory; and the end of the memory shows that it has no others.
use Rattle.std.proofs.Common.{◌≡◌, ◌≢◌, ◌≤◌, ℕ, Bool, List, [], ◌∷◌, ◌++◌, inl, inr, refl, sym, ap, subst, ◌∙◌, append_assoc, append-nil}
use Rattle.ccan_ram.specs.declared.ending.Final.{Final}
use Rattle.ccan_ram.specs.declared.port.PortName.{PortName}
use Rattle.ccan_ram.specs.declared.port.PortName.TheVariants.{If1, If2, Bus}
use Rattle.ccan_ram.specs.declared.event.Event.{Event}
use Rattle.ccan_ram.specs.History.{BeginsWith, IsLegal, events_of}
use Rattle.ccan_ram.specs.Ending.{Ends, IsPart, final_records}
use Rattle.ccan_ram.specs.SharedRam.{Memory, Pass, IsMemoryOf}
use Rattle.ccan_ram.proofs.Histories.{events_of-append}
use Rattle.ccan_line.specs.declared.line_answer.LineAnswer.{LineAnswer}
use Rattle.ccan_line.specs.Script.{ScriptFields}
use Rattle.ccan_run.specs.declared.ports.Ports.{Ports}
use Rattle.ccan_line.specs.Lines.{LinesMean}
use Rattle.ccan_line.specs.Turn.{PortLine, Three, opening, PortLineMeans, terms_of}
use Rattle.ccan_run.specs.Ordered.{lines_of, RunsTo}
use Rattle.ccan_run.specs.Ports.{rest, HaveLedTo, TakesTurn}
use Rattle.ccan_run.specs.Trio.{seen_by}
use Rattle.ccan_line.proofs.Apart.{both_empty, no_others, none_of_all, port_line_apart, same_or_not}
use Rattle.ccan_line.proofs.InTurn.{port_lines_keep}
use Rattle.ccan_line.proofs.Rows.{LinesMean-push}

-- a history has just the events that its ports know to be theirs
abbrev pub IsTheirs : (PortName → List Event) → List Event → Type 0
IsTheirs seen history = (name : PortName) → events_of name history ≡ events_of name (seen name)

-- one port is in front: what it has seen has at least the events that each port knows to be its own. If it has no others,
-- then the lines so far have run over a one-thread memory, with what that port has seen as the whole history
pub record SoFar (script : ScriptFields) (seen : PortName → List Event) (ports : Ports) (order : List PortName)
    (answers : List (PortName × LineAnswer)) : Type 0 where
  pub front : PortName
  pub three : Three
  pub done : List PortLine
  pub led : HaveLedTo three ports
  pub whole : lines_of script ≡ done ++ rest script ports order
  pub holds : (name : PortName) → BeginsWith (events_of name (seen front)) (events_of name (seen name))
  pub ran : IsTheirs seen (seen front)
      → LinesMean (PortLineMeans (terms_of script) script.tries) done (opening script.nodes) [] (seen front) answers three

module _ (script : ScriptFields) where
  pub so_far_none : (seen : PortName → List Event) (ports : Ports) (order : List PortName)
      (answers : List (PortName × LineAnswer))
      → ((name : PortName) → seen name ≡ []) → HaveLedTo (opening script.nodes) ports → ports.if1.next ≡ 0 → ports.if2.next ≡ 0
      → ports.bus.next ≡ 0 → order ≡ script.order → answers ≡ [] → SoFar script seen ports order answers
  so_far_none seen ports order answers opens led if1 if2 bus all none = record {
    front = If1;
    three = opening script.nodes;
    done = [];
    led = led;
    whole = rw (if1, if2, bus, all) refl;
    holds = λ name. ([], ap (events_of name) (opens If1 ∙ sym (opens name)));
    ran = λ theirs. (opens If1, none, refl);
  }

  module _ (contends : ℕ → ℕ → Bool) (memory : Memory) (same : IsMemoryOf script.profile script.quota memory)
      (some : 1 ≤ script.tries)
      (before after : PortName → List Event) (old new : Ports) (port : PortName) (reply : LineAnswer) (order : List PortName)
      (answers : List (PortName × LineAnswer)) (s : SoFar script before old order answers)
      (turn : TakesTurn contends memory script before after old new port reply) where
    abbrev front : List Event
    front = before s.front

    -- what the port saw for the first time as its turn began, and what its line added
    abbrev gap : List Event
    gap = (turn.starts.begins s.front).0

    abbrev added : List Event
    added = (turn.each s.three s.led).0

    abbrev left : Three
    left = (turn.each s.three s.led).1

    start_is : turn.start ≡ gap ++ front
    start_is = (turn.starts.begins s.front).1

    after_is : after port ≡ (added ++ gap) ++ front
    after_is = (turn.each s.three s.led).2 ∙ ap (λ es. added ++ es) start_is ∙ sym (append_assoc added gap front)

    holds_more : (name : PortName) → BeginsWith (events_of name (after port)) (events_of name (after name))
    holds_more name = elim (same_or_not name port) [
      | inl is ↦ subst (λ (p : PortName). BeginsWith (events_of p (after port)) (events_of p (after p))) (sym is) ([], refl)
      | inr apart ↦
          let last = events_of name (added ++ gap) in
          let more = (s.holds name).0 in
          let own = events_of name (before name) in (
            last ++ more,
            ap (events_of name) after_is ∙ events_of-append name (added ++ gap) front ∙ ap (λ es. last ++ es) (s.holds name).1
                ∙ sym (append_assoc last more own) ∙ ap (λ es. (last ++ more) ++ es) (sym (turn.starts.others name apart)),
          )
    ]

    module _ (theirs : IsTheirs after (after port)) where
      of_another : (name : PortName) → name ≢ port
          → (events_of name added ≡ []) × (events_of name gap ≡ []) × (events_of name front ≡ events_of name (before name))
      of_another name apart =
          let all = ap (events_of name) (sym after_is) ∙ theirs name ∙ turn.starts.others name apart in
          let none = no_others name (added ++ gap) front (events_of name (before name)) (s.holds name) all in
          let parts = both_empty (events_of name added) (events_of name gap) (sym (events_of-append name added gap) ∙ none.0) in
          (parts.0, parts.1, none.1)

      of_own : (events_of port gap ≡ []) × (events_of port front ≡ events_of port (before port))
      of_own =
          no_others port gap front (events_of port (before port)) (s.holds port)
          (ap (events_of port) (sym start_is) ∙ turn.starts.own)

      of_any : (name : PortName) → (events_of name gap ≡ []) × (events_of name front ≡ events_of name (before name))
      of_any name = elim (same_or_not name port) [
        | inl is ↦ subst (λ (p : PortName). (events_of p gap ≡ []) × (events_of p front ≡ events_of p (before p)))
            (sym is) of_own
        | inr apart ↦ let one = of_another name apart in (one.1, one.2)
      ]

      start_is_front : turn.start ≡ front
      start_is_front = start_is ∙ ap (λ es. es ++ front) (none_of_all gap (λ name. (of_any name).0))

      -- then nobody else acted during the line, which began where the lines before it ended
      ran_more : LinesMean (PortLineMeans (terms_of script) script.tries) (s.done ++ turn.line ∷ []) (opening script.nodes) []
          (after port)
          (answers ++ (port, reply) ∷ []) left
      ran_more =
          let means = PortLineMeans (terms_of script) script.tries in
          let each = turn.each s.three s.led in
          let earlier = s.ran (λ name. (of_any name).1) in
          let in_turn = port_lines_keep (terms_of script) script.tries s.done (opening script.nodes) s.three [] front answers refl
          earlier in
          let single = port_line_apart contends memory script same some turn.line s.three turn.start added (port, reply) left
          in_turn (λ other apart. (of_another other apart).0) each.4 in
          let here = subst (λ (es : List Event). means turn.line s.three es added (port, reply) left)
          (start_is_front ∙ sym (append-nil front)) single in
          let all : after port ≡ added ++ front = each.2 ∙ ap (λ es. added ++ es) start_is_front in
          rw all
          (LinesMean-push means s.done turn.line (opening script.nodes) s.three left [] front added answers
          (port, reply) earlier here)

    pub so_far_more : (later : List PortName) (answers' : List (PortName × LineAnswer)) → order ≡ port ∷ later
        → answers' ≡ answers ++ (port, reply) ∷ [] → SoFar script after new later answers'
    so_far_more later answers' is told = record {
      front = port;
      three = left;
      done = s.done ++ turn.line ∷ [];
      led = (turn.each s.three s.led).3;
      whole = s.whole ∙ ap (λ names. s.done ++ rest script old names) is ∙ ap (λ ls. s.done ++ ls) (turn.next later)
          ∙ sym (append_assoc s.done (turn.line ∷ []) (rest script new later));
      holds = holds_more;
      ran = λ theirs. rw told (ran_more theirs);
    }

  -- ---- the end

  module _ (if1 if2 bus : Pass) (is_if1 : if1.port ≡ If1) (is_if2 : if2.port ≡ If2) (is_bus : bus.port ≡ Bus) (final : Final)
      (e : Ends if1 if2 bus final) where
    abbrev seen : PortName → List Event
    seen = seen_by if1 if2 bus

    begins_all : (name : PortName) → BeginsWith e.history (seen name)
    begins_all If1 = e.part_if1.begins
    begins_all If2 = e.part_if2.begins
    begins_all Bus = e.part_bus.begins

    own_at_end : (pass : Pass) (name : PortName) → pass.port ≡ name → IsPart pass e.history
        → events_of name e.history ≡ events_of name pass.seen
    own_at_end pass name is part = subst (λ (p : PortName). events_of p e.history ≡ events_of p pass.seen) is part.own

    all_theirs : IsTheirs seen e.history
    all_theirs If1 = own_at_end if1 If1 is_if1 e.part_if1
    all_theirs If2 = own_at_end if2 If2 is_if2 e.part_if2
    all_theirs Bus = own_at_end bus Bus is_bus e.part_bus

    pub all_ran : (ports : Ports) (order : List PortName) (answers : List (PortName × LineAnswer))
        → if1.memory.profile ≡ script.profile → order ≡ [] → SoFar script seen ports order answers → RunsTo script answers final
    all_ran ports order answers same is s =
        let front = seen s.front in
        let means = PortLineMeans (terms_of script) script.tries in
        let more = begins_all s.front in
        let none = λ (name : PortName). no_others name more.0 front (events_of name (seen name)) (s.holds name)
        (ap (events_of name) (sym more.1) ∙ all_theirs name) in
        let whole : e.history ≡ front = more.1 ∙ ap (λ es. es ++ front) (none_of_all more.0 (λ name. (none name).0)) in
        let lines : lines_of script ≡ s.done = s.whole ∙ ap (λ names. s.done ++ rest script ports names) is
        ∙ append-nil s.done in
        let ran : LinesMean means (lines_of script) (opening script.nodes) [] e.history answers s.three =
        rw (whole, lines) (s.ran (λ name. (none name).1)) in
        let profile : final.profile ≡ script.profile = e.profile_is ∙ same in
        record {
          history = e.history;
          runs = record { legal = subst (λ p. IsLegal p e.history) profile e.legal; lines = (s.three, ran) };
          profile_is = profile;
          left = e.left ∙ ap (λ p. final_records p e.history) profile;
        }
