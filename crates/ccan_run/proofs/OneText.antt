-- A script has one text. Where nobody else acts, the process of each line has one run, and the line stands for it: so its events,
-- its answer and what it leaves are determined.
use Rattle.std.proofs.Common.{ℕ, ◌≡◌, ◌≤◌, true, List, [], ◌∷◌, ◌++◌, refl, sym, ap, ap₂, subst, ◌∙◌, append_assoc}
use Rattle.std.proofs.lemmas.List.{append-nil}
use Rattle.ccan_object.specs.declared.profile.Profile.{Profile}
use Rattle.ccan_object.specs.Interface.{Registers}
use Rattle.ccan_ram.specs.declared.port.PortName.{PortName}
use Rattle.ccan_ram.specs.declared.port.PortName.TheVariants.{If1, If2, Bus}
use Rattle.ccan_ram.specs.declared.event.Event.{Event}
use Rattle.ccan_ram.specs.History.{IsLegal}
use Rattle.ccan_ram.specs.Terms.{Terms}
use Rattle.ccan_ram.proofs.Histories.{IsLegal-older}
use Rattle.ccan_bus.specs.declared.choice.Choice.TheVariants.{InTurn}
use Rattle.ccan_bus.specs.Past.{BusPast}
use Rattle.ccan_process.proofs.RunsOnce.{runs_once}
use Rattle.ccan_line.specs.declared.host_line.HostLine.{HostLine}
use Rattle.ccan_line.specs.declared.bus_line.BusLine.{BusLine}
use Rattle.ccan_line.specs.declared.line_answer.LineAnswer.{LineAnswer}
use Rattle.ccan_line.specs.declared.line_end.LineEnd.{LineEnd}
use Rattle.ccan_line.specs.Script.{ScriptFields}
use Rattle.ccan_line.specs.Host.{HostLineMeans}
use Rattle.ccan_line.specs.BusPort.{BusLineMeans}
use Rattle.ccan_line.specs.Lines.{LinesMean}
use Rattle.ccan_line.specs.LineProcess.{host_process, bus_process}
use Rattle.ccan_line.specs.Turn.{PortLine, of_if1, of_if2, of_bus, Three, PortLineMeans, terms_of, opening}
use Rattle.ccan_line.proofs.BusLinesRun.{means_by}
use Rattle.ccan_line.proofs.InTurn.{ChoosesInTurn, ThreeInTurn, port_line_keeps}
use Rattle.ccan_run.specs.Ordered.{lines_of, answers_text, finals_text}
use Rattle.ccan_run.specs.Laws.{HasOneText, WhatWasPrintedIsTheText}

-- ---- lines of any kind

module _ {Line State Answer : Type 0} (means : Line → State → List Event → List Event → Answer → State → Type 0)
    (profile : Profile) (Keeps : State → Type 0)
    (keeps : (line : Line) (state left : State) (seen added : List Event) (answer : Answer) → Keeps state
    → means line state seen added answer left → Keeps left)
    (once : (line : Line) (state left left' : State) (seen added added' : List Event) (answer answer' : Answer) → Keeps state
    → IsLegal profile (added ++ seen) → IsLegal profile (added' ++ seen) → means line state seen added answer left
    → means line state seen added' answer' left'
    → (added ≡ added') × (answer ≡ answer') × (left ≡ left')) where
  lines_once : (lines : List Line) (state left left' : State) (seen added added' : List Event) (answers answers' : List Answer)
      → Keeps state → IsLegal profile (added ++ seen) → IsLegal profile (added' ++ seen)
      → LinesMean means lines state seen added answers left → LinesMean means lines state seen added' answers' left'
      → (added ≡ added') × (answers ≡ answers')
  lines_once [] state left left' seen added added' answers answers' kept legal legal' m m' =
      (m.0 ∙ sym m'.0, m.1 ∙ sym m'.1)
  lines_once (line ∷ lines) state left left' seen added added' answers answers' kept legal legal'
      (later, first, answer, more, mid, whole, all, told, rest)
      (later', first', answer', more', mid', whole', all', told', rest') =
      let begins : added ++ seen ≡ later ++ (first ++ seen) = ap (λ es. es ++ seen) whole ∙ append_assoc later first seen in
      let begins' : added' ++ seen ≡ later' ++ (first' ++ seen) = ap (λ es. es ++ seen) whole'
      ∙ append_assoc later' first' seen in
      let so_far = subst (IsLegal profile) begins legal in
      let so_far' = subst (IsLegal profile) begins' legal' in
      let one = once line state mid mid' seen first first' answer answer' kept (IsLegal-older profile later (first ++ seen) so_far)
      (IsLegal-older profile later' (first' ++ seen) so_far') told told' in
      let rest'' = subst (λ (es : List Event). LinesMean means lines mid (es ++ seen) later' more' left') (sym one.0)
      (subst (λ (s : State). LinesMean means lines s (first' ++ seen) later' more' left') (sym one.2) rest') in
      let so_far'' = subst (λ (es : List Event). IsLegal profile (later' ++ (es ++ seen))) (sym one.0) so_far' in
      let others = lines_once lines mid left left' (first ++ seen) later later' more more'
      (keeps line state mid seen first answer kept told) so_far so_far'' rest rest'' in (
        whole ∙ ap₂ ◌++◌ others.0 one.0 ∙ sym whole',
        all ∙ ap₂ ◌∷◌ one.1 others.1 ∙ sym all',
      )

-- ---- a line of a host, and one of the bus

module _ (terms : Terms) (alone : terms.alone ≡ true) (tries : ℕ) (some : 1 ≤ tries) (seen added added' : List Event)
    (legal : IsLegal terms.profile (added ++ seen)) (legal' : IsLegal terms.profile (added' ++ seen))
    (reply reply' : LineAnswer) where
  host_once : (line : HostLine) (registers left left' : Registers)
      → HostLineMeans terms tries line registers seen added reply left
      → HostLineMeans terms tries line registers seen added' reply' left' → (added ≡ added') × (reply ≡ reply') × (left ≡ left')
  host_once line registers left left' m m' =
      let one = runs_once terms alone tries some (host_process terms.profile line registers) seen added added'
      (reply, left) (reply', left') legal legal' m m' in (
        one.0,
        ap (λ (end : LineAnswer × Registers). end.0) one.1,
        ap (λ (end : LineAnswer × Registers). end.1) one.1,
      )

  bus_once : (line : BusLine) (past after after' : BusPast) → ChoosesInTurn past
      → BusLineMeans terms tries line past seen added reply after
      → BusLineMeans terms tries line past seen added' reply' after' → (added ≡ added') × (reply ≡ reply') × (after ≡ after')
  bus_once line past after after' in_turn m m' =
      let ran = (means_by terms tries line past after seen added reply InTurn in_turn).0 m in
      let ran' = (means_by terms tries line past after' seen added' reply' InTurn in_turn).0 m' in
      let one = runs_once terms alone tries some (bus_process terms.profile line past) seen added added'
      (ran.0, after) (ran'.0, after') legal legal' ran.2 ran'.2 in (
        one.0,
        sym ran.1 ∙ ap (λ (end : LineEnd × BusPast). end.0.answer) one.1 ∙ ran'.1,
        ap (λ (end : LineEnd × BusPast). end.1) one.1,
      )

-- ---- a line of some port

module _ (script : ScriptFields) (some : 1 ≤ script.tries) where
  port_once : (line : PortLine) (three left left' : Three) (seen added added' : List Event)
      (reply reply' : PortName × LineAnswer) → ThreeInTurn (terms_of script) script.tries three
      → IsLegal script.profile (added ++ seen) → IsLegal script.profile (added' ++ seen)
      → PortLineMeans (terms_of script) script.tries line three seen added reply left
      → PortLineMeans (terms_of script) script.tries line three seen added' reply' left'
      → (added ≡ added') × (reply ≡ reply') × (left ≡ left')
  port_once (of_if1 line) three left left' seen added added' reply reply' in_turn legal legal' (after, port, means, is)
      (after', port', means', is') =
      let once = host_once (terms_of script If1) refl script.tries some seen added added' legal legal'
      reply.1 reply'.1 line three.first after after' means means' in
      (once.0, ap₂ (λ p a. (p, a)) (port ∙ sym port') once.1, is ∙ ap (λ r. record three { first = r }) once.2 ∙ sym is')
  port_once (of_if2 line) three left left' seen added added' reply reply' in_turn legal legal' (after, port, means, is)
      (after', port', means', is') =
      let once = host_once (terms_of script If2) refl script.tries some seen added added' legal legal'
      reply.1 reply'.1 line three.second after after' means means' in
      (once.0, ap₂ (λ p a. (p, a)) (port ∙ sym port') once.1, is ∙ ap (λ r. record three { second = r }) once.2 ∙ sym is')
  port_once (of_bus line) three left left' seen added added' reply reply' in_turn legal legal' (after, port, means, is)
      (after', port', means', is') =
      let once = bus_once (terms_of script Bus) refl script.tries some seen added added' legal legal'
      reply.1 reply'.1 line three.bus after after' in_turn means means' in
      (once.0, ap₂ (λ p a. (p, a)) (port ∙ sym port') once.1, is ∙ ap (λ r. record three { bus = r }) once.2 ∙ sym is')

pub one_text : HasOneText
one_text script text other some h h' =
    let legal = subst (IsLegal script.profile) (sym (append-nil h.history)) h.runs.legal in
    let legal' = subst (IsLegal script.profile) (sym (append-nil h'.history)) h'.runs.legal in
    let once = lines_once (PortLineMeans (terms_of script) script.tries) script.profile
    (ThreeInTurn (terms_of script) script.tries) (port_line_keeps (terms_of script) script.tries) (port_once script some)
    (lines_of script) (opening script.nodes)
    h.runs.lines.0 h'.runs.lines.0 [] h.history h'.history h.answers h'.answers refl legal legal' h.runs.lines.1 h'.runs.lines.1 in
    h.is ∙ ap₂ (λ (answers : List (PortName × LineAnswer))
    (history : List Event). answers_text answers ++ finals_text script.profile history) once.1 once.0 ∙ sym h'.is

pub printed_text : WhatWasPrintedIsTheText
printed_text script old new some p =
    (p.text, p.has_text, p.written, λ other also. one_text script other p.text some also p.has_text)
