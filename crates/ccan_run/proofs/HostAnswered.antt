-- What the answers of a host tell, as steps of the history.
use Rattle.std.proofs.Common.{◌≡◌, ℕ, Bool, true, false, List, [], ◌∷◌, ◌++◌, ◌&&◌, not, Result, Ok, Err, cond, refl, sym, ap, subst, ◌∙◌, append_assoc}
use Rattle.std.specs.Prelude.{MatchBool}
use Rattle.std.proofs.lemmas.List.{append-nil}
use Rattle.ccan_object.specs.declared.record.Record.{Record}
use Rattle.ccan_object.specs.Command.{is_write, is_pure_read, clears_intpnd, has_txrqst_newdat}
use Rattle.ccan_object.specs.Group.{by_groups}
use Rattle.ccan_object.specs.Interface.{Registers}
use Rattle.ccan_object.specs.Number.{requested}
use Rattle.ccan_ram.specs.declared.change.Change.{Change}
use Rattle.ccan_ram.specs.declared.change.Change.TheVariants as change
use Rattle.ccan_ram.specs.declared.change.Changed.{Changed}
use Rattle.ccan_ram.specs.declared.change.Changed.TheVariants.{Done, NotNow}
use Rattle.ccan_ram.specs.declared.change.Refused.{Refused}
use Rattle.ccan_ram.specs.declared.change.Refused.TheVariants as refused
use Rattle.ccan_ram.specs.declared.event.Event.{Event}
use Rattle.ccan_ram.specs.declared.event.Operation.TheVariants.{Look, Make}
use Rattle.ccan_ram.specs.declared.flag.Flag.{Flag}
use Rattle.ccan_ram.specs.declared.flag.Flag.TheVariants.{IntPnd}
use Rattle.ccan_ram.specs.History.{changes_by, events_of}
use Rattle.ccan_ram.specs.Terms.{Terms}
use Rattle.ccan_ram.specs.Attempt.{Attempt, IsLook}
use Rattle.ccan_handler.specs.Watch.{Watches}
use Rattle.ccan_line.specs.declared.host_line.HostLine.{HostLine}
use Rattle.ccan_line.specs.declared.host_line.HostLine.TheVariants as host
use Rattle.ccan_line.specs.declared.line_answer.LineAnswer.{LineAnswer}
use Rattle.ccan_line.specs.declared.line_answer.LineAnswer.TheVariants as answer
use Rattle.ccan_line.specs.Lines.{LinesMean}
use Rattle.ccan_line.specs.Transfer.{Answers, Ends, change_of, with_settings}
use Rattle.ccan_line.specs.Host.{HostLineAdds, HostLineMeans}
use Rattle.ccan_line.proofs.HostLinesRun.{host_lines as lines_run}
use Rattle.ccan_run.specs.Answered.{HasStep, HostShownBy, IsHostPart, IsOfTransfer, IsReplyTo, HostInOrder, changes_told, reading, registers_set, registers_after}
use Rattle.ccan_run.proofs.StepsShown.{looked_at, done_at, watch_shown, watch_in_vain, number_shown, word_shown}
use Rattle.ccan_run.proofs.HostChanges.{changes_by-look, changes_by-attempt, changes_by-watch, changes_by-number, changes_by-flags}

-- ---- a transfer

pure_reads : (write clears takes : Bool) → (not write && not clears && not takes) ≡ true → write ≡ false
pure_reads true clears takes is = absurd cc
pure_reads false clears takes is = refl

module _ (terms : Terms) (line : HostLine) (registers : Registers) (reply : LineAnswer) (left : Registers)
    (events : List Event) where
  abbrev IsPart : LineAnswer → Type 0
  IsPart told = IsHostPart terms.profile terms.port line registers told events

  -- the answer is shown, and tells what is left in the registers
  abbrev IsShown : Type 0
  IsShown = IsPart reply × (left ≡ registers_after reply registers)

  tells : (told : LineAnswer) (now : Registers) → reply ≡ told → left ≡ now → registers_after told registers ≡ now
      → HostShownBy terms.profile terms.port line registers told events
      → changes_by terms.port events ≡ changes_told registers told → IsShown
  tells told now is left_is same shown changes = (
    subst IsPart (sym is) (record { shown = shown; changes = changes }),
    left_is ∙ (sym same ∙ ap (λ (r : LineAnswer). registers_after r registers) (sym is)),
  )

  writes : (object : ℕ) (before after : Record) → is_write registers.command ≡ true
      → HasStep terms.port object (Make (change.Write registers.command registers.buffer)) before after events
      → Ends object registers after reply left → changes_by terms.port events ≡ 1 → IsShown
  writes object before after is step ends changes =
      let left_is : left ≡ record registers { buffer = after } = ends.registers_are
      ∙ ap (λ (w : Bool). record registers { buffer = cond w after (by_groups registers.command after registers.buffer) }) is in
      let buffer_is : left.buffer ≡ after = ap (λ (i : Registers). i.buffer) left_is in
      let told : reply ≡ answer.Write object after = ends.answer_is
      ∙ (ap (λ (w : Bool). cond w (answer.Write object left.buffer) (answer.Read object left.buffer)) is
      ∙ ap (answer.Write object) buffer_is) in
      tells (answer.Write object after) (record registers { buffer = after }) told left_is refl (before, step) changes

  reads : (object : ℕ) (before after : Record) → is_write registers.command ≡ false
      → HasStep terms.port object (reading registers.command) before after events
      → Ends object registers before reply left
      → changes_by terms.port events ≡ cond (is_pure_read registers.command) 0 1 → IsShown
  reads object before after is step ends changes =
      let shown = by_groups registers.command before registers.buffer in
      let left_is : left ≡ record registers { buffer = shown } = ends.registers_are
      ∙ ap (λ (w : Bool). record registers { buffer = cond w before shown }) is in
      let buffer_is : left.buffer ≡ shown = ap (λ (i : Registers). i.buffer) left_is in
      let told : reply ≡ answer.Read object shown = ends.answer_is
      ∙ (ap (λ (w : Bool). cond w (answer.Write object left.buffer) (answer.Read object left.buffer)) is
      ∙ ap (answer.Read object) buffer_is) in
      tells (answer.Read object shown) (record registers { buffer = shown }) told left_is refl
      (record { before = before; after = after; step = step; shows = refl }) changes

  -- a change by whether it writes
  abbrev kind_of : Bool → Change
  kind_of write = cond write (change.Write registers.command registers.buffer) (change.Clear registers.command)

  by_kind : (object : ℕ) (write : Bool) (before after : Record) → is_write registers.command ≡ write
      → is_pure_read registers.command ≡ false
      → HasStep terms.port object (Make (change_of registers)) before after events
      → Ends object registers (cond (is_write registers.command) after before) reply left
      → changes_by terms.port events ≡ 1 → IsShown
  by_kind object true before after is pure step ends changes =
      writes object before after is
      (subst (λ (w : Bool). HasStep terms.port object (Make (kind_of w)) before after events) is step)
      (subst (λ (w : Bool). Ends object registers (cond w after before) reply left) is ends) changes
  by_kind object false before after is pure step ends changes =
      let clears : HasStep terms.port object (Make (change.Clear registers.command)) before after events =
      subst (λ (w : Bool). HasStep terms.port object (Make (kind_of w)) before after events) is step in
      reads object before after is
      (subst (λ (p : Bool). HasStep terms.port object (cond p Look (Make (change.Clear registers.command))) before after events)
      (sym pure) clears)
      (subst (λ (w : Bool). Ends object registers (cond w after before) reply left) is ends)
      (changes ∙ ap (λ (p : Bool). cond p 0 1) (sym pure))

module _ (terms : Terms) (tries : ℕ) (line : HostLine) where
  by_outcome : (object : ℕ) (registers : Registers) (seen added : List Event) (reply : LineAnswer) (left : Registers)
      (outcome : Result Changed Refused) → is_pure_read registers.command ≡ false
      → Attempt terms object (change_of registers) tries seen added outcome
      → Answers object registers outcome reply left → IsShown terms line registers reply left added
  by_outcome object registers seen added reply left (Ok (Done before after number)) pure attempt answers =
      by_kind terms line registers reply left added object (is_write registers.command) before after refl pure
      (done_at terms object (change_of registers) tries seen added before after number attempt) answers
      (changes_by-attempt terms object (change_of registers) tries seen added (Ok (Done before after number)) attempt)
  by_outcome object registers seen added reply left (Ok (NotNow found)) pure attempt answers = absurd answers
  by_outcome object registers seen added reply left (Err (refused.Busy told now)) pure attempt answers =
      tells terms line registers reply left added (answer.Busy object) registers answers.0 answers.1 refl tt
      (changes_by-attempt terms object (change_of registers) tries seen added (Err (refused.Busy told now)) attempt)
  by_outcome object registers seen added reply left (Err refused.Spent) pure attempt answers =
      tells terms line registers reply left added (answer.Spent object) registers answers.0 answers.1 refl tt
      (changes_by-attempt terms object (change_of registers) tries seen added (Err refused.Spent) attempt)

  by_command : (pure : Bool) (object : ℕ) (registers : Registers) (seen added : List Event) (reply : LineAnswer)
      (left : Registers)
      → is_pure_read registers.command ≡ pure
      → MatchBool pure
      ((shown : Record) × IsLook terms object shown added × Ends object registers shown reply left)
      ((outcome : Result Changed Refused) × Attempt terms object (change_of registers) tries seen added outcome
      × Answers object registers outcome reply left)
      → IsShown terms line registers reply left added
  by_command true object registers seen added reply left is (shown, look, ends) =
      let c = registers.command in
      reads terms line registers reply left added object shown shown
      (pure_reads (is_write c) (clears_intpnd c) (has_txrqst_newdat c) is)
      (subst (λ (p : Bool). HasStep terms.port object (cond p Look (Make (change.Clear c))) shown shown added) (sym is)
      (looked_at terms object shown added look)) ends
      (changes_by-look terms object shown added look ∙ ap (λ (p : Bool). cond p 0 1) (sym is))
  by_command false object registers seen added reply left is (outcome, attempt, answers) =
      by_outcome object registers seen added reply left outcome is attempt answers

-- ---- a line

module _ (terms : Terms) (tries : ℕ) where
  watched : (object : ℕ) (flag : Flag) (turns : ℕ) (registers : Registers) (added : List Event) (shown : Bool)
      → Watches terms object flag turns added shown
      → HostShownBy terms.profile terms.port (host.Until object flag turns) registers (answer.Until object flag shown) added
  watched object flag turns registers added true h = watch_shown terms object flag turns added h
  watched object flag turns registers added false h = watch_in_vain terms object flag turns added h

  abbrev Shows : HostLine → Registers → List Event → LineAnswer → Registers → Type 0
  Shows line registers added reply left = IsShown terms line (registers_set line registers) reply left added

  host_line : (line : HostLine) (registers : Registers) (seen added : List Event) (reply : LineAnswer) (left : Registers)
      → HostLineAdds terms tries line registers seen added reply left → Shows line registers added reply left
  host_line (host.Transfer request set) registers seen added reply left means =
      let now = with_settings set.items registers in
      let object = requested terms.profile request in
      by_command terms tries (host.Transfer request set) (is_pure_read now.command) object now seen added reply left refl means
  host_line (host.Until object flag turns) registers seen added reply left (shown, is, h, same) =
      tells terms (host.Until object flag turns) registers reply left added (answer.Until object flag shown) registers is same
      refl (watched object flag turns registers added shown h)
      (changes_by-watch terms object flag turns added shown h)
  host_line host.Interrupt registers seen added reply left (value, is, h, same) =
      tells terms host.Interrupt registers reply left added (answer.Interrupt value) registers is same refl
      (number_shown terms IntPnd value added h) (changes_by-number terms IntPnd value added h)
  host_line (host.Flags flag) registers seen added reply left (word, is, h, same) =
      tells terms (host.Flags flag) registers reply left added (answer.Flags flag word terms.profile) registers is same refl
      (word_shown terms flag word added h) (changes_by-flags terms flag added word h)

  -- ---- what a line is answered

  moved : (write : Bool) (object : ℕ) (buffer : Record) (reply : LineAnswer)
      → reply ≡ cond write (answer.Write object buffer) (answer.Read object buffer) → IsOfTransfer object reply
  moved true object buffer reply is = rw is refl
  moved false object buffer reply is = rw is refl

  transferred : (object : ℕ) (registers : Registers) (reply : LineAnswer) (left : Registers)
      (outcome : Result Changed Refused) → Answers object registers outcome reply left → IsOfTransfer object reply
  transferred object registers reply left (Ok (Done before after number)) answers =
      moved (is_write registers.command) object left.buffer reply answers.answer_is
  transferred object registers reply left (Ok (NotNow found)) answers = absurd answers
  transferred object registers reply left (Err (refused.Busy told now)) answers = rw answers.0 refl
  transferred object registers reply left (Err refused.Spent) answers = rw answers.0 refl

  of_transfer : (pure : Bool) (object : ℕ) (registers : Registers) (seen added : List Event) (reply : LineAnswer)
      (left : Registers)
      → MatchBool pure
      ((shown : Record) × IsLook terms object shown added × Ends object registers shown reply left)
      ((outcome : Result Changed Refused) × Attempt terms object (change_of registers) tries seen added outcome
      × Answers object registers outcome reply left)
      → IsOfTransfer object reply
  of_transfer true object registers seen added reply left (shown, look, ends) =
      moved (is_write registers.command) object left.buffer reply ends.answer_is
  of_transfer false object registers seen added reply left (outcome, attempt, answers) =
      transferred object registers reply left outcome answers

  replies_to : (line : HostLine) (registers : Registers) (seen added : List Event) (reply : LineAnswer) (left : Registers)
      → HostLineAdds terms tries line registers seen added reply left → IsReplyTo terms.profile line reply
  replies_to (host.Transfer request set) registers seen added reply left means =
      let now = with_settings set.items registers in
      of_transfer (is_pure_read now.command) (requested terms.profile request) now seen added reply left means
  replies_to (host.Until object flag turns) registers seen added reply left means = rw means.1 (refl, refl)
  replies_to host.Interrupt registers seen added reply left means = rw means.1 tt
  replies_to (host.Flags flag) registers seen added reply left means = rw means.1 (refl, refl)

  -- the lines of a host, whatever comes after them
  pub host_lines : (lines : List HostLine) (registers : Registers) (seen added : List Event) (answers : List LineAnswer)
      (left : Registers) → LinesMean (HostLineMeans terms tries) lines registers seen added answers left → (more : List Event)
      → events_of terms.port more ≡ [] → HostInOrder terms.profile terms.port lines registers answers (more ++ added)
  host_lines [] registers seen added answers left (none, empty, same) more foreign =
      let last : events_of terms.port (more ++ added) ≡ [] = rw none (ap (events_of terms.port) (append-nil more) ∙ foreign) in
      subst (λ (l : List LineAnswer). HostInOrder terms.profile terms.port [] registers l (more ++ added)) (sym empty) last
  host_lines (line ∷ lines) registers seen added answers left
      (later, first, reply, replies, between, whole, all, means, rest) more foreign =
      let adds = (lines_run terms tries line registers between seen first reply).1 means in
      let shows = host_line line registers seen first reply between adds in
      let all_later = host_lines lines between (first ++ seen) later replies left rest more foreign in
      let now = registers_set line registers in
      let there : HostInOrder terms.profile terms.port (line ∷ lines) registers (reply ∷ replies) (more ++ added) = (
        more ++ later,
        first,
        ap (λ (es : List Event). more ++ es) whole ∙ sym (append_assoc more later first),
        replies_to line registers seen first reply between adds,
        shows.0,
        subst (λ (i : Registers). HostInOrder terms.profile terms.port lines i replies (more ++ later)) shows.1 all_later,
      ) in
      subst (λ (l : List LineAnswer). HostInOrder terms.profile terms.port (line ∷ lines) registers l (more ++ added))
      (sym all) there
