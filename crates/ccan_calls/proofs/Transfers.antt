-- A transfer is one look, or one attempt of a change that fits every record.
use Rattle.std.proofs.Common.{ℕ, ◌≡◌, ◌↔◌, Bool, true, false, Result, Ok, Err, List, refl, sym, ap, subst, ◌∙◌, if◌then◌else◌}
use Rattle.std.specs.Prelude.{MatchBool}
use Rattle.std.proofs.lemmas.Bool.{false≢true}
use Rattle.ccan_object.specs.declared.record.Record.{Record}
use Rattle.ccan_object.specs.Command.{is_write, is_pure_read}
use Rattle.ccan_object.specs.Interface.{Registers, filled}
use Rattle.ccan_object.specs.Number.{requested}
use Rattle.ccan_ram.specs.declared.change.Change.TheVariants as change
use Rattle.ccan_ram.specs.declared.change.Changed.{Changed}
use Rattle.ccan_ram.specs.declared.change.Changed.TheVariants.{Done, NotNow}
use Rattle.ccan_ram.specs.declared.change.Refused.{Refused}
use Rattle.ccan_ram.specs.declared.change.Refused.TheVariants.{Busy, Spent}
use Rattle.ccan_ram.specs.declared.event.Event.{Event}
use Rattle.ccan_ram.specs.Attempt.{Attempt, IsLook}
use Rattle.ccan_ram.specs.Change.{fits}
use Rattle.ccan_ram.specs.Terms.{Terms}
use Rattle.ccan_process.specs.Act.{Attempted, GaveUp, Made, Unfit, WasSpent, attempted}
use Rattle.ccan_process.specs.Process.{Does, Ended}
use Rattle.ccan_line.specs.declared.line_answer.LineAnswer.{LineAnswer}
use Rattle.ccan_line.specs.declared.line_answer.LineAnswer.TheVariants as answer
use Rattle.ccan_line.specs.Transfer.{change_of, Ends, Answers}
use Rattle.ccan_endless.specs.Chip.{ChipHistory, ram_of}
use Rattle.ccan_registers.specs.declared.interface_set.InterfaceSet.{InterfaceSet}
use Rattle.ccan_registers.specs.ChipSteps.{OnObjects}
use Rattle.ccan_registers.specs.InterfaceSet.{Transferred}
use Rattle.ccan_calls.specs.Parts.{moved_to, transfer, transfer_end}
use Rattle.ccan_calls.specs.Process.{Attempts, Looks}
use Rattle.ccan_calls.specs.Runs.{Runs}
use Rattle.ccan_calls.proofs.Processes.{one_act}

any_record : (registers : Registers) (shown : Record) → fits (change_of registers) shown ≡ true
any_record registers shown = by (is_write registers.command)
  where
    by : (b : Bool)
        → fits (if b then change.Write registers.command registers.buffer else change.Clear registers.command) shown ≡ true
    by true = refl
    by false = refl

-- an end of a transfer, by its parts
pair : (reply told : LineAnswer) (left kept : InterfaceSet) → reply ≡ told → left ≡ kept
    → ◌≡◌ {A = LineAnswer × InterfaceSet} (reply, left) (told, kept)
pair reply told left kept one other = λ i. (one i, other i)

module _ (terms : Terms) (tries object : ℕ) (own left : InterfaceSet) (reply : LineAnswer) where
  abbrev IsEnd : LineAnswer × InterfaceSet → Type 0
  IsEnd end = ◌≡◌ {A = LineAnswer × InterfaceSet} (reply, left) end

  reply_is : (end : LineAnswer × InterfaceSet) → IsEnd end → reply ≡ end.0
  reply_is end is = ap (λ (e : LineAnswer × InterfaceSet). e.0) is

  registers_are : (end : LineAnswer × InterfaceSet) → IsEnd end → left.registers ≡ end.1.registers
  registers_are end is = ap (λ (e : LineAnswer × InterfaceSet). e.1.registers) is

  asked_is : (end : LineAnswer × InterfaceSet) → IsEnd end → left.asked ≡ end.1.asked
  asked_is end is = ap (λ (e : LineAnswer × InterfaceSet). e.1.asked) is

  set_is : (registers : Registers) → left.registers ≡ registers → left.asked ≡ object
      → left ≡ record { registers = registers; asked = object }
  set_is registers one other = λ i. record { registers = one i; asked = other i }

  -- what a transfer that moved a record answers
  abbrev told_by : Registers → LineAnswer
  told_by registers =
      if is_write own.registers.command then answer.Write object registers.buffer else answer.Read object registers.buffer

  moved : (shown : Record) → Ends object own.registers shown reply left.registers → left.asked ≡ object
      → IsEnd (moved_to object own shown)
  moved shown ends asked =
      pair reply _ left _ (ends.answer_is ∙ ap told_by ends.registers_are)
      (set_is (filled own.registers.command shown own.registers) ends.registers_are asked)

  ends_so : (shown : Record) → IsEnd (moved_to object own shown) → Ends object own.registers shown reply left.registers
  ends_so shown is =
      let there = registers_are (moved_to object own shown) is in
      record { registers_are = there; answer_is = reply_is (moved_to object own shown) is ∙ ap told_by (sym there) }

  answered : (outcome : Result Changed Refused) → Answers object own.registers outcome reply left.registers
      → left.asked ≡ object → IsEnd (transfer_end object own (attempted outcome))
  answered (Ok (Done before after number)) ends asked =
      moved (if is_write own.registers.command then after else before) ends asked
  answered (Ok (NotNow shown)) wrong asked = absurd wrong
  answered (Err (Busy told now)) (is, same) asked = pair reply (answer.Busy object) left _ is (set_is own.registers same asked)
  answered (Err Spent) (is, same) asked = pair reply (answer.Spent object) left _ is (set_is own.registers same asked)

  asked_still : (end : Attempted) → IsEnd (transfer_end object own end) → left.asked ≡ object
  asked_still (Made before after) is = asked_is _ is
  asked_still (Unfit shown) is = asked_is _ is
  asked_still GaveUp is = asked_is _ is
  asked_still WasSpent is = asked_is _ is

  answers_so : (seen added : List Event) (outcome : Result Changed Refused)
      → Attempt terms object (change_of own.registers) tries seen added outcome
      → IsEnd (transfer_end object own (attempted outcome)) → Answers object own.registers outcome reply left.registers
  answers_so seen added (Ok (Done before after number)) attempt is =
      ends_so (if is_write own.registers.command then after else before) is
  answers_so seen added (Ok (NotNow shown)) attempt is =
      absurd (false≢true (sym attempt.unfit ∙ any_record own.registers shown))
  answers_so seen added (Err (Busy told now)) attempt is = (reply_is _ is, registers_are _ is)
  answers_so seen added (Err Spent) attempt is = (reply_is _ is, registers_are _ is)

  module _ (seen added : ChipHistory) where
    -- a transfer, by whether it only reads
    abbrev Moves : Bool → Type 0
    Moves reads =
        OnObjects terms.port (λ s a. MatchBool reads
        ((shown : Record) × IsLook terms object shown a × Ends object own.registers shown reply left.registers)
        ((outcome : Result Changed Refused) × Attempt terms object (change_of own.registers) tries s a outcome
        × Answers object own.registers outcome reply left.registers)) seen added
        × (left.asked ≡ object)

    moves : (reads : Bool) → Moves reads
        ↔ Runs terms tries
        (if reads then Does (Looks object) (λ found. Ended (moved_to object own found))
        else Does (Attempts object (change_of own.registers)) (λ end. Ended (transfer_end object own end))) seen added
        (reply, left)
    moves true =
        let one = one_act terms tries (Looks object) (moved_to object own) seen added (reply, left) in (
          λ h.
              let (on, asked) = h in
              let (shown, seen_so, ends) = on.means in
              one.1 (shown, record { none = on.none; means = seen_so }, moved shown ends asked),
          λ h.
              let (shown, on, is) = one.0 h in
              (record { none = on.none; means = (shown, on.means, ends_so shown is) }, asked_is (moved_to object own shown) is),
        )
    moves false =
        let one = one_act terms tries (Attempts object (change_of own.registers)) (transfer_end object own) seen added
        (reply, left) in (
          λ h.
              let (on, asked) = h in
              let (outcome, attempt, told) = on.means in
              one.1 (
                attempted outcome,
                (outcome, record { none = on.none; means = attempt }, refl),
                answered outcome told asked,
              ),
          λ h.
              let (end, (outcome, on, is), ends) = one.0 h in
              let here = subst (λ e. IsEnd (transfer_end object own e)) is ends in (
                record {
                  none = on.none;
                  means = (outcome, on.means, answers_so (ram_of seen) (ram_of added) outcome on.means here);
                },
                asked_still (attempted outcome) here,
              ),
        )

module _ (terms : Terms) (tries number : ℕ) (own left : InterfaceSet) (seen added : ChipHistory) (reply : LineAnswer) where
  pub transfers : Transferred terms tries number own seen added reply left
      ↔ Runs terms tries (transfer (requested terms.profile number) own) seen added (reply, left)
  transfers =
      let one = moves terms tries (requested terms.profile number) own left reply seen added
      (is_pure_read own.registers.command) in (
        λ h. one.0 (h.transfers, h.asked),
        λ h. let (t, asked) = one.1 h in record { transfers = t; asked = asked },
      )
