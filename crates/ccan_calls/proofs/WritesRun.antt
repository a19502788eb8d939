-- A write of a register is its process.
use Rattle.std.proofs.Common.{ℕ, ◌≡◌, ◌↔◌, inl, inr, Option, Some, None, Result, Ok, Err, [], ◌++◌, refl, sym, ap, subst, ◌∙◌}
use Rattle.std.specs.Option.{option_map_or}
use Rattle.std.proofs.lemmas.Option.{none-some, same_Some}
use Rattle.ccan_object.specs.declared.profile.Profile.{Profile}
use Rattle.ccan_object.specs.declared.register.Reg.{Reg}
use Rattle.ccan_object.specs.Interface.{set_register, shown}
use Rattle.ccan_object.specs.Number.{requested}
use Rattle.ccan_confine.specs.declared.controller.Controller.{Controller}
use Rattle.ccan_confine.specs.declared.controller_change.ControllerChange.{ControllerChange}
use Rattle.ccan_confine.specs.declared.controller_change.ControllerChange.TheVariants.{ResetDcan}
use Rattle.ccan_ram.specs.declared.change.Change.TheVariants.{Reset, Send}
use Rattle.ccan_ram.specs.declared.change.Changed.{Changed}
use Rattle.ccan_ram.specs.declared.change.Changed.TheVariants.{Done, NotNow}
use Rattle.ccan_ram.specs.declared.change.Refused.{Refused}
use Rattle.ccan_ram.specs.declared.change.Refused.TheVariants.{Busy, Spent}
use Rattle.ccan_ram.specs.Terms.{Terms}
use Rattle.ccan_process.specs.Act.{Attempted, attempted}
use Rattle.ccan_process.specs.Process.{Ended}
use Rattle.ccan_line.specs.declared.line_answer.LineAnswer.{LineAnswer}
use Rattle.ccan_endless.specs.declared.controller_changed.ControllerBusy.{ControllerBusy}
use Rattle.ccan_endless.specs.declared.controller_changed.ControllerChanged.{ControllerChanged}
use Rattle.ccan_endless.specs.Chip.{ChipHistory}
use Rattle.ccan_chip.specs.declared.map.Map.{Map}
use Rattle.ccan_chip.specs.declared.map.Map.TheVariants.{Dcan, Narrow, Wide}
use Rattle.ccan_chip.specs.declared.register.Register.{Register}
use Rattle.ccan_chip.specs.declared.register.Register.TheVariants as register
use Rattle.ccan_registers.specs.declared.access_error.AccessError.TheVariants.{OtherInterface}
use Rattle.ccan_registers.specs.declared.byte.Byte.{Byte}
use Rattle.ccan_registers.specs.declared.byte.Byte.TheVariants.{Lower, Upper}
use Rattle.ccan_registers.specs.declared.interface_set.InterfaceSet.{InterfaceSet}
use Rattle.ccan_registers.specs.Bytes.{ResetsInInit, WritesByte, WritesByteOf, WritesLower, WritesTimingByte, WritesUpper, byte_in, has_reset, start_of, with_byte}
use Rattle.ccan_registers.specs.ChipSteps.{Changes, Makes, Then, made_or_busy}
use Rattle.ccan_registers.specs.Dcan.{NamesNone, Sends, asks_for_reset, is_object_of, is_sending, number_in, sent_from}
use Rattle.ccan_registers.specs.Register.{HasNone, IsAt, IsOthers, IsReadOnly, Requests, RequestsBy, RequestsObject, ResetsBySoftware, SetsOwn, Writes, WritesAt, WritesController, WritesRest, change_by, is_own, transfer_told}
use Rattle.ccan_registers.specs.Resetting.{ResetsChip}
use Rattle.ccan_calls.specs.Parts.{transfer}
use Rattle.ccan_calls.specs.Process.{Attempts, ChangesController, Process, ending}
use Rattle.ccan_calls.specs.Offsets.{register_at}
use Rattle.ccan_calls.specs.Runs.{Runs}
use Rattle.ccan_calls.specs.WriteProcess.{WriteEnd, WriteProcess, Written, access_at, attempt_told, change_all, change_controller, keeping, others, requests, requests_by, requests_object, resets, resets_in_init, sends, sent_set, sets, unless_refused, writes, writes_at, writes_byte, writes_byte_of, writes_lower, writes_rest, writes_timing_byte, writes_upper}
use Rattle.ccan_calls.proofs.Changing.{changes_all, told_so}
use Rattle.ccan_calls.proofs.Processes.{chosen, ends_so, one_act, only_first, picked}
use Rattle.ccan_calls.proofs.RegistersFound.{IsFound, found, one_at}
use Rattle.ccan_calls.proofs.Transfers.{transfers}

-- an end of a write, by its parts
pair : (told also : Written) (left kept : InterfaceSet) → told ≡ also → left ≡ kept
    → ◌≡◌ {A = WriteEnd} (told, left) (also, kept)
pair told also left kept one other = λ i. (one i, other i)

told_is : (x y : WriteEnd) → x ≡ y → x.0 ≡ y.0
told_is x y is = ap (λ (e : WriteEnd). e.0) is

left_is : (x y : WriteEnd) → x ≡ y → x.1 ≡ y.1
left_is x y is = ap (λ (e : WriteEnd). e.1) is

-- ---- the controller, and a reset

module _ (terms : Terms) (tries : ℕ) (seen added : ChipHistory) (told : Written) where
  pub makes : (change : ControllerChange)
      → Makes terms change tries seen added told ↔ Runs terms tries (change_controller change) seen added told
  makes change =
      let one = one_act terms tries (ChangesController change) made_or_busy seen added told in (one.1, one.0)

  module _ (reset : ControllerChange) where
    abbrev after : Written → Process Written
    after made = unless_refused made (change_all terms Reset)

    by_made : (outcome : Result ControllerChanged ControllerBusy) (made : Written) → made ≡ made_or_busy outcome
        → Then (λ s a. Changes terms.port reset tries s a outcome) (λ s a. Runs terms tries (after made) s a told) seen added
        → ResetsChip terms reset tries seen added told
    by_made outcome (Ok done) is steps = inr (record {
      earlier = steps.earlier;
      later = steps.later;
      whole = steps.whole;
      begins = (outcome, steps.begins, is);
      ends = (changes_all Reset terms tries (steps.earlier ++ seen) steps.later told).1 steps.ends;
    })
    by_made outcome (Err why) is steps =
        let whole = only_first added steps.earlier steps.later steps.whole steps.ends.0 in
        inl (
          why,
          steps.ends.1,
          (outcome, subst (λ es. Changes terms.port reset tries seen es outcome) whole steps.begins, is),
        )

    to_reset : ResetsChip terms reset tries seen added told → Runs terms tries (resets terms reset) seen added told
    to_reset (inl (why, is, (outcome, changes, made))) = (
      outcome,
      record {
        earlier = added;
        later = [];
        whole = refl;
        begins = changes;
        ends = subst (λ m. Runs terms tries (after m) (added ++ seen) [] told) made (refl, is);
      },
    )
    to_reset (inr steps) =
        let (outcome, changes, made) = steps.begins in (
          outcome,
          record {
            earlier = steps.earlier;
            later = steps.later;
            whole = steps.whole;
            begins = changes;
            ends = subst (λ m. Runs terms tries (after m) (steps.earlier ++ seen) steps.later told) made
                ((changes_all Reset terms tries (steps.earlier ++ seen) steps.later told).0 steps.ends);
          },
        )

    pub resets_chip : ResetsChip terms reset tries seen added told ↔ Runs terms tries (resets terms reset) seen added told
    resets_chip = (to_reset, λ h. let (outcome, steps) = h in by_made outcome (made_or_busy outcome) refl steps)

-- ---- writes

module _ (terms : Terms) (tries : ℕ) (own : InterfaceSet) (seen added : ChipHistory) (told : Written) (left : InterfaceSet) where
  abbrev pub DoesSo : WriteProcess → Type 0
  DoesSo process = Runs terms tries process seen added (told, left)

  no_step : (also : Written) (kept : InterfaceSet)
      → ((added ≡ []) × (told ≡ also) × (left ≡ kept)) ↔ DoesSo (Ended (also, kept))
  no_step also kept = (
    λ h. (h.0, pair told also left kept h.1 h.2),
    λ h. (h.0, told_is (told, left) (also, kept) h.1, left_is (told, left) (also, kept) h.1),
  )

  read_only : IsReadOnly own added told left ↔ DoesSo (sets own)
  read_only =
      let none = no_step (Ok tt) own in (
        λ h. none.0 (h.done.quiet, h.done.told_is, h.left_is),
        λ h. let e = none.1 h in record { done = record { quiet = e.0; told_is = e.1 }; left_is = e.2 },
      )

  other_ones : IsOthers own left added told ↔ DoesSo (others own)
  other_ones =
      let none = no_step (Err OtherInterface) own in (
        λ h. none.0 (h.quiet, h.told_is, h.left_is),
        λ h. let e = none.1 h in record { quiet = e.0; left_is = e.2; told_is = e.1 },
      )

  names_none : NamesNone own added told left ↔ DoesSo (sets own)
  names_none =
      let none = no_step (Ok tt) own in (
        λ h. none.0 (h.quiet, h.told_is, h.left_is),
        λ h. let e = none.1 h in record { quiet = e.0; told_is = e.1; left_is = e.2 },
      )

  sets_own : (reg : Reg) (value : ℕ) → SetsOwn reg value own added told left
      ↔ DoesSo (sets (record own { registers = set_register reg value own.registers }))
  sets_own reg value =
      let none = no_step (Ok tt) (record own { registers = set_register reg value own.registers }) in (
        λ h. none.0 (h.done.quiet, h.done.told_is, h.left_is),
        λ h. let e = none.1 h in record { done = record { quiet = e.0; told_is = e.1 }; left_is = e.2 },
      )

  kept : (process : Process Written) → (Runs terms tries process seen added told × (left ≡ own)) ↔ DoesSo (keeping own process)
  kept process =
      let end = ends_so terms tries (λ (t : Written). (t, own)) process seen added (told, left) in (
        λ h. end.1 (told, h.0, pair told told left own refl h.1),
        λ h.
            let (also, on, is) = end.0 h in (
              subst (λ t. Runs terms tries process seen added t) (sym (told_is (told, left) (also, own) is)) on,
              left_is (told, left) (also, own) is,
            ),
      )

  pub writes_controller : (change : ControllerChange)
      → WritesController terms change tries own seen added told left ↔ DoesSo (keeping own (change_controller change))
  writes_controller change =
      let both = kept (change_controller change) in
      let made = makes terms tries seen added told change in (
        λ h. both.0 (made.0 h.makes, h.left_is),
        λ h. let e = both.1 h in record { makes = made.1 e.0; left_is = e.1 },
      )

  pub resets_so : ResetsBySoftware terms tries own seen added told left ↔ DoesSo (keeping own (resets terms ResetDcan))
  resets_so =
      let both = kept (resets terms ResetDcan) in
      let reset = resets_chip terms tries seen added told ResetDcan in (
        λ h. both.0 (reset.0 h.resets, h.left_is),
        λ h. let e = both.1 h in record { resets = reset.1 e.0; left_is = e.1 },
      )

  -- ---- requests

  requests_so : (value : ℕ) → Requests terms tries value own seen added told left ↔ DoesSo (requests terms value own)
  requests_so value =
      let process = transfer (requested terms.profile value) own in
      let end_so : LineAnswer × InterfaceSet → WriteEnd = λ end. (transfer_told end.0, end.1) in
      let end = ends_so terms tries end_so process seen added (told, left) in (
        λ h.
            end.1 (
              (h.reply, left),
              (transfers terms tries value own left seen added h.reply).0 h.transferred,
              pair told (transfer_told h.reply) left left h.told_is refl,
            ),
        λ h.
            let (there, on, is) = end.0 h in
            let same = left_is (told, left) (end_so there) is in
            record {
              reply = there.0;
              transferred = (transfers terms tries value own left seen added there.0).1
                  (subst (λ (l : InterfaceSet). Runs terms tries process seen added (there.0, l)) (sym same) on);
              told_is = told_is (told, left) (end_so there) is;
            },
      )

  sent_so : (object : ℕ) (outcome : Result Changed Refused)
      → sent_set object own (attempted outcome) ≡ record (sent_from outcome own) { asked = object }
  sent_so object (Ok (Done before after number)) = refl
  sent_so object (Ok (NotNow shown)) = refl
  sent_so object (Err (Busy tried now)) = refl
  sent_so object (Err Spent) = refl

  sends_so : (object : ℕ) → Sends terms tries object own seen added told left ↔ DoesSo (sends object own)
  sends_so object =
      let end_so : Attempted → WriteEnd = λ end. (attempt_told end, sent_set object own end) in
      let one = one_act terms tries (Attempts object (Send own.registers.command own.registers.buffer)) end_so seen added
      (told, left) in (
        λ h.
            one.1 (
              attempted h.outcome,
              (h.outcome, h.attempt, refl),
              pair told _ left _ (h.told_is ∙ sym (told_so h.outcome)) (h.left_is ∙ sym (sent_so object h.outcome)),
            ),
        λ h.
            let (end, (outcome, on, ended), is) = one.0 h in
            record {
              outcome = outcome;
              attempt = on;
              told_is = told_is (told, left) (end_so end) is ∙ ap attempt_told ended ∙ told_so outcome;
              left_is = left_is (told, left) (end_so end) is ∙ ap (sent_set object own) ended ∙ sent_so object outcome;
            },
      )

  by_object : (object : ℕ) → RequestsObject terms tries object own seen added told left ↔ DoesSo (requests_object terms object own)
  by_object object =
      chosen terms tries seen added (told, left) (is_sending own.registers.command) _ _ _ _ (sends_so object) (requests_so object)

  by_map : (map : Map) (value : ℕ) → RequestsBy map terms tries value own seen added told left
      ↔ DoesSo (requests_by map terms value own)
  by_map Narrow value = requests_so value
  by_map Wide value = requests_so value
  by_map Dcan value =
      chosen terms tries seen added (told, left) (is_object_of terms.profile (number_in value)) _ _ _ _
      (by_object (number_in value)) names_none

  -- ---- registers

  pub rest_so : (map : Map) (r : Register) (value : ℕ) → WritesRest terms tries map r value own seen added told left
      ↔ DoesSo (writes_rest terms map r value own)
  rest_so map (register.Request interface) value =
      chosen terms tries seen added (told, left) (is_own terms.port interface) _ _ _ _ (by_map map value) other_ones
  rest_so map (register.Buffer interface reg) value =
      chosen terms tries seen added (told, left) (is_own terms.port interface) _ _ _ _ (sets_own reg value) other_ones
  rest_so map register.Control value = read_only
  rest_so map register.ControlUpper value = read_only
  rest_so map register.Status value = read_only
  rest_so map register.ErrorCounter value = read_only
  rest_so map register.BitTiming value = read_only
  rest_so map register.Interrupt value = read_only
  rest_so map register.Test value = read_only
  rest_so map register.Extension value = read_only
  rest_so map (register.Flags flag place) value = read_only

  pub register_write : (map : Map) (r : Register) (value : ℕ) → Writes terms tries map r value own seen added told left
      ↔ DoesSo (writes terms map r value own)
  register_write map r value =
      chosen terms tries seen added (told, left) (asks_for_reset map r value) _ _ _ _ resets_so
      (picked terms tries seen added (told, left) (change_by map r value) _ _ _ _ (rest_so map r value) writes_controller)

-- ---- a byte

module _ (terms : Terms) (tries : ℕ) (own : InterfaceSet) (seen added : ChipHistory) (told : Written) (left : InterfaceSet)
    (map : Map) where
  abbrev DoesIt : WriteProcess → Type 0
  DoesIt process = DoesSo terms tries own seen added told left process

  timing_byte : (byte : Byte) (value : ℕ) → WritesTimingByte terms tries map byte value own seen added told left
      ↔ DoesIt (writes_timing_byte terms map byte value own)
  timing_byte byte value =
      let each = λ (found : Controller) (s a : ChipHistory).
      register_write terms tries own s a told left map register.BitTiming (with_byte byte value found.timing.register) in (
        λ h.
            let steps = h.steps in (
              h.found,
              record {
                earlier = steps.earlier;
                later = steps.later;
                whole = steps.whole;
                begins = steps.begins;
                ends = (each h.found (steps.earlier ++ seen) steps.later).0 steps.ends;
              },
            ),
        λ h.
            let (found, steps) = h in
            record {
              found = found;
              steps = record {
                earlier = steps.earlier;
                later = steps.later;
                whole = steps.whole;
                begins = steps.begins;
                ends = (each found (steps.earlier ++ seen) steps.later).1 steps.ends;
              };
            },
      )

  in_init : ResetsInInit terms tries own seen added told left ↔ DoesIt (resets_in_init terms own)
  in_init =
      let each = λ (found : Controller) (s a : ChipHistory).
      chosen terms tries s a (told, left) found.control.init (ResetsBySoftware terms tries own s a told left)
      (IsReadOnly own a told left) (keeping own (resets terms ResetDcan)) (sets own)
      (resets_so terms tries own s a told left) (read_only terms tries own s a told left) in (
        λ h.
            let steps = h.steps in (
              h.found,
              record {
                earlier = steps.earlier;
                later = steps.later;
                whole = steps.whole;
                begins = steps.begins;
                ends = (each h.found (steps.earlier ++ seen) steps.later).0 steps.ends;
              },
            ),
        λ h.
            let (found, steps) = h in
            record {
              found = found;
              steps = record {
                earlier = steps.earlier;
                later = steps.later;
                whole = steps.whole;
                begins = steps.begins;
                ends = (each found (steps.earlier ++ seen) steps.later).1 steps.ends;
              };
            },
      )

  written : (r : Register) (value : ℕ) → Writes terms tries map r value own seen added told left
      ↔ DoesIt (writes terms map r value own)
  written r value = register_write terms tries own seen added told left map r value

  read_only_so : IsReadOnly own added told left ↔ DoesIt (sets own)
  read_only_so = read_only terms tries own seen added told left

  lower : (r : Register) (value : ℕ) → WritesLower terms tries map r value own seen added told left
      ↔ DoesIt (writes_lower terms map r value own)
  lower register.ControlUpper value = read_only_so
  lower register.BitTiming value = timing_byte Lower value
  lower (register.Buffer interface reg) value =
      written (register.Buffer interface reg) (with_byte Lower value (shown reg own.registers))
  lower register.Control value = written register.Control value
  lower register.Status value = written register.Status value
  lower register.ErrorCounter value = written register.ErrorCounter value
  lower register.Interrupt value = written register.Interrupt value
  lower register.Test value = written register.Test value
  lower register.Extension value = written register.Extension value
  lower (register.Request interface) value = written (register.Request interface) value
  lower (register.Flags flag place) value = written (register.Flags flag place) value

  upper : (r : Register) (value : ℕ) → WritesUpper terms tries map r value own seen added told left
      ↔ DoesIt (writes_upper terms map r value own)
  upper register.Control value =
      chosen terms tries seen added (told, left) (has_reset map value) _ _ _ _ in_init read_only_so
  upper register.ControlUpper value = written register.ControlUpper (with_byte Upper value 0)
  upper register.BitTiming value = timing_byte Upper value
  upper (register.Request interface) value =
      chosen terms tries seen added (told, left) (is_own terms.port interface) _ _ _ _ read_only_so
      (other_ones terms tries own seen added told left)
  upper (register.Buffer interface reg) value =
      written (register.Buffer interface reg) (with_byte Upper value (shown reg own.registers))
  upper register.Status value = read_only_so
  upper register.ErrorCounter value = read_only_so
  upper register.Interrupt value = read_only_so
  upper register.Test value = read_only_so
  upper register.Extension value = read_only_so
  upper (register.Flags flag place) value = read_only_so

  pub byte_write : (byte : Byte) (r : Register) (value : ℕ) → WritesByteOf byte terms tries map r value own seen added told left
      ↔ DoesIt (writes_byte_of byte terms map r value own)
  byte_write Lower r value = lower r value
  byte_write Upper r value = upper r value

-- ---- at an offset

-- an access to the register that begins at the offset
abbrev Accesses : Map → Profile → ℕ → InterfaceSet → ChipHistory → InterfaceSet → (Register → Written → Type 0) → Option Written
    → Type 0
Accesses map profile offset own added left what None = HasNone map profile offset × (added ≡ []) × (left ≡ own)
Accesses map profile offset own added left what (Some told) = (r : Register) × IsAt map profile offset r × what r told

module _ (terms : Terms) (tries : ℕ) (own : InterfaceSet) (seen added : ChipHistory) (left : InterfaceSet) (map : Map)
    (offset : ℕ) (what : Register → Written → Type 0) (access : Register → WriteProcess)
    (each : (r : Register) (told : Written) → what r told ↔ Runs terms tries (access r) seen added (told, left)) where
  abbrev OffEnd : Type 0
  OffEnd = Option Written × InterfaceSet

  abbrev Access : Option Register → Option Written → Type 0
  Access o told =
      Runs {A = OffEnd} terms tries (option_map_or (λ r. ending (access r) (λ end. (Some end.0, end.1))) o (Ended (None, own)))
      seen added (told, left)

  some_of : (x y : OffEnd) → x ≡ y → x.0 ≡ y.0
  some_of x y is = ap (λ (e : OffEnd). e.0) is

  rest_of : (x y : OffEnd) → x ≡ y → x.1 ≡ y.1
  rest_of x y is = ap (λ (e : OffEnd). e.1) is

  access_by : (o : Option Register) → IsFound map terms.profile offset o → (told : Option Written)
      → Accesses map terms.profile offset own added left what told ↔ Access o told
  access_by None none None = (
    λ h. (h.1, λ i. (None, h.2 i)),
    λ h. (none, h.0, rest_of (None, left) (None, own) h.1),
  )
  access_by None none (Some told) = (
    λ h. let (r, is, so) = h in absurd (none r is.has is.stands),
    λ h. absurd (none-some told (sym (some_of (Some told, left) (None, own) h.1))),
  )
  access_by (Some r) is None = (
    λ h. absurd (h.0 r is.has is.stands),
    λ h.
        let (end, on, same) =
        (ends_so terms tries (λ (e : WriteEnd). (Some e.0, e.1)) (access r) seen added (None, left)).0 h in
        absurd (none-some end.0 (some_of (None, left) (Some end.0, end.1) same)),
  )
  access_by (Some r) is (Some told) =
      let end_so : WriteEnd → OffEnd = λ e. (Some e.0, e.1) in
      let end = ends_so terms tries end_so (access r) seen added (Some told, left) in (
        λ h.
            let (other, there, so) = h in
            let same = one_at map terms.profile offset other r there is in
            end.1 ((told, left), (each r told).0 (subst (λ m. what m told) same so), refl),
        λ h.
            let (there, on, same) = end.0 h in
            let told_so = same_Some told there.0 (some_of (Some told, left) (end_so there) same) in
            let back : ◌≡◌ {A = WriteEnd} there (told, left) =
            pair there.0 told there.1 left (sym told_so) (sym (rest_of (Some told, left) (end_so there) same)) in
            (r, is, (each r told).1 (subst (λ (e : WriteEnd). Runs terms tries (access r) seen added e) back on)),
      )

  pub accesses : (told : Option Written)
      → Accesses map terms.profile offset own added left what told
      ↔ Runs terms tries (access_at terms map offset own access) seen added (told, left)
  accesses told = access_by (register_at map terms.profile offset) (found map terms.profile offset) told

module _ (terms : Terms) (tries : ℕ) (map : Map) (offset value : ℕ) (own : InterfaceSet) (seen added : ChipHistory)
    (left : InterfaceSet) where
  -- what a write does to a register
  abbrev WritesSo : Register → Written → Type 0
  WritesSo r told = Writes terms tries map r value own seen added told left

  abbrev ByteSo : Register → Written → Type 0
  ByteSo r told = WritesByteOf (byte_in offset) terms tries map r value own seen added told left

  write_is : (told : Option Written) → WritesAt terms tries map offset value own seen added told left
      ↔ Accesses map terms.profile offset own added left WritesSo told
  write_is None = (λ h. h, λ h. h)
  write_is (Some told) = (λ h. h, λ h. h)

  byte_is : (told : Option Written) → WritesByte terms tries map offset value own seen added told left
      ↔ Accesses map terms.profile (start_of offset) own added left ByteSo told
  byte_is None = (λ h. h, λ h. h)
  byte_is (Some told) = (λ h. h, λ h. h)

  pub write_at : (told : Option Written) → WritesAt terms tries map offset value own seen added told left
      ↔ Runs terms tries (writes_at terms map offset value own) seen added (told, left)
  write_at told =
      let same = write_is told in
      let all = accesses terms tries own seen added left map offset WritesSo (λ r. writes terms map r value own)
      (λ r t. register_write terms tries own seen added t left map r value) told in
      (λ h. all.0 (same.0 h), λ h. same.1 (all.1 h))

  pub write_byte : (told : Option Written) → WritesByte terms tries map offset value own seen added told left
      ↔ Runs terms tries (writes_byte terms map offset value own) seen added (told, left)
  write_byte told =
      let same = byte_is told in
      let all = accesses terms tries own seen added left map (start_of offset) ByteSo
      (λ r. writes_byte_of (byte_in offset) terms map r value own)
      (λ r t. byte_write terms tries own seen added t left map (byte_in offset) r value) told in
      (λ h. all.0 (same.0 h), λ h. same.1 (all.1 h))
