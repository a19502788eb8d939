-- A write of a register by the bus's port makes no use of an interface, and leaves it.
use Rattle.std.proofs.Common.{ℕ, ◌≡◌, ◌↔◌, ◌+◌, ◌/◌, ◌%◌, ◌^◌, ◌==◌, Bool, true, false, Option, Some, None, Ok, Err, refl, sym, ap, subst, ◌∙◌, if◌then◌else◌}
use Rattle.std.specs.Option.{option_map_or}
use Rattle.ccan_object.specs.Interface.{shown}
use Rattle.ccan_confine.specs.declared.controller_change.ControllerChange.TheVariants.{ResetDcan, WriteControl, WriteTiming}
use Rattle.ccan_confine.specs.RegisterWords.{control_in}
use Rattle.ccan_ram.specs.declared.port.PortName.{PortName}
use Rattle.ccan_ram.specs.declared.port.PortName.TheVariants.{Bus}
use Rattle.ccan_ram.specs.Terms.{Terms}
use Rattle.ccan_process.specs.Process.{Does, Ended, followed_by}
use Rattle.ccan_endless.specs.Chip.{ChipHistory}
use Rattle.ccan_chip.specs.declared.interface.Interface.{Interface}
use Rattle.ccan_chip.specs.declared.interface.Interface.TheVariants.{One, Two}
use Rattle.ccan_chip.specs.declared.map.Map.{Map}
use Rattle.ccan_chip.specs.declared.map.Map.TheVariants.{Dcan, Narrow, Wide}
use Rattle.ccan_chip.specs.declared.register.Register.{Register}
use Rattle.ccan_chip.specs.declared.register.Register.TheVariants as register
use Rattle.ccan_object.specs.declared.register.Reg.{Reg}
use Rattle.ccan_object.specs.Interface.{set_register}
use Rattle.ccan_registers.specs.declared.access_error.AccessError.TheVariants as why
use Rattle.ccan_registers.specs.declared.byte.Byte.{Byte}
use Rattle.ccan_registers.specs.declared.byte.Byte.TheVariants.{Lower, Upper}
use Rattle.ccan_registers.specs.declared.interface_set.InterfaceSet.{InterfaceSet}
use Rattle.ccan_registers.specs.Bytes.{byte_in, has_reset, start_of, with_byte}
use Rattle.ccan_registers.specs.Dcan.{asks_for_reset}
use Rattle.ccan_registers.specs.InterfaceSet.{zero_set}
use Rattle.ccan_registers.specs.Register.{both_written, change_by, is_own, is_refused}
use Rattle.ccan_calls.specs.BusRegisters.{bus_access_at, bus_resets_in_init, bus_writes, bus_writes_at, bus_writes_byte, bus_writes_byte_of, bus_writes_control_word, bus_writes_halves, bus_writes_lower, bus_writes_timing, bus_writes_upper, bus_writes_word, refuses_interface}
use Rattle.ccan_calls.specs.Offsets.{are_halves, register_at}
use Rattle.ccan_calls.specs.Process.{LooksAtController, Process, ending}
use Rattle.ccan_calls.specs.Runs.{Runs}
use Rattle.ccan_calls.specs.WordProcess.{OffEnd, some_written, writes_control_word, writes_halves, writes_word}
use Rattle.ccan_calls.specs.WriteProcess.{WriteEnd, WriteProcess, Written, access_at, change_controller, keeping, others, requests_by, resets, resets_in_init, sets, writes, writes_at, writes_byte, writes_byte_of, writes_lower, writes_rest, writes_timing_byte, writes_upper}
use Rattle.ccan_calls.proofs.Processes.{ending_follow, ending_twice, ends_so, follow_ending}

module _ {A B : Type 0} (end : A → B) where
  case_ends : (b : Bool) (one other : Process A) (one' other' : Process B) → one' ≡ ending one end → other' ≡ ending other end
      → (if b then one' else other') ≡ ending (if b then one else other) end
  case_ends true one other one' other' p q = p
  case_ends false one other one' other' p q = q

  option_ends : {X : Type 0} (o : Option X) (none : Process A) (some : X → Process A) (none' : Process B) (some' : X → Process B)
      → none' ≡ ending none end → ((x : X) → some' x ≡ ending (some x) end)
      → option_map_or some' o none' ≡ ending (option_map_or some o none) end
  option_ends None none some none' some' p q = p
  option_ends (Some x) none some none' some' p q = q x

-- ---- registers

module _ (terms : Terms) (bus : terms.port ≡ Bus) (map : Map) (own : InterfaceSet) where
  bus_owns_none : (interface : Interface) → is_own Bus interface ≡ false
  bus_owns_none One = refl
  bus_owns_none Two = refl

  not_own : (interface : Interface) → is_own terms.port interface ≡ false
  not_own interface = subst (λ (p : PortName). is_own p interface ≡ false) (sym bus) (bus_owns_none interface)

  -- a register of an interface is another port's
  is_others : (interface : Interface) (mine : WriteProcess)
      → (if is_own terms.port interface then mine else others own) ≡ others own
  is_others interface mine = ap (λ (b : Bool). if b then mine else others own) (not_own interface)

  rest_kept : (r : Register) (value : ℕ) → writes_rest terms map r value own ≡ keeping own (refuses_interface r)
  rest_kept (register.Request interface) value = is_others interface (requests_by map terms value own)
  rest_kept (register.Buffer interface reg) value =
      is_others interface (sets (record own { registers = set_register reg value own.registers }))
  rest_kept register.Control value = refl
  rest_kept register.ControlUpper value = refl
  rest_kept register.Status value = refl
  rest_kept register.ErrorCounter value = refl
  rest_kept register.BitTiming value = refl
  rest_kept register.Interrupt value = refl
  rest_kept register.Test value = refl
  rest_kept register.Extension value = refl
  rest_kept (register.Flags flag place) value = refl

  abbrev keep : Written → WriteEnd
  keep told = (told, own)

  kept : (r : Register) (value : ℕ) → writes terms map r value own ≡ keeping own (bus_writes terms map r value)
  kept r value =
      case_ends keep (asks_for_reset map r value) (resets terms ResetDcan)
      (option_map_or change_controller (change_by map r value) (refuses_interface r)) _ _ refl
      (option_ends keep (change_by map r value) (refuses_interface r) change_controller _ _ (rest_kept r value) (λ change. refl))

  buffer_refused : (m : Map) (interface : Interface) (reg : Reg) (value : ℕ)
      → bus_writes terms m (register.Buffer interface reg) value ≡ Ended (Err why.OtherInterface)
  buffer_refused Narrow interface reg value = refl
  buffer_refused Wide interface reg value = refl
  buffer_refused Dcan interface reg value = refl

  buffer_kept : (interface : Interface) (reg : Reg) (value : ℕ)
      → writes terms map (register.Buffer interface reg) value own ≡ others own
  buffer_kept interface reg value =
      kept (register.Buffer interface reg) value ∙ ap (keeping own) (buffer_refused map interface reg value)

  -- ---- bytes

  timing_kept : (byte : Byte) (value : ℕ)
      → writes_timing_byte terms map byte value own ≡ keeping own (bus_writes_timing terms map byte value)
  timing_kept byte value =
      λ i. Does LooksAtController (λ found. kept register.BitTiming (with_byte byte value found.timing.register) i)

  in_init_kept : resets_in_init terms own ≡ keeping own (bus_resets_in_init terms)
  in_init_kept =
      λ i. Does LooksAtController (λ found. case_ends keep found.control.init (resets terms ResetDcan) (Ended (Ok tt))
      (keeping own (resets terms ResetDcan)) (sets own) refl refl i)

  lower_kept : (r : Register) (value : ℕ) → writes_lower terms map r value own ≡ keeping own (bus_writes_lower terms map r value)
  lower_kept register.ControlUpper value = refl
  lower_kept register.BitTiming value = timing_kept Lower value
  lower_kept (register.Buffer interface reg) value =
      buffer_kept interface reg (with_byte Lower value (shown reg own.registers))
  lower_kept register.Control value = kept register.Control value
  lower_kept register.Status value = kept register.Status value
  lower_kept register.ErrorCounter value = kept register.ErrorCounter value
  lower_kept register.Interrupt value = kept register.Interrupt value
  lower_kept register.Test value = kept register.Test value
  lower_kept register.Extension value = kept register.Extension value
  lower_kept (register.Request interface) value = kept (register.Request interface) value
  lower_kept (register.Flags flag place) value = kept (register.Flags flag place) value

  upper_kept : (r : Register) (value : ℕ) → writes_upper terms map r value own ≡ keeping own (bus_writes_upper terms map r value)
  upper_kept register.Control value =
      case_ends keep (has_reset map value) (bus_resets_in_init terms) (Ended (Ok tt)) _ _ in_init_kept refl
  upper_kept register.ControlUpper value = kept register.ControlUpper (with_byte Upper value 0)
  upper_kept register.BitTiming value = timing_kept Upper value
  upper_kept (register.Request interface) value = is_others interface (sets own)
  upper_kept (register.Buffer interface reg) value =
      buffer_kept interface reg (with_byte Upper value (shown reg own.registers))
  upper_kept register.Status value = refl
  upper_kept register.ErrorCounter value = refl
  upper_kept register.Interrupt value = refl
  upper_kept register.Test value = refl
  upper_kept register.Extension value = refl
  upper_kept (register.Flags flag place) value = refl

  byte_kept : (byte : Byte) (r : Register) (value : ℕ)
      → writes_byte_of byte terms map r value own ≡ keeping own (bus_writes_byte_of byte terms map r value)
  byte_kept Lower r value = lower_kept r value
  byte_kept Upper r value = upper_kept r value

  -- ---- at an offset

  abbrev keep_off : Option Written → OffEnd
  keep_off told = (told, own)

  -- what was written, and the interface as it was
  some_kept : (process : WriteProcess) (told : Process Written) → process ≡ keeping own told
      → some_written process ≡ ending (ending told (λ t. Some t)) keep_off
  some_kept process told same =
      ap some_written same ∙ ending_twice told keep (λ end. (Some end.0, end.1))
      ∙ sym (ending_twice told (λ (t : Written). Some t) keep_off)

  access_kept : (offset : ℕ) (access : Register → WriteProcess) (told : Register → Process Written)
      → ((r : Register) → access r ≡ keeping own (told r))
      → access_at terms map offset own access ≡ ending (bus_access_at terms map offset told) keep_off
  access_kept offset access told same =
      option_ends keep_off (register_at map terms.profile offset) (Ended None) (λ r. ending (told r) (λ t. Some t))
      (Ended (None, own)) (λ r. some_written (access r)) refl (λ r. some_kept (access r) (told r) (same r))

  pub at_kept : (offset value : ℕ) → writes_at terms map offset value own ≡ ending (bus_writes_at terms map offset value) keep_off
  at_kept offset value =
      access_kept offset (λ r. writes terms map r value own) (λ r. bus_writes terms map r value) (λ r. kept r value)

  pub byte_at_kept : (offset value : ℕ)
      → writes_byte terms map offset value own ≡ ending (bus_writes_byte terms map offset value) keep_off
  byte_at_kept offset value =
      access_kept (start_of offset) (λ r. writes_byte_of (byte_in offset) terms map r value own)
      (λ r. bus_writes_byte_of (byte_in offset) terms map r value) (λ r. byte_kept (byte_in offset) r value)

  -- ---- words

  module _ (offset value : ℕ) where
    abbrev upper : Process (Option Written)
    upper = bus_writes_at terms map (offset + 2) (value / 2 ^ 16)

    abbrev lower : Process (Option Written)
    lower = bus_writes_at terms map offset (value % 2 ^ 16)

    abbrev next : OffEnd → Process OffEnd
    next high =
        if is_refused high.0 then Ended high
        else ending (writes_at terms map offset (value % 2 ^ 16) high.1) (λ low. (both_written high.0 low.0, low.1))

    abbrev told_next : Option Written → Process (Option Written)
    told_next high = if is_refused high then Ended high else ending lower (λ low. both_written high low)

    both_kept : (high : Option Written)
        → ending (writes_at terms map offset (value % 2 ^ 16) own) (λ low. (both_written high low.0, low.1))
        ≡ ending (ending lower (λ low. both_written high low)) keep_off
    both_kept high =
        ap (λ (p : Process OffEnd). ending p (λ low. (both_written high low.0, low.1))) (at_kept offset (value % 2 ^ 16))
        ∙ ending_twice lower keep_off (λ low. (both_written high low.0, low.1))
        ∙ sym (ending_twice lower (λ low. both_written high low) keep_off)

    next_kept : (high : Option Written) → next (high, own) ≡ ending (told_next high) keep_off
    next_kept high =
        case_ends keep_off (is_refused high) (Ended high) (ending lower (λ low. both_written high low)) (Ended (high, own))
        (ending (writes_at terms map offset (value % 2 ^ 16) own) (λ low. (both_written high low.0, low.1))) refl
        (both_kept high)

    halves_kept : writes_halves terms map offset value own ≡ ending (bus_writes_halves terms map offset value) keep_off
    halves_kept =
        ap (λ (p : Process OffEnd). followed_by p next) (at_kept (offset + 2) (value / 2 ^ 16))
        ∙ follow_ending upper keep_off next ∙ (λ i. followed_by upper (λ high. next_kept high i))
        ∙ sym (ending_follow upper told_next keep_off)

    control_kept : writes_control_word terms map value own ≡ keeping own (bus_writes_control_word terms map value)
    control_kept =
        case_ends keep (asks_for_reset map register.Control (value % 2 ^ 16)) (resets terms ResetDcan)
        (change_controller (WriteControl (control_in value))) _ _ refl refl

    abbrev timing : Process Written
    timing = change_controller (WriteTiming (value % 2 ^ 16) (value / 2 ^ 16))

    pub word_kept : writes_word terms map offset value own ≡ ending (bus_writes_word terms map offset value) keep_off
    word_kept =
        case_ends keep_off (offset % 4 == 0) _ (Ended None) _ (Ended (None, own))
        (case_ends keep_off (are_halves map terms.profile offset register.BitTiming register.Extension)
        (ending timing (λ told. Some told)) _ _ _ (some_kept (keeping own timing) timing refl)
        (case_ends keep_off (are_halves map terms.profile offset register.Control register.ControlUpper)
        (ending (bus_writes_control_word terms map value) (λ told. Some told)) (bus_writes_halves terms map offset value) _ _
        (some_kept (writes_control_word terms map value own) (bus_writes_control_word terms map value) control_kept) halves_kept))
        refl

-- ---- what they run to

module _ (terms : Terms) (tries : ℕ) (seen added : ChipHistory) (process : InterfaceSet → Process OffEnd)
    (told_so : Process (Option Written)) (same : (own : InterfaceSet) → process own ≡ ending told_so (λ told. (told, own)))
    (what : InterfaceSet → Option Written → InterfaceSet → Type 0)
    (each : (own : InterfaceSet) (told : Option Written) (left : InterfaceSet)
    → what own told left ↔ Runs terms tries (process own) seen added (told, left)) where
  pub writes_kept : (told : Option Written)
      → ((own : InterfaceSet) × what own told own) ↔ Runs terms tries told_so seen added told
  writes_kept told = (
    λ h.
        let (own, so) = h in
        let (there, on, is) = (ends_so terms tries (λ (t : Option Written). (t, own)) told_so seen added (told, own)).0
        (subst (λ p. Runs terms tries p seen added (told, own)) (same own) ((each own told own).0 so)) in
        subst (λ t. Runs terms tries told_so seen added t) (sym (ap (λ (e : OffEnd). e.0) is)) on,
    λ h. (
      zero_set,
      (each zero_set told zero_set).1 (subst (λ p. Runs terms tries p seen added (told, zero_set))
          (sym (same zero_set))
          ((ends_so terms tries (λ (t : Option Written). (t, zero_set)) told_so seen added (told, zero_set)).1 (told, h, refl))),
    ),
  )
