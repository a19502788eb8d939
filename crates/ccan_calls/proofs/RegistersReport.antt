-- Accesses to registers, transfers and changes of all objects: if a step was refused, they end as busy or spent.
use Rattle.std.proofs.Common.{ℕ, zero, suc, Bool, true, false, Option, Some, None, Result, Ok, Err, inl}
use Rattle.ccan_object.specs.Command.{is_pure_read}
use Rattle.ccan_object.specs.Number.{requested}
use Rattle.ccan_object.specs.Profile.{objects_in}
use Rattle.ccan_confine.specs.declared.controller_change.ControllerChange.{ControllerChange}
use Rattle.ccan_confine.specs.declared.controller_change.ControllerChange.TheVariants.{ResetDcan}
use Rattle.ccan_confine.specs.Controller.{shows_interrupt}
use Rattle.ccan_ram.specs.declared.change.Change.{Change}
use Rattle.ccan_ram.specs.declared.change.Change.TheVariants.{Reset, Send}
use Rattle.ccan_ram.specs.declared.flag.Flag.{Flag}
use Rattle.ccan_ram.specs.Flags.{flag_of}
use Rattle.ccan_ram.specs.Terms.{Terms}
use Rattle.ccan_chip.specs.declared.map.Map.{Map}
use Rattle.ccan_chip.specs.declared.map.Map.TheVariants.{Dcan, Narrow, Wide}
use Rattle.ccan_chip.specs.declared.register.Register.{Register}
use Rattle.ccan_chip.specs.declared.register.Register.TheVariants as register
use Rattle.ccan_process.specs.Act.{Attempted, GaveUp, Made, Unfit, WasSpent}
use Rattle.ccan_process.specs.Process.{Does, Ended}
use Rattle.ccan_line.specs.declared.line_answer.LineAnswer.{LineAnswer}
use Rattle.ccan_line.specs.declared.line_answer.LineAnswer.TheVariants as reply
use Rattle.ccan_line.specs.Transfer.{change_of}
use Rattle.ccan_endless.specs.declared.controller_changed.ControllerBusy.{ControllerBusy}
use Rattle.ccan_endless.specs.declared.controller_changed.ControllerChanged.{ControllerChanged}
use Rattle.ccan_registers.specs.declared.access_error.AccessError.{AccessError}
use Rattle.ccan_registers.specs.declared.access_error.AccessError.TheVariants as why
use Rattle.ccan_registers.specs.declared.byte.Byte.{Byte}
use Rattle.ccan_registers.specs.declared.byte.Byte.TheVariants.{Lower, Upper}
use Rattle.ccan_registers.specs.declared.interface_set.InterfaceSet.{InterfaceSet}
use Rattle.ccan_registers.specs.Bytes.{byte_in, has_reset, start_of}
use Rattle.ccan_registers.specs.ChipSteps.{made_or_busy}
use Rattle.ccan_registers.specs.Dcan.{asks_for_reset, is_object_of, is_sending, number_in}
use Rattle.ccan_registers.specs.Register.{change_by, is_own, transfer_told}
use Rattle.ccan_calls.specs.Offsets.{register_at}
use Rattle.ccan_calls.specs.Parts.{flag_shown, interrupt_value, line_pulled, moved_to, transfer, transfer_end, until_shown, value_shown}
use Rattle.ccan_calls.specs.Process.{Attempts, Looks, Process, ending}
use Rattle.ccan_calls.specs.WordProcess.{OffEnd}
use Rattle.ccan_calls.specs.WriteProcess.{WriteEnd, WriteProcess, Written, access_at, attempt_told, change_all, change_controller, change_each, keeping, requests, requests_by, requests_object, resets, resets_in_init, sends, sets, unless_refused, writes, writes_at, writes_byte, writes_byte_of, writes_lower, writes_rest, writes_timing_byte, writes_upper}
use Rattle.ccan_calls.proofs.Reporting.{EndsBad, IsGivenUp, IsLost, Reports, attempt_reports, change_reports, end_reports, found_answered, if_reports, look_answered, option_reports, picture_answered}

-- ---- what is busy

-- an access was given up, or no change was left for it
abbrev pub IsBusy : {Value : Type 0} → Result Value AccessError → Type 0
IsBusy (Ok value) = ⊥
IsBusy (Err why.OtherInterface) = ⊥
IsBusy (Err why.Busy) = Unit {0}
IsBusy (Err why.Spent) = Unit {0}

-- so was the access to what is at an offset
abbrev pub IsBusyOff : {Value : Type 0} → Option (Result Value AccessError) → Type 0
IsBusyOff None = ⊥
IsBusyOff (Some told) = IsBusy told

abbrev pub EndsBusy : WriteEnd → Type 0
EndsBusy end = IsBusy end.0

abbrev pub EndsBusyOff : OffEnd → Type 0
EndsBusyOff end = IsBusyOff end.0

-- ---- looks

module _ {A : Type 0} (bad : A → Type 0) where
  -- a flag of all objects
  pub flags_report : (flag : Flag) (end : ℕ → A) → Reports bad (ending (flag_shown flag) end)
  flags_report flag end = λ found. (inl (picture_answered found), tt)

  -- the interrupt value
  pub interrupt_reports : (pending : Bool) (end : ℕ → A) → Reports bad (ending (interrupt_value pending) end)
  interrupt_reports true end = λ paused. (inl tt, tt)
  interrupt_reports false end = λ found. (inl (picture_answered found), tt)

  pub value_reports : (end : ℕ → A) → Reports bad (ending value_shown end)
  value_reports end = λ found. (inl (found_answered found), interrupt_reports (shows_interrupt found) end)

-- the interrupt line
pub line_reports : (bad : Bool → Type 0) → Reports bad line_pulled
line_reports bad = λ found. (inl (found_answered found), interrupt_reports bad (shows_interrupt found) _)

-- looks until one shows a flag
pub until_reports : (bad : Bool → Type 0) (object : ℕ) (flag : Flag) (turns : ℕ) → Reports bad (until_shown object flag turns)
until_reports bad object flag zero = tt
until_reports bad object flag (suc more) =
    λ found. (
      inl (look_answered object found),
      if_reports bad (flag_of flag found) (Ended true) (until_shown object flag more) tt (until_reports bad object flag more),
    )

-- ---- transfers

-- a transfer was given up, or no change was left for it
abbrev pub IsBusyReply : LineAnswer → Type 0
IsBusyReply (reply.Busy object) = Unit {0}
IsBusyReply (reply.Spent object) = Unit {0}
IsBusyReply told = ⊥

abbrev pub RepliesBusy : LineAnswer × InterfaceSet → Type 0
RepliesBusy end = IsBusyReply end.0

-- an attempt that was lost
lost_replies : (object : ℕ) (own : InterfaceSet) (end : Attempted) → IsLost end → RepliesBusy (transfer_end object own end)
lost_replies object own (Made before after) lost = absurd lost
lost_replies object own (Unfit shown) lost = absurd lost
lost_replies object own GaveUp lost = tt
lost_replies object own WasSpent lost = tt

look_reports : (object : ℕ) (own : InterfaceSet)
    → Reports RepliesBusy (Does (Looks object) (λ found. Ended (moved_to object own found)))
look_reports object own = λ found. (inl (look_answered object found), tt)

attempt_replies : (object : ℕ) (own : InterfaceSet)
    → Reports RepliesBusy (Does (Attempts object (change_of own.registers)) (λ end. Ended (transfer_end object own end)))
attempt_replies object own = λ end. (attempt_reports object (change_of own.registers) end (lost_replies object own end), tt)

pub transfer_reports : (object : ℕ) (own : InterfaceSet) → Reports RepliesBusy (transfer object own)
transfer_reports object own =
    if_reports RepliesBusy (is_pure_read own.registers.command) _ _ (look_reports object own) (attempt_replies object own)

-- ---- changes of all objects, and of the controller

-- an attempt that was lost
told_lost : (end : Attempted) → IsLost end → IsBusy (attempt_told end)
told_lost (Made before after) lost = absurd lost
told_lost (Unfit shown) lost = absurd lost
told_lost GaveUp lost = tt
told_lost WasSpent lost = tt

-- a change that was given up
pub given_up : (outcome : Result ControllerChanged ControllerBusy) → IsGivenUp outcome → IsBusy (made_or_busy outcome)
given_up (Ok made) lost = absurd lost
given_up (Err busy) lost = tt

-- what comes next is left out after a refusal
pub unless_bad : (told : Written) (next : Process Written) → IsBusy told → EndsBad IsBusy (unless_refused told next)
unless_bad (Ok done) next is = absurd is
unless_bad (Err why) next is = is

pub unless_reports : (told : Written) (next : Process Written) → Reports IsBusy next → Reports IsBusy (unless_refused told next)
unless_reports (Ok done) next reports = reports
unless_reports (Err why) next reports = tt

-- so many objects from this one on
each_reports : (change : Change) (more object : ℕ) → Reports IsBusy (change_each change more object)
each_reports change zero object = tt
each_reports change (suc more) object =
    λ end. (
      attempt_reports object change end
          (λ lost. unless_bad (attempt_told end) (change_each change more (suc object)) (told_lost end lost)),
      unless_reports (attempt_told end) (change_each change more (suc object)) (each_reports change more (suc object)),
    )

pub all_report : (terms : Terms) (change : Change) → Reports IsBusy (change_all terms change)
all_report terms change = each_reports change (objects_in terms.profile) 1

pub controller_reports : (change : ControllerChange) → Reports IsBusy (change_controller change)
controller_reports change = λ outcome. (change_reports change outcome (given_up outcome), tt)

pub reset_reports : (terms : Terms) (reset : ControllerChange) → Reports IsBusy (resets terms reset)
reset_reports terms reset =
    λ outcome. (
      change_reports reset outcome
          (λ lost. unless_bad (made_or_busy outcome) (change_all terms Reset) (given_up outcome lost)),
      unless_reports (made_or_busy outcome) (change_all terms Reset) (all_report terms Reset),
    )

keeping_reports : (own : InterfaceSet) (process : Process Written) → Reports IsBusy process
    → Reports EndsBusy (keeping own process)
keeping_reports own process reports = end_reports IsBusy EndsBusy (λ told. (told, own)) process (λ told is. is) reports

-- ---- writes

-- what is told of a request
requests_told : (told : LineAnswer) → IsBusyReply told → IsBusy (transfer_told told)
requests_told (reply.Busy object) is = tt
requests_told (reply.Spent object) is = tt
requests_told told is = absurd is

module _ (terms : Terms) (own : InterfaceSet) where
  sends_report : (object : ℕ) → Reports EndsBusy (sends object own)
  sends_report object =
      λ end. (
        attempt_reports object (Send own.registers.command own.registers.buffer) end (told_lost end),
        tt,
      )

  requests_report : (value : ℕ) → Reports EndsBusy (requests terms value own)
  requests_report value =
      end_reports RepliesBusy EndsBusy (λ end. (transfer_told end.0, end.1)) (transfer (requested terms.profile value) own)
      (λ end is. requests_told end.0 is) (transfer_reports (requested terms.profile value) own)

  object_reports : (object : ℕ) → Reports EndsBusy (requests_object terms object own)
  object_reports object =
      if_reports EndsBusy (is_sending own.registers.command) (sends object own) (requests terms object own)
      (sends_report object) (requests_report object)

  by_reports : (map : Map) (value : ℕ) → Reports EndsBusy (requests_by map terms value own)
  by_reports Narrow value = requests_report value
  by_reports Wide value = requests_report value
  by_reports Dcan value =
      if_reports EndsBusy (is_object_of terms.profile (number_in value)) (requests_object terms (number_in value) own) (sets own)
      (object_reports (number_in value)) tt

  module _ (map : Map) where
    rest_reports : (r : Register) (value : ℕ) → Reports EndsBusy (writes_rest terms map r value own)
    rest_reports (register.Request interface) value =
        if_reports EndsBusy (is_own terms.port interface) (requests_by map terms value own) _ (by_reports map value) tt
    rest_reports (register.Buffer interface reg) value = if_reports EndsBusy (is_own terms.port interface) _ _ tt tt
    rest_reports register.Control value = tt
    rest_reports register.ControlUpper value = tt
    rest_reports register.Status value = tt
    rest_reports register.ErrorCounter value = tt
    rest_reports register.BitTiming value = tt
    rest_reports register.Interrupt value = tt
    rest_reports register.Test value = tt
    rest_reports register.Extension value = tt
    rest_reports (register.Flags flag place) value = tt

    pub software_reports : Reports EndsBusy (keeping own (resets terms ResetDcan))
    software_reports = keeping_reports own (resets terms ResetDcan) (reset_reports terms ResetDcan)

    pub change_kept : (change : ControllerChange) → Reports EndsBusy (keeping own (change_controller change))
    change_kept change = keeping_reports own (change_controller change) (controller_reports change)

    writes_report : (r : Register) (value : ℕ) → Reports EndsBusy (writes terms map r value own)
    writes_report r value =
        if_reports EndsBusy (asks_for_reset map r value) _ _ software_reports
        (option_reports EndsBusy _ (change_by map r value) _ change_kept (rest_reports r value))

    -- ---- of a byte

    timing_reports : (byte : Byte) (value : ℕ) → Reports EndsBusy (writes_timing_byte terms map byte value own)
    timing_reports byte value = λ found. (inl (found_answered found), writes_report register.BitTiming _)

    init_reports : Reports EndsBusy (resets_in_init terms own)
    init_reports =
        λ found. (inl (found_answered found), if_reports EndsBusy found.control.init _ _ software_reports tt)

    lower_reports : (r : Register) (value : ℕ) → Reports EndsBusy (writes_lower terms map r value own)
    lower_reports register.ControlUpper value = tt
    lower_reports register.BitTiming value = timing_reports Lower value
    lower_reports (register.Buffer interface reg) value = writes_report (register.Buffer interface reg) _
    lower_reports (register.Request interface) value = writes_report (register.Request interface) value
    lower_reports register.Control value = writes_report register.Control value
    lower_reports register.Status value = writes_report register.Status value
    lower_reports register.ErrorCounter value = writes_report register.ErrorCounter value
    lower_reports register.Interrupt value = writes_report register.Interrupt value
    lower_reports register.Test value = writes_report register.Test value
    lower_reports register.Extension value = writes_report register.Extension value
    lower_reports (register.Flags flag place) value = writes_report (register.Flags flag place) value

    upper_reports : (r : Register) (value : ℕ) → Reports EndsBusy (writes_upper terms map r value own)
    upper_reports register.Control value = if_reports EndsBusy (has_reset map value) _ _ init_reports tt
    upper_reports register.ControlUpper value = writes_report register.ControlUpper _
    upper_reports register.BitTiming value = timing_reports Upper value
    upper_reports (register.Request interface) value = if_reports EndsBusy (is_own terms.port interface) _ _ tt tt
    upper_reports (register.Buffer interface reg) value = writes_report (register.Buffer interface reg) _
    upper_reports register.Status value = tt
    upper_reports register.ErrorCounter value = tt
    upper_reports register.Interrupt value = tt
    upper_reports register.Test value = tt
    upper_reports register.Extension value = tt
    upper_reports (register.Flags flag place) value = tt

    byte_reports : (byte : Byte) (r : Register) (value : ℕ) → Reports EndsBusy (writes_byte_of byte terms map r value own)
    byte_reports Lower r value = lower_reports r value
    byte_reports Upper r value = upper_reports r value

    -- ---- at an offset

    access_reports : (offset : ℕ) (access : Register → WriteProcess) → ((r : Register) → Reports EndsBusy (access r))
        → Reports EndsBusyOff (access_at terms map offset own access)
    access_reports offset access each =
        option_reports EndsBusyOff _ (register_at map terms.profile offset) _
        (λ r. end_reports EndsBusy EndsBusyOff (λ end. (Some end.0, end.1)) (access r) (λ end is. is) (each r)) tt

    pub writes_at_report : (offset value : ℕ) → Reports EndsBusyOff (writes_at terms map offset value own)
    writes_at_report offset value = access_reports offset (λ r. writes terms map r value own) (λ r. writes_report r value)

    pub writes_byte_report : (offset value : ℕ) → Reports EndsBusyOff (writes_byte terms map offset value own)
    writes_byte_report offset value =
        access_reports (start_of offset) (λ r. writes_byte_of (byte_in offset) terms map r value own)
        (λ r. byte_reports (byte_in offset) r value)
