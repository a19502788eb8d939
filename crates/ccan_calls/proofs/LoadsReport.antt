-- A choice of what is sent, and acceptance filtering: if a step was refused, they end as busy or spent.
use Rattle.std.proofs.Common.{ℕ, zero, suc, Bool, true, false, Option, Some, None, Result, inl, refl}
use Rattle.ccan_object.specs.declared.profile.Profile.{Profile}
use Rattle.ccan_object.specs.declared.record.Record.{Record}
use Rattle.ccan_object.specs.Profile.{objects_in}
use Rattle.ccan_accept.specs.declared.frame.Frame.{Frame}
use Rattle.ccan_accept.specs.Accept.{accepts}
use Rattle.ccan_confine.specs.declared.controller.Controller.{Controller}
use Rattle.ccan_confine.specs.declared.controller_change.ControllerChange.TheVariants.{Join}
use Rattle.ccan_ram.specs.declared.change.Change.TheVariants.{Store}
use Rattle.ccan_ram.specs.declared.handler_registers.HandlerRegisters.{HandlerRegisters}
use Rattle.ccan_ram.specs.declared.sending.Sending.{Sending}
use Rattle.ccan_ram.specs.declared.sending.Sending.TheVariants.{UntilSent}
use Rattle.ccan_ram.specs.Sending.{start_by}
use Rattle.ccan_handler.specs.Moment.{was_ready}
use Rattle.ccan_bus.specs.declared.answer.LoadAnswer.{LoadAnswer}
use Rattle.ccan_bus.specs.declared.answer.LoadAnswer.TheVariants as load
use Rattle.ccan_bus.specs.Past.{BusPast, is_on}
use Rattle.ccan_process.specs.Act.{Attempted, GaveUp, Made, Unfit, WasSpent}
use Rattle.ccan_process.specs.Process.{Does, Ended}
use Rattle.ccan_chip.specs.Arrival.{comes_back, left_behind}
use Rattle.ccan_chip.specs.Round.{as_found, events_in}
use Rattle.ccan_endless.specs.declared.controller_changed.ControllerBusy.{ControllerBusy}
use Rattle.ccan_endless.specs.declared.controller_changed.ControllerChanged.{ControllerChanged}
use Rattle.ccan_calls.specs.DeviceSteps.{NoneRefused, device_steps}
use Rattle.ccan_calls.specs.LoadProcess.{LoadEnd, Looked, arrives, arrives_and, load_from, load_next, load_on, loaded_by, loads, looks_again, start_each, start_end, start_first}
use Rattle.ccan_calls.specs.Process.{Attempts, InsistsOnChange, Process, Recalls}
use Rattle.ccan_calls.specs.StoreProcess.{Filtered, GaveUpAt, NoneAccepts, SpentAt, StoredAt, store_each, store_end, store_first, unless_stored, visits}
use Rattle.ccan_calls.proofs.Reporting.{EndsBad, IsLost, Reports, attempt_reports, end_reports, found_answered, if_reports, look_answered, picture_answered, then_reports}

-- ---- a load

-- a start was given up, or no change was left for it
abbrev pub IsBusyLoad : LoadAnswer → Type 0
IsBusyLoad (load.Busy object) = Unit {0}
IsBusyLoad (load.Spent object) = Unit {0}
IsBusyLoad told = ⊥

-- a start that was refused
lost_start : (object : ℕ) (next : Process LoadAnswer) (end : Attempted) → IsLost end
    → EndsBad IsBusyLoad (start_end object next end)
lost_start object next (Made before after) lost = absurd lost
lost_start object next (Unfit now) lost = absurd lost
lost_start object next GaveUp lost = tt
lost_start object next WasSpent lost = tt

-- what follows a start
after_start : (object : ℕ) (next : Process LoadAnswer) (end : Attempted) → Reports IsBusyLoad next
    → Reports IsBusyLoad (start_end object next end)
after_start object next (Made before after) reports = tt
after_start object next (Unfit now) reports = reports
after_start object next GaveUp reports = tt
after_start object next WasSpent reports = tt

module _ (sending : Sending) where
  start_reports : (object : ℕ) (next : Process LoadAnswer) → Reports IsBusyLoad next
      → Reports IsBusyLoad (Does (Attempts object (start_by sending)) (start_end object next))
  start_reports object next reports =
      λ end. (
        attempt_reports object (start_by sending) end (lost_start object next end),
        after_start object next end reports,
      )

  each_start : (shown : HandlerRegisters) (more object : ℕ) → Reports IsBusyLoad (start_each sending shown more object)
  each_start shown zero object = tt
  each_start shown (suc more) object =
      let next = start_each sending shown more (suc object) in
      let reports = each_start shown more (suc object) in
      if_reports IsBusyLoad (was_ready shown object) _ next (start_reports object next reports) reports

  pub first_reports : (profile : Profile) → Reports IsBusyLoad (start_first profile sending)
  first_reports profile = λ shown. (inl (picture_answered shown), each_start shown (objects_in profile) 1)

abbrev pub LoadsBusy : LoadEnd → Type 0
LoadsBusy end = IsBusyLoad end.0

module _ (past : BusPast) where
  loaded_busy : (told : LoadAnswer) → IsBusyLoad told → LoadsBusy (loaded_by past told)
  loaded_busy (load.Busy object) is = tt
  loaded_busy (load.Spent object) is = tt
  loaded_busy told is = absurd is

  module _ (profile : Profile) where
    next_reports : (on : Bool) → Reports LoadsBusy (load_next profile past on)
    next_reports true =
        end_reports IsBusyLoad LoadsBusy (loaded_by past) (start_first profile UntilSent) loaded_busy
        (first_reports UntilSent profile)
    next_reports false = λ paused. (inl tt, tt)

    from_reports : (held : Option (ℕ × Record)) → Reports LoadsBusy (load_from profile past held)
    from_reports (Some held) = λ paused. (inl tt, tt)
    from_reports None = next_reports (is_on past 0)

    pub load_reports : Reports LoadsBusy (load_on profile past)
    load_reports = from_reports past.loaded

-- ---- the way to the bus

-- a join is no step that has to be reported
joined : (outcome : Result ControllerChanged ControllerBusy) → NoneRefused (device_steps (InsistsOnChange Join) outcome)
joined outcome = (λ refused. refl, tt)

join_reports : (bad : Looked → Type 0) (first : Controller)
    → Reports bad (Does (InsistsOnChange Join) (λ told. looks_again first))
join_reports bad first = λ outcome. (inl (joined outcome), λ found. (inl (found_answered found), tt))

pub arrives_report : (bad : Looked → Type 0) → Reports bad arrives
arrives_report bad =
    λ first. (inl (found_answered first), if_reports bad (comes_back first) _ _ (join_reports bad first) tt)

pub arrived_reports : {A : Type 0} (bad : A → Type 0) (past : BusPast) (next : Controller → BusPast → Process A)
    → ((found : Controller) (here : BusPast) → Reports bad (next found here)) → Reports bad (arrives_and past next)
arrived_reports bad past next each =
    then_reports (λ looked. ⊥) bad
    (λ looked. Does Recalls (λ history. next looked.1 (as_found looked.1 (events_in history) (left_behind looked.0 past))))
    arrives (λ looked is. absurd is) (λ looked history. (inl tt, each _ _)) (arrives_report (λ looked. ⊥))

pub loads_report : (profile : Profile) (past : BusPast) → Reports LoadsBusy (loads profile past)
loads_report profile past =
    arrived_reports LoadsBusy past (λ found here. load_on profile here) (λ found here. load_reports here profile)

-- ---- acceptance filtering

-- a store was given up, or no change was left for it
abbrev pub IsBusyStore : Filtered → Type 0
IsBusyStore NoneAccepts = ⊥
IsBusyStore (StoredAt object after) = ⊥
IsBusyStore (GaveUpAt object) = Unit {0}
IsBusyStore (SpentAt object) = Unit {0}

lost_store : (object : ℕ) (end : Attempted) → IsLost end → IsBusyStore (store_end object end)
lost_store object (Made before after) lost = absurd lost
lost_store object (Unfit now) lost = absurd lost
lost_store object GaveUp lost = tt
lost_store object WasSpent lost = tt

-- what follows an object that refused is left out
stopped : (told : Filtered) (next : Process Filtered) → IsBusyStore told → EndsBad IsBusyStore (unless_stored told next)
stopped NoneAccepts next is = absurd is
stopped (StoredAt object after) next is = absurd is
stopped (GaveUpAt object) next is = tt
stopped (SpentAt object) next is = tt

goes_on : (told : Filtered) (next : Process Filtered) → Reports IsBusyStore next → Reports IsBusyStore (unless_stored told next)
goes_on NoneAccepts next reports = reports
goes_on (StoredAt object after) next reports = tt
goes_on (GaveUpAt object) next reports = tt
goes_on (SpentAt object) next reports = tt

module _ (frame : Frame) where
  try_reports : (object : ℕ) → Reports IsBusyStore (Does (Attempts object (Store frame)) (λ end. Ended (store_end object end)))
  try_reports object = λ end. (attempt_reports object (Store frame) end (lost_store object end), tt)

  visit_reports : (object : ℕ) → Reports IsBusyStore (visits frame object)
  visit_reports object =
      λ shown. (inl (look_answered object shown), if_reports IsBusyStore (accepts shown frame) _ _ (try_reports object) tt)

  each_store : (more object : ℕ) → Reports IsBusyStore (store_each frame more object)
  each_store zero object = tt
  each_store (suc more) object =
      let next = store_each frame more (suc object) in
      then_reports IsBusyStore IsBusyStore (λ end. unless_stored end next) (visits frame object) (λ end. stopped end next)
      (λ end. goes_on end next (each_store more (suc object))) (visit_reports object)

  pub store_reports : (profile : Profile) → Reports IsBusyStore (store_first profile frame)
  store_reports profile = each_store (objects_in profile) 1
