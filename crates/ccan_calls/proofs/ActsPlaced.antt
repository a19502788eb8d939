-- What comes of each act is the answer of its step, placed in the history.
use Rattle.std.proofs.Common.{ℕ, suc, ◌≡◌, inr, ◌≤◌, Bool, true, ◌&&◌, nat_le, List, [], ◌∷◌, ◌++◌, Contains, Result, Ok, Err, reverse, refl, sym, ap, subst, ◌∙◌, append_assoc, arith, if◌then◌else◌}
use Rattle.std.proofs.lemmas.Bool.{le-leb}
use Rattle.ccan_object.specs.Profile.{objects_in}
use Rattle.ccan_confine.specs.declared.controller.Controller.{Controller}
use Rattle.ccan_confine.specs.declared.controller_change.ControllerChange.{ControllerChange}
use Rattle.ccan_confine.specs.declared.controller_change.ControllerChange.TheVariants as controller
use Rattle.ccan_confine.specs.declared.status_event.StatusEvent.{StatusEvent}
use Rattle.ccan_confine.specs.declared.status_event.StatusEvent.TheVariants as status
use Rattle.ccan_confine.specs.StatusEvent.{HasFaultCode}
use Rattle.ccan_confine.specs.Controller.{CanMake, controller_after}
use Rattle.ccan_ram.specs.declared.change.Change.{Change}
use Rattle.ccan_ram.specs.declared.change.Changed.{Changed}
use Rattle.ccan_ram.specs.declared.change.Changed.TheVariants.{Done, NotNow}
use Rattle.ccan_ram.specs.declared.change.Refused.{Refused}
use Rattle.ccan_ram.specs.declared.change.Refused.TheVariants.{Busy, Spent}
use Rattle.ccan_ram.specs.declared.event.Event.{Event}
use Rattle.ccan_ram.specs.declared.handler_registers.HandlerRegisters.{HandlerRegisters}
use Rattle.ccan_ram.specs.Attempt.{Attempt, change_at, look_at}
use Rattle.ccan_ram.specs.HandlerRegisters.{first_records, registers_of}
use Rattle.ccan_ram.specs.History.{events_of}
use Rattle.ccan_ram.specs.Picture.{IsPicture, pictured}
use Rattle.ccan_ram.specs.Terms.{Terms}
use Rattle.ccan_ram.specs.Tries.{most_tries}
use Rattle.ccan_ram.proofs.Histories.{events_of-append}
use Rattle.ccan_handler.proofs.Own.{its_own}
use Rattle.ccan_process.specs.Act.{Attempted, attempted}
use Rattle.ccan_endless.specs.declared.chip.ChipEvent.TheVariants.{OfController}
use Rattle.ccan_endless.specs.declared.chip.ControllerStep.TheVariants as step
use Rattle.ccan_endless.specs.declared.controller_changed.ControllerBusy.{ControllerBusy}
use Rattle.ccan_endless.specs.declared.controller_changed.ControllerChanged.{ControllerChanged}
use Rattle.ccan_endless.specs.Chip.{ChipHistory, ram_of, step_at, steps_of}
use Rattle.ccan_registers.specs.ChipSteps.{AtController, Changes}
use Rattle.ccan_registers.proofs.Histories.{ram_of-append}
use Rattle.ccan_device.specs.declared.answer.ChipAnswer.TheVariants as answer
use Rattle.ccan_device.specs.declared.memory.ChipMemory.{ChipMemory}
use Rattle.ccan_device.specs.declared.operation.ChipOperation.TheVariants as operation
use Rattle.ccan_device.specs.ChipSteps.{can_make, has_fault_code, pictured as as_answer, step_to}
use Rattle.ccan_calls.specs.ActSteps.{AreTries, AreTurns}
use Rattle.ccan_calls.specs.DeviceSteps.{DeviceStep, attempt_answer, change_answer, device_steps}
use Rattle.ccan_calls.specs.Process.{Act, Attempts, ChangesController, Decides, Heeds, InsistsOnChange, LetsOthersAct, Looks, LooksAtController, Notes, Offers, Out, Pauses, Pictures, Recalls}
use Rattle.ccan_calls.specs.Runs.{Acted}
use Rattle.ccan_calls.proofs.ActSteps.{acts_have_steps}
use Rattle.ccan_calls.proofs.ChipMemories.{records_back}
use Rattle.ccan_calls.proofs.Parting.{Parted, no_steps_in, parted, same_rest}
use Rattle.ccan_calls.proofs.Placed.{AllLooks, IsLegalHere, IsStepTo, Makes, Passes, Placed, Stays, at_end, change_placed, changes, chip, looked, looks_both, looks_pass, lost_of, nothing_passes, quiet_passes, refused_of, shown_there, tries_look, turns_look, unfit_there}

-- a change that may be made has a code that a fault can have
fault_can : (noted : StatusEvent) → HasFaultCode noted → has_fault_code noted ≡ true
fault_can (status.Fault code) (least, most) =
    let low : (1 ≤ code) → (nat_le 1 code && nat_le code 6) ≡ nat_le code 6 = λ le. ap (λ (b : Bool). b && nat_le code 6) (le-leb 1 code le) in
    low least ∙ le-leb code 6 most
fault_can status.Sent fits = refl
fault_can status.Received fits = refl
fault_can status.Looped fits = refl
fault_can status.Recovery fits = refl
fault_can status.Level fits = refl

it_can : (change : ControllerChange) → CanMake change → can_make change ≡ true
it_can (controller.Frame event noted) fits = fault_can noted fits
it_can _ fits = refl

module _ (terms : Terms) (base : ChipHistory) where
  module _ (seen added : ChipHistory) (steps : List DeviceStep) (legal : IsLegalHere terms (added ++ seen))
      (placed : Placed terms base seen steps) where
    abbrev Comes : List DeviceStep → Type 0
    Comes more = Placed terms base (added ++ seen) (more ++ steps)

    -- ---- attempts

    module _ (tries object : ℕ) (change : Change) (none : steps_of terms.port added ≡ []) where
      abbrev tries_at : Attempted → List DeviceStep
      tries_at end = record { operation = operation.Attempt object change; answer = attempt_answer end } ∷ []

      gave_up : AllLooks terms (events_of terms.port (ram_of added))
          → Comes (record { operation = operation.Attempt object change; answer = answer.Refused } ∷ [])
      gave_up looks =
          let memory = chip terms (added ++ seen) in
          at_end terms base added seen steps legal placed none
          (record { operation = operation.Attempt object change; answer = answer.Refused }) looks
          (refused_of terms memory object change _)

      by_attempt : (outcome : Result Changed Refused)
          → Attempt terms object change tries (ram_of seen) (ram_of added) outcome
          → AreTries terms tries object change (attempted outcome) (events_of terms.port (ram_of added))
          → Comes (tries_at (attempted outcome))
      by_attempt (Ok (Done before after number)) h (lost, within, earlier, looks, own) =
          let (others, foreign, made_is) = h.make in
          let older = others ++ (h.looked ++ h.lost) in
          let newest : ram_of added ≡ change_at terms.port object change before ∷ older =
          h.whole ∙ ap (λ (es : List Event). es ++ (h.looked ++ h.lost)) made_is in
          let event = change_at terms.port object change before in
          let its = ap (λ (b : Bool). if b then event ∷ events_of terms.port older else events_of terms.port older)
          (its_own terms.port) in
          let rest : events_of terms.port older ≡ look_at terms.port object before ∷ earlier =
          same_rest event event (events_of terms.port older) (look_at terms.port object before ∷ earlier)
          (sym its ∙ sym (ap (events_of terms.port) newest) ∙ own) in
          change_placed terms base added seen steps legal placed none object change before after older newest h.left
          (subst (AllLooks terms) (sym rest) (refl, tries_look terms object lost earlier looks))
      by_attempt (Ok (NotNow shown)) h (lost, within, earlier, looks, own) =
          let (others, foreign, look_is) = h.look in
          let newest : ram_of added ≡ look_at terms.port object shown ∷ (others ++ h.lost) =
          h.whole ∙ ap (λ (es : List Event). es ++ h.lost) look_is in
          at_end terms base added seen steps legal placed none
          (record { operation = operation.Attempt object change; answer = answer.Unfit shown })
          (subst (AllLooks terms) (sym own) (refl, tries_look terms object lost earlier looks))
          (unfit_there terms (chip terms (added ++ seen)) object change shown
          (looked terms base added seen steps legal placed none object shown (others ++ h.lost) newest) h.unfit)
      by_attempt (Err (Busy told now)) h looks = gave_up (tries_look terms object tries (events_of terms.port (ram_of added)) looks)
      by_attempt (Err Spent) h own = gave_up (subst (AllLooks terms) (sym own) tt)

    -- ---- pictures

    module _ (shown : HandlerRegisters) (none : steps_of terms.port added ≡ [])
        (h : IsPicture terms shown (ram_of seen) (ram_of added)) where
      -- the looks of the picture, and what was before them
      abbrev looks : List Event
      looks = pictured terms.port (objects_in terms.profile) (h.turn.before ++ (h.lost ++ ram_of seen))

      abbrev before : List Event
      before = h.turn.before ++ h.lost

      -- in two parts, of which the second begins with the looks
      in_parts : ram_of added ≡ (h.turn.after ++ looks) ++ before
      in_parts =
          h.whole ∙ ap (λ (es : List Event). es ++ h.lost) h.turn.whole
          ∙ regroup h.turn.after looks h.turn.before h.lost
        where
          regroup : (a b c d : List Event) → (a ++ (b ++ c)) ++ d ≡ (a ++ b) ++ (c ++ d)
          regroup a b c d =
              append_assoc a (b ++ c) d ∙ ap (λ (es : List Event). a ++ es) (append_assoc b c d)
              ∙ sym (append_assoc a b (c ++ d))

      parts : Parted added (h.turn.after ++ looks) before
      parts = parted added (h.turn.after ++ looks) before in_parts

      abbrev memory : ChipMemory
      memory = chip terms (parts.begun ++ seen)

      abbrev taken : DeviceStep
      taken = record { operation = operation.Picture; answer = as_answer shown }

      -- the picture is that of the chip before its looks
      is_taken : IsStepTo memory taken memory
      is_taken =
          let here : ram_of (parts.begun ++ seen) ≡ h.turn.before ++ (h.lost ++ ram_of seen) =
          ram_of-append parts.begun seen ∙ ap (λ (es : List Event). es ++ ram_of seen) parts.begun_is
          ∙ append_assoc h.turn.before h.lost (ram_of seen) in
          let shows : registers_of (reverse memory.records) ≡ shown =
          ap registers_of (records_back terms.profile (ram_of (parts.begun ++ seen)))
          ∙ ap (λ es. registers_of (first_records (objects_in terms.profile) es)) here ∙ sym h.shows in
          (0, omega arith, ap (λ registers. step_to memory (as_answer registers)) shows)

      -- the port only looks in both parts
      both_look : AllLooks terms (events_of terms.port (ram_of added))
          → AllLooks terms (events_of terms.port (ram_of parts.last)) × AllLooks terms (events_of terms.port (ram_of parts.begun))
      both_look all =
          let own : events_of terms.port (ram_of added)
          ≡ events_of terms.port (ram_of parts.last) ++ events_of terms.port (ram_of parts.begun) =
          ap (λ es. events_of terms.port (ram_of es)) parts.whole
          ∙ ap (events_of terms.port) (ram_of-append parts.last parts.begun)
          ∙ events_of-append terms.port (ram_of parts.last) (ram_of parts.begun) in
          looks_both terms (events_of terms.port (ram_of parts.last)) (events_of terms.port (ram_of parts.begun))
          (subst (AllLooks terms) own all)

      by_picture : (n : ℕ) → AreTurns terms n (events_of terms.port (ram_of added)) → Comes (taken ∷ [])
      by_picture n turns =
          let (none_last, none_begun) = no_steps_in terms.port added parts.last parts.begun none parts.whole in
          let (look_last, look_begun) = both_look (turns_look terms n (events_of terms.port (ram_of added)) turns) in
          let all : added ++ seen ≡ parts.last ++ (parts.begun ++ seen) =
          ap (λ (es : ChipHistory). es ++ seen) parts.whole ∙ append_assoc parts.last parts.begun seen in
          subst (λ es. Placed terms base es (taken ∷ steps)) (sym all)
          (looks_pass terms base parts.last (parts.begun ++ seen) (taken ∷ steps) none_last look_last
          (Stays (parts.begun ++ seen) taken steps
          (looks_pass terms base parts.begun seen steps none_begun look_begun placed) is_taken))

    -- ---- at the controller

    by_look : (found : Controller) → AtController terms.port step.Look found seen added
        → Comes (record { operation = operation.LookAtController; answer = answer.Found found } ∷ [])
    by_look found at =
        let event = step_at terms.port step.Look found in
        let memory = chip terms (OfController event ∷ (at.others ++ seen)) in
        let made : DeviceStep = record { operation = operation.LookAtController; answer = answer.Found found } in
        let kept : memory ≡ chip terms (at.others ++ seen) =
        λ i. record { records = memory.records; controller = at.stands.before i } in
        subst (λ es. Placed terms base (es ++ seen) (made ∷ steps)) (sym at.whole)
        (Stays (OfController event ∷ (at.others ++ seen)) made steps
        (Passes (OfController event) (at.others ++ seen) steps
        (quiet_passes terms base at.others seen steps at.none at.quiet placed) (inr kept))
        (0, omega arith, refl))

    by_change : (change : ControllerChange) (tries : ℕ) (outcome : Result ControllerChanged ControllerBusy)
        → Changes terms.port change tries seen added outcome
        → Comes (record { operation = operation.ChangeController change; answer = change_answer outcome } ∷ [])
    by_change change tries (Ok made) (at, left) =
        let event = step_at terms.port (step.Make change) made.before in
        let from = chip terms (at.others ++ seen) in
        let to = chip terms (OfController event ∷ (at.others ++ seen)) in
        let asked : DeviceStep =
        record { operation = operation.ChangeController change; answer = answer.Changed made.before made.after } in
        let is : Contains (changes terms from change true) (step_to to (answer.Changed made.before made.after)) = (
          0,
          omega arith,
          λ i. step_to (record {
            records = from.records;
            controller = controller_after change (sym at.stands.before i);
          }) (answer.Changed (sym at.stands.before i)
              ((ap (controller_after change) (sym at.stands.before) ∙ sym left) i)),
        ) in
        subst (λ es. Placed terms base (es ++ seen) (asked ∷ steps)) (sym at.whole)
        (Makes (OfController event) (at.others ++ seen) asked steps
        (quiet_passes terms base at.others seen steps at.none at.quiet placed) (its_own terms.port)
        (subst (λ b. Contains (changes terms from change b) (step_to to (answer.Changed made.before made.after)))
        (sym (it_can change at.stands.stands.can)) is))
    by_change change tries (Err busy) lost =
        Stays (added ++ seen) (record { operation = operation.ChangeController change; answer = answer.Refused }) steps
        (quiet_passes terms base added seen steps lost.none lost.quiet placed)
        (lost_of terms (chip terms (added ++ seen)) change (can_make change))

    -- ---- all acts

    pub act_placed : (tries : ℕ) (act : Act) (out : Out act) → Acted terms tries act seen added out
        → Comes (device_steps act out)
    act_placed tries (Looks object) out on =
        let (others, foreign, look_is) = on.means in
        at_end terms base added seen steps legal placed on.none
        (record { operation = operation.Look object; answer = answer.Shown out })
        (subst (AllLooks terms) (sym (acts_have_steps terms tries (Looks object) seen added out on).at_objects) (refl, tt))
        (shown_there terms (chip terms (added ++ seen)) object out
        (looked terms base added seen steps legal placed on.none object out others look_is))
    act_placed tries (Attempts object change) out (outcome, on, is) =
        subst (λ end. Comes (tries_at tries object change on.none end)) (sym is)
        (by_attempt tries object change on.none outcome on.means
        (acts_have_steps terms tries (Attempts object change) seen added (attempted outcome) (outcome, on, refl)).at_objects)
    act_placed tries Pictures out on =
        let (lost, few, turns) = (acts_have_steps terms tries Pictures seen added out on).at_objects in
        by_picture out on.none on.means (suc lost) turns
    act_placed tries LooksAtController out on = by_look out on
    act_placed tries (ChangesController change) out on = by_change change tries out on
    act_placed tries (InsistsOnChange change) out on = by_change change most_tries out on
    act_placed tries Recalls out on = nothing_passes terms base added seen steps on.0 placed
    act_placed tries Pauses out on = quiet_passes terms base added seen steps on.none (ap (events_of terms.port) on.means) placed
    act_placed tries LetsOthersAct out on = quiet_passes terms base added seen steps on.none on.quiet placed
    act_placed tries (Offers sends fault) out on = nothing_passes terms base added seen steps on.0 placed
    act_placed tries (Decides line past) out on = nothing_passes terms base added seen steps on.0 placed
    act_placed tries Notes out on = nothing_passes terms base added seen steps on.0 placed
    act_placed tries (Heeds told) out on = quiet_passes terms base added seen steps on.none on.quiet placed
