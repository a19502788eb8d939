-- What comes of an act at a chip that others share is the answer of one step at some moment of the history: an attempt that made its
-- change, at the change; a picture, where it was taken; any other, where the act ends.
use Rattle.std.proofs.Common.{ℕ, zero, suc, ◌≡◌, ◌⊎◌, inl, inr, Bool, true, false, List, [], ◌∷◌, ◌++◌, Contains, Option, None, Some, refl, sym, ap, subst, ◌∙◌, append_assoc, arith, if◌then◌else◌}
use Rattle.ccan_object.specs.declared.record.Record.{Record}
use Rattle.ccan_object.specs.Profile.{objects_in}
use Rattle.ccan_confine.specs.declared.controller_change.ControllerChange.{ControllerChange}
use Rattle.ccan_ram.specs.declared.change.Change.{Change}
use Rattle.ccan_ram.specs.declared.event.Event.{Event}
use Rattle.ccan_ram.specs.Attempt.{change_at, look_at}
use Rattle.ccan_ram.specs.Change.{changed, fits}
use Rattle.ccan_ram.specs.History.{IsLegal, events_of, is_change, record_at}
use Rattle.ccan_ram.specs.Port.{same_port}
use Rattle.ccan_ram.specs.Terms.{Terms}
use Rattle.ccan_ram.proofs.Histories.{IsLegal-older}
use Rattle.ccan_handler.specs.Laws.{LooksInTurn}
use Rattle.ccan_handler.proofs.Own.{its_own}
use Rattle.ccan_endless.specs.declared.chip.ChipEvent.{ChipEvent}
use Rattle.ccan_endless.specs.declared.chip.ChipEvent.TheVariants.{OfController, OfRam}
use Rattle.ccan_endless.specs.declared.chip.ControllerEvent.{ControllerEvent}
use Rattle.ccan_endless.specs.Chip.{ChipHistory, IsControllerLegal, ram_of, steps_of}
use Rattle.ccan_endless.proofs.Lifting.{legal_before}
use Rattle.ccan_registers.proofs.Histories.{ram_of-append}
use Rattle.ccan_c.specs.Step.{own_of, port_of_event}
use Rattle.ccan_device.specs.declared.answer.ChipAnswer.TheVariants as answer
use Rattle.ccan_device.specs.declared.memory.ChipMemory.{ChipMemory}
use Rattle.ccan_device.specs.declared.operation.ChipOperation.TheVariants as operation
use Rattle.ccan_device.specs.ChipSteps.{ChipStep, attempt_steps, change_step, chip_steps, look_steps, record_in, refusals, step_to, with_record}
use Rattle.ccan_calls.specs.ActSteps.{AreLooks, AreTurns}
use Rattle.ccan_calls.specs.DeviceSteps.{DeviceStep}
use Rattle.ccan_calls.specs.InTheList.{chip_after}
use Rattle.ccan_calls.proofs.ChipMemories.{change_makes, its_record, look_keeps}
use Rattle.ccan_calls.proofs.OwnSteps.{cons_not_nil}
use Rattle.ccan_calls.proofs.Parting.{no_steps_in, same_first, same_rest}
use Rattle.ccan_calls.proofs.Stepwise.{no_own_first}

-- ---- steps in the history

-- the chip may refuse changes here
abbrev pub IsStepTo : ChipMemory → DeviceStep → ChipMemory → Type 0
IsStepTo from made to = Contains (chip_steps true made.operation from) (step_to to made.answer)

module _ (terms : Terms) where
  abbrev pub chip : ChipHistory → ChipMemory
  chip history = chip_after terms.profile history

  -- another port's event, or one that leaves the chip as it is
  abbrev pub MayPass : ChipEvent → ChipHistory → Type 0
  MayPass event history =
      (same_port (port_of_event event) terms.port ≡ false) ⊎ (chip (event ∷ history) ≡ chip history)

  -- From here on in the history the port made these steps, the newest first: each at a moment where the answer is that of a chip of
  -- one thread, and if it changed the chip, at an event of the port that leaves what it left.
  pub data Placed (base : ChipHistory) : ChipHistory → List DeviceStep → Type 0 where
    Begins : Placed base base []
    Stays : (history : ChipHistory) → (made : DeviceStep) → (steps : List DeviceStep) → Placed base history steps
        → IsStepTo (chip history) made (chip history) → Placed base history (made ∷ steps)
    Passes : (event : ChipEvent) → (history : ChipHistory) → (steps : List DeviceStep) → Placed base history steps
        → MayPass event history → Placed base (event ∷ history) steps
    Makes : (event : ChipEvent) → (history : ChipHistory) → (made : DeviceStep) → (steps : List DeviceStep)
        → Placed base history steps → same_port (port_of_event event) terms.port ≡ true
        → IsStepTo (chip history) made (chip (event ∷ history)) → Placed base (event ∷ history) (made ∷ steps)

  pub record IsLegalHere (history : ChipHistory) : Type 0 where
    pub ram : IsLegal terms.profile (ram_of history)
    pub controller : IsControllerLegal history

  pub legal_older : (more history : ChipHistory) → IsLegalHere (more ++ history) → IsLegalHere history
  legal_older more history legal = record {
    ram = IsLegal-older terms.profile (ram_of more) (ram_of history)
        (subst (IsLegal terms.profile) (ram_of-append more history) legal.ram);
    controller = legal_before (more ++ history) history (more, refl) legal.controller;
  }

  -- ---- answers of the chip of one thread

  pub shown_there : (memory : ChipMemory) (object : ℕ) (shown : Record) → record_in memory object ≡ Some shown
      → IsStepTo memory (record { operation = operation.Look object; answer = answer.Shown shown }) memory
  shown_there memory object shown is =
      subst (λ found. Contains (look_steps memory found) (step_to memory (answer.Shown shown))) (sym is)
      (0, omega arith, refl)

  abbrev pub tried : ChipMemory → ℕ → Change → Option Record → List ChipStep
  tried memory object change found = attempt_steps memory object change found ++ refusals true memory

  pub unfit_there : (memory : ChipMemory) (object : ℕ) (change : Change) (shown : Record)
      → record_in memory object ≡ Some shown → fits change shown ≡ false
      → IsStepTo memory (record { operation = operation.Attempt object change; answer = answer.Unfit shown }) memory
  unfit_there memory object change shown is unfit =
      subst (λ found. Contains (tried memory object change found) (step_to memory (answer.Unfit shown))) (sym is) (
        0,
        omega arith,
        ap (λ (b : Bool). if b
            then step_to (with_record memory object (changed change shown)) (answer.Made shown (changed change shown))
            else step_to memory (answer.Unfit shown)) unfit,
      )

  made_there : (memory : ChipMemory) (object : ℕ) (change : Change) (before after : Record)
      → record_in memory object ≡ Some before → fits change before ≡ true → after ≡ changed change before
      → IsStepTo memory (record { operation = operation.Attempt object change; answer = answer.Made before after })
      (with_record memory object (changed change before))
  made_there memory object change before after is fit left =
      subst (λ found. Contains (tried memory object change found)
      (step_to (with_record memory object (changed change before)) (answer.Made before after))) (sym is) (
        0,
        omega arith,
        ap (λ (b : Bool). if b
            then step_to (with_record memory object (changed change before)) (answer.Made before (changed change before))
            else step_to memory (answer.Unfit before)) fit
            ∙ ap (λ r. step_to (with_record memory object (changed change before)) (answer.Made before r)) (sym left),
      )

  pub refused_of : (memory : ChipMemory) (object : ℕ) (change : Change) (found : Option Record)
      → Contains (tried memory object change found) (step_to memory answer.Refused)
  refused_of memory object change None = (0, omega arith, refl)
  refused_of memory object change (Some found) = (1, omega arith, refl)

  abbrev pub changes : ChipMemory → ControllerChange → Bool → List ChipStep
  changes memory change can = (if can then change_step memory change ∷ [] else []) ++ refusals true memory

  pub lost_of : (memory : ChipMemory) (change : ControllerChange) (can : Bool)
      → Contains (changes memory change can) (step_to memory answer.Refused)
  lost_of memory change true = (1, omega arith, refl)
  lost_of memory change false = (0, omega arith, refl)

  -- ---- looks and events of others

  abbrev pub AllLooks : List Event → Type 0
  AllLooks [] = Unit {0}
  AllLooks (event ∷ events) = (is_change event ≡ false) × AllLooks events

  pub looks_both : (later earlier : List Event) → AllLooks (later ++ earlier) → AllLooks later × AllLooks earlier
  looks_both [] earlier looks = (tt, looks)
  looks_both (event ∷ later) earlier (look, looks) =
      let (first, second) = looks_both later earlier looks in ((look, first), second)

  looks_joined : (later earlier : List Event) → AllLooks later → AllLooks earlier → AllLooks (later ++ earlier)
  looks_joined [] earlier first second = second
  looks_joined (event ∷ later) earlier (look, first) second = (look, looks_joined later earlier first second)

  pub tries_look : (object n : ℕ) (own : List Event) → AreLooks terms.port object n own → AllLooks own
  tries_look object zero own none = subst AllLooks (sym none) tt
  tries_look object (suc n) own (shown, earlier, is, before) =
      subst AllLooks (sym is) (refl, tries_look object n earlier before)

  turn_looks : (n : ℕ) (own : List Event) → LooksInTurn terms n own → AllLooks own
  turn_looks zero own none = subst AllLooks (sym none) tt
  turn_looks (suc n) own (shown, earlier, is, before) = subst AllLooks (sym is) (refl, turn_looks n earlier before)

  pub turns_look : (n : ℕ) (own : List Event) → AreTurns terms n own → AllLooks own
  turns_look zero own none = subst AllLooks (sym none) tt
  turns_look (suc n) own (last, earlier, is, turn, before) =
      subst AllLooks (sym is)
      (looks_joined last earlier (turn_looks (objects_in terms.profile) last turn) (turns_look n earlier before))

  ram_passes : (own : Bool) (event : Event) (rest : List Event) (history : ChipHistory)
      → same_port event.port terms.port ≡ own → AllLooks (if own then event ∷ rest else rest)
      → AllLooks rest × MayPass (OfRam event) history
  ram_passes true event rest history is (look, looks) = (looks, inr (look_keeps terms.profile event history look))
  ram_passes false event rest history is looks = (looks, inl is)

  controller_passes : (own : Bool) (event : ControllerEvent) (rest : List ControllerEvent) (history : ChipHistory)
      → same_port event.port terms.port ≡ own → (if own then event ∷ rest else rest) ≡ []
      → (rest ≡ []) × MayPass (OfController event) history
  controller_passes true event rest history is none = absurd (cons_not_nil event rest none)
  controller_passes false event rest history is none = (none, inl is)

  module _ (base : ChipHistory) where
    -- the port only looked at objects
    pub looks_pass : (added seen : ChipHistory) (steps : List DeviceStep) → steps_of terms.port added ≡ []
        → AllLooks (events_of terms.port (ram_of added)) → Placed base seen steps → Placed base (added ++ seen) steps
    looks_pass [] seen steps none looks placed = placed
    looks_pass (OfRam event ∷ added) seen steps none looks placed =
        let (rest, may) = ram_passes (same_port event.port terms.port) event (events_of terms.port (ram_of added))
        (added ++ seen) refl looks in
        Passes (OfRam event) (added ++ seen) steps (looks_pass added seen steps none rest placed) may
    looks_pass (OfController event ∷ added) seen steps none looks placed =
        let (rest, may) = controller_passes (same_port event.port terms.port) event (steps_of terms.port added)
        (added ++ seen) refl none in
        Passes (OfController event) (added ++ seen) steps (looks_pass added seen steps rest looks placed) may

    pub quiet_passes : (added seen : ChipHistory) (steps : List DeviceStep) → steps_of terms.port added ≡ []
        → events_of terms.port (ram_of added) ≡ [] → Placed base seen steps → Placed base (added ++ seen) steps
    quiet_passes added seen steps none quiet placed =
        looks_pass added seen steps none (subst AllLooks (sym quiet) tt) placed

    -- the port did nothing
    pub others_pass : (added seen : ChipHistory) (steps : List DeviceStep) → own_of terms.port added ≡ []
        → Placed base seen steps → Placed base (added ++ seen) steps
    others_pass [] seen steps none placed = placed
    others_pass (event ∷ added) seen steps none placed =
        let (other, rest) = no_own_first terms.port event added none in
        Passes event (added ++ seen) steps (others_pass added seen steps rest placed) (inl other)

    pub nothing_passes : (added seen : ChipHistory) (steps : List DeviceStep) → added ≡ [] → Placed base seen steps
        → Placed base (added ++ seen) steps
    nothing_passes added seen steps none placed =
        subst (λ (es : ChipHistory). Placed base (es ++ seen) steps) (sym none) placed

    -- ---- at objects

    -- what the newest look at an object shows is there
    is_there : (object : ℕ) (shown : Record) (older : List Event) (history : ChipHistory)
        → ram_of history ≡ look_at terms.port object shown ∷ older → IsLegalHere history
        → record_in (chip history) object ≡ Some shown
    is_there object shown older history newest legal =
        let (look, earlier) = subst (IsLegal terms.profile) newest legal.ram in
        its_record terms.profile history object look.held
        ∙ ap (λ r. Some r) (ap (record_at object) newest ∙ sym look.before)

    module _ (added seen : ChipHistory) (steps : List DeviceStep) (legal : IsLegalHere (added ++ seen))
        (placed : Placed base seen steps) (none : steps_of terms.port added ≡ []) where
      whole_ram : (newer : List Event) → ram_of added ≡ newer → ram_of (added ++ seen) ≡ newer ++ ram_of seen
      whole_ram newer is = ram_of-append added seen ∙ ap (λ (es : List Event). es ++ ram_of seen) is

      pub looked : (object : ℕ) (shown : Record) (older : List Event) → ram_of added ≡ look_at terms.port object shown ∷ older
          → record_in (chip (added ++ seen)) object ≡ Some shown
      looked object shown older is =
          is_there object shown (older ++ ram_of seen) (added ++ seen) (whole_ram (look_at terms.port object shown ∷ older) is)
          legal

      -- the port only looked, and at the end the step is what it is
      pub at_end : (made : DeviceStep) → AllLooks (events_of terms.port (ram_of added))
          → IsStepTo (chip (added ++ seen)) made (chip (added ++ seen)) → Placed base (added ++ seen) (made ∷ steps)
      at_end made looks is = Stays (added ++ seen) made steps (looks_pass added seen steps none looks placed) is

      -- the newest event at an object is the port's change
      module _ (object : ℕ) (change : Change) (before after : Record) (older : List Event)
          (newest : ram_of added ≡ change_at terms.port object change before ∷ older) (left : after ≡ changed change before)
          (looks : AllLooks (events_of terms.port older)) where
        abbrev pub event : Event
        event = change_at terms.port object change before

        found_in : (es : ChipHistory) → ram_of es ≡ event ∷ older
            → (later : ChipHistory) × (earlier : ChipHistory) × (es ≡ later ++ (OfRam event ∷ earlier))
            × (ram_of later ≡ []) × (ram_of earlier ≡ older)
        found_in [] is = absurd (cons_not_nil event older (sym is))
        found_in (OfController e ∷ es) is =
            let (later, earlier, whole, later_none, earlier_is) = found_in es is in
            (OfController e ∷ later, earlier, ap (λ (l : ChipHistory). OfController e ∷ l) whole, later_none, earlier_is)
        found_in (OfRam e ∷ es) is = (
          [],
          es,
          ap (λ (x : Event). OfRam x ∷ es) (same_first e event (ram_of es) older is),
          refl,
          same_rest e event (ram_of es) older is,
        )

        abbrev pub made_step : DeviceStep
        made_step = record { operation = operation.Attempt object change; answer = answer.Made before after }

        pub change_placed : Placed base (added ++ seen) (made_step ∷ steps)
        change_placed =
            let (later, earlier, whole, later_none, earlier_is) = found_in added newest in
            let (later_quiet, rest_quiet) = no_steps_in terms.port added later (OfRam event ∷ earlier) none whole in
            let all : added ++ seen ≡ later ++ (OfRam event ∷ (earlier ++ seen)) =
            ap (λ (es : ChipHistory). es ++ seen) whole ∙ append_assoc later (OfRam event ∷ earlier) seen in
            let here = legal_older later (OfRam event ∷ (earlier ++ seen)) (subst IsLegalHere all legal) in
            let stands = here.ram.0 in
            let before_it = looks_pass earlier seen steps rest_quiet
            (subst (λ es. AllLooks (events_of terms.port es)) (sym earlier_is) looks) placed in
            let there = its_record terms.profile (earlier ++ seen) object stands.held
            ∙ ap (λ r. Some r) (sym stands.before) in
            let is_made = subst (IsStepTo (chip (earlier ++ seen)) made_step)
            (change_makes terms.profile terms.port object change before (earlier ++ seen) stands.held)
            (made_there (chip (earlier ++ seen)) object change before after there stands.stands left) in
            subst (λ es. Placed base es (made_step ∷ steps)) (sym all)
            (quiet_passes later (OfRam event ∷ (earlier ++ seen)) (made_step ∷ steps) later_quiet
            (ap (events_of terms.port) later_none)
            (Makes (OfRam event) (earlier ++ seen) made_step steps before_it (its_own terms.port) is_made))
