-- What a port does in an act are steps of that act.
use Rattle.std.proofs.Common.{ℕ, zero, suc, ◌≡◌, inl, inr, ◌⊎◌, Bool, true, false, List, [], ◌∷◌, ◌++◌, length, Result, Ok, Err, refl, sym, ap, subst, arith, if◌then◌else◌}
use Rattle.std.proofs.lemmas.Bool.{true≢false}
use Rattle.ccan_object.specs.declared.record.Record.{Record}
use Rattle.ccan_object.specs.Profile.{objects_in}
use Rattle.ccan_ram.specs.declared.change.Change.{Change}
use Rattle.ccan_ram.specs.declared.change.Changed.{Changed}
use Rattle.ccan_ram.specs.declared.change.Changed.TheVariants.{Done, NotNow}
use Rattle.ccan_ram.specs.declared.change.Refused.{Refused}
use Rattle.ccan_ram.specs.declared.change.Refused.TheVariants.{Busy, Spent}
use Rattle.ccan_ram.specs.declared.event.Event.{Event}
use Rattle.ccan_ram.specs.declared.handler_registers.HandlerRegisters.{HandlerRegisters}
use Rattle.ccan_ram.specs.declared.port.PortName.{PortName}
use Rattle.ccan_ram.specs.Attempt.{AreOthers, Attempt, EndsIn, IsLook, LostTries, change_at, look_at}
use Rattle.ccan_ram.specs.History.{events_of}
use Rattle.ccan_ram.specs.Picture.{IsPicture, LostTurns, Turn, pictured}
use Rattle.ccan_ram.specs.Port.{same_port}
use Rattle.ccan_ram.specs.Terms.{Terms}
use Rattle.ccan_ram.specs.Tries.{most_tries}
use Rattle.ccan_confine.specs.declared.controller.Controller.{Controller}
use Rattle.ccan_confine.specs.declared.controller_change.ControllerChange.{ControllerChange}
use Rattle.ccan_endless.specs.declared.chip.ChipEvent.{ChipEvent}
use Rattle.ccan_endless.specs.declared.chip.ChipEvent.TheVariants.{OfController, OfRam}
use Rattle.ccan_endless.specs.declared.chip.ControllerEvent.{ControllerEvent}
use Rattle.ccan_endless.specs.declared.chip.ControllerStep.{ControllerStep}
use Rattle.ccan_endless.specs.declared.chip.ControllerStep.TheVariants as step
use Rattle.ccan_endless.specs.declared.controller_changed.ControllerBusy.{ControllerBusy}
use Rattle.ccan_endless.specs.declared.controller_changed.ControllerChanged.{ControllerChanged}
use Rattle.ccan_endless.specs.Chip.{ChipHistory, ram_of, steps_of}
use Rattle.ccan_registers.specs.ChipSteps.{AtController, Changes}
use Rattle.ccan_c.specs.Step.{port_of_event}
use Rattle.ccan_calls.specs.Process.{Act, Attempts, ChangesController, Decides, Heeds, InsistsOnChange, LetsOthersAct, Looks, LooksAtController, Notes, Offers, Out, Pauses, Pictures, Recalls}
use Rattle.ccan_calls.specs.Runs.{Acted}
use Rattle.ccan_calls.specs.Stage.{IsStepAt, IsStepOf}
use Rattle.ccan_calls.proofs.Finding.{Has}

-- ---- lists

in_part : {A : Type 0} (x : A) (one other : List A) → Has x (one ++ other) → Has x one ⊎ Has x other
in_part x [] other has = inr has
in_part x (y ∷ one) other (inl is) = inl (inl is)
in_part x (y ∷ one) other (inr has) = elim (in_part x one other has) [
  | inl first ↦ inl (inr first)
  | inr second ↦ inr second
]

pub cons_not_nil : {A : Type 0} (x : A) (xs : List A) → x ∷ xs ≡ [] → ⊥
cons_not_nil x xs is = let n = ap length is in absurd (omega (arith, n))

-- events of one kind are equal only if what they hold is, and those of two kinds are not
same_ram : (e x : Event) → OfRam e ≡ OfRam x → e ≡ x
same_ram e x is = ap held is
  where
    held : ChipEvent → Event
    held (OfRam y) = y
    held (OfController y) = e

same_controller : (e x : ControllerEvent) → OfController e ≡ OfController x → e ≡ x
same_controller e x is = ap held is
  where
    held : ChipEvent → ControllerEvent
    held (OfRam y) = e
    held (OfController y) = y

ram_or_controller : (e : Event) (x : ControllerEvent) → OfRam e ≡ OfController x → ⊥
ram_or_controller e x is = true≢false (ap is_ram is)
  where
    is_ram : ChipEvent → Bool
    is_ram (OfRam y) = true
    is_ram (OfController y) = false

module _ (port : PortName) where
  -- ---- events of others

  abbrev unowned : Bool → Event → List Event → List Event
  unowned own e events = if own then e ∷ events_of port events else events_of port events

  none_here : (own : Bool) (e : Event) (events : List Event) → unowned own e events ≡ [] → own ≡ true → ⊥
  none_here true e events none is = cons_not_nil e (events_of port events) none
  none_here false e events none is = true≢false (sym is)

  none_later : (own : Bool) (e : Event) (events : List Event) → unowned own e events ≡ [] → events_of port events ≡ []
  none_later true e events none = absurd (cons_not_nil e (events_of port events) none)
  none_later false e events none = none

  no_own : (x : Event) (events : List Event) → events_of port events ≡ [] → Has x events → same_port x.port port ≡ true → ⊥
  no_own x [] none has own = has
  no_own x (e ∷ events) none (inl is) own =
      none_here (same_port e.port port) e events none (subst (λ (y : Event). same_port y.port port ≡ true) is own)
  no_own x (e ∷ events) none (inr has) own =
      no_own x events (none_later (same_port e.port port) e events none) has own

  -- this holds of the port's events among these
  abbrev AllOwn : (Event → Type 0) → List Event → Type 0
  AllOwn what events = (x : Event) → Has x events → same_port x.port port ≡ true → what x

  all_both : (what : Event → Type 0) (one other : List Event) → AllOwn what one → AllOwn what other → AllOwn what (one ++ other)
  all_both what one other first second x has own = elim (in_part x one other has) [
    | inl here ↦ first x here own
    | inr there ↦ second x there own
  ]

  all_whole : (what : Event → Type 0) (added parts : List Event) → added ≡ parts → AllOwn what parts → AllOwn what added
  all_whole what added parts whole all = subst (AllOwn what) (sym whole) all

module _ (terms : Terms) where
  abbrev Own : (Event → Type 0) → List Event → Type 0
  Own what events = AllOwn terms.port what events

  of_others : (what : Event → Type 0) (events : List Event) → AreOthers terms events → Own what events
  of_others what events others x has own = absurd (no_own terms.port x events others.not_own has own)

  of_last : (what : Event → Type 0) (event : Event) (added : List Event) → what event → EndsIn terms added event → Own what added
  of_last what event added so (others, foreign, whole) =
      all_whole terms.port what added (event ∷ others) whole (λ x has own. elim has [
        | inl is ↦ subst what (sym is) so
        | inr there ↦ of_others what others foreign x there own
      ])

  -- ---- at objects

  abbrev IsLookOf : ℕ → Event → Type 0
  IsLookOf object event = (shown : Record) × (event ≡ look_at terms.port object shown)

  abbrev IsTryOf : ℕ → Change → Event → Type 0
  IsTryOf object change event =
      IsLookOf object event ⊎ ((shown : Record) × (event ≡ change_at terms.port object change shown))

  of_look : (object : ℕ) (shown : Record) (added : List Event) → IsLook terms object shown added → Own (IsLookOf object) added
  of_look object shown added look = of_last (IsLookOf object) (look_at terms.port object shown) added (shown, refl) look

  module _ (object : ℕ) (change : Change) where
    abbrev Tries : List Event → Type 0
    Tries added = Own (IsTryOf object change) added

    tries_look : (shown : Record) (added : List Event) → IsLook terms object shown added → Tries added
    tries_look shown added look x has own = inl (of_look object shown added look x has own)

    of_lost : (n : ℕ) (added : List Event) → LostTries terms object change n added → Tries added
    of_lost zero added none = all_whole terms.port (IsTryOf object change) added [] none (λ x has own. absurd has)
    of_lost (suc n) added (last, earlier, whole, lost, before) =
        all_whole terms.port (IsTryOf object change) added (last ++ earlier) whole
        (all_both terms.port (IsTryOf object change) last earlier
        (all_whole terms.port (IsTryOf object change) last (lost.others ++ lost.looked) lost.whole
        (all_both terms.port (IsTryOf object change) lost.others lost.looked
        (of_others (IsTryOf object change) lost.others lost.foreign) (tries_look lost.shown lost.looked lost.look)))
        (of_lost n earlier before))

    of_attempt : (tries : ℕ) (seen added : List Event) (outcome : Result Changed Refused)
        → Attempt terms object change tries seen added outcome → Tries added
    of_attempt tries seen added (Ok (Done before after number)) h =
        all_whole terms.port (IsTryOf object change) added (h.made ++ (h.looked ++ h.lost)) h.whole
        (all_both terms.port (IsTryOf object change) h.made (h.looked ++ h.lost)
        (of_last (IsTryOf object change) (change_at terms.port object change before) h.made (inr (before, refl)) h.make)
        (all_both terms.port (IsTryOf object change) h.looked h.lost (tries_look before h.looked h.look)
        (of_lost h.times h.lost h.lose)))
    of_attempt tries seen added (Ok (NotNow shown)) h =
        all_whole terms.port (IsTryOf object change) added (h.looked ++ h.lost) h.whole
        (all_both terms.port (IsTryOf object change) h.looked h.lost (tries_look shown h.looked h.look)
        (of_lost h.times h.lost h.lose))
    of_attempt tries seen added (Err (Busy told now)) h = of_lost tries added h.lose
    of_attempt tries seen added (Err Spent) h =
        all_whole terms.port (IsTryOf object change) added [] h.1 (λ x has own. absurd has)

  -- ---- pictures

  abbrev IsSomeLook : Event → Type 0
  IsSomeLook event = (object : ℕ) × IsLookOf object event

  of_pictured : (n : ℕ) (h : List Event) → Own IsSomeLook (pictured terms.port n h)
  of_pictured zero h x has own = absurd has
  of_pictured (suc n) h x (inl is) own = (suc n, (_, is))
  of_pictured (suc n) h x (inr has) own = of_pictured n h x has own

  of_turn : (seen added : List Event) → Turn terms seen added → Own IsSomeLook added
  of_turn seen added turn =
      let looks = pictured terms.port (objects_in terms.profile) (turn.before ++ seen) in
      all_whole terms.port IsSomeLook added (turn.after ++ (looks ++ turn.before)) turn.whole
      (all_both terms.port IsSomeLook turn.after (looks ++ turn.before) (of_others IsSomeLook turn.after turn.foreign_after)
      (all_both terms.port IsSomeLook looks turn.before (of_pictured (objects_in terms.profile) (turn.before ++ seen))
      (of_others IsSomeLook turn.before turn.foreign_before)))

  of_turns : (n : ℕ) (seen added : List Event) → LostTurns terms n seen added → Own IsSomeLook added
  of_turns zero seen added none = all_whole terms.port IsSomeLook added [] none (λ x has own. absurd has)
  of_turns (suc n) seen added (last, earlier, whole, lost, before) =
      all_whole terms.port IsSomeLook added (last ++ earlier) whole
      (all_both terms.port IsSomeLook last earlier (of_turn (earlier ++ seen) last lost.turn) (of_turns n seen earlier before))

  of_picture : (shown : HandlerRegisters) (seen added : List Event) → IsPicture terms shown seen added → Own IsSomeLook added
  of_picture shown seen added h =
      all_whole terms.port IsSomeLook added (h.last ++ h.lost) h.whole
      (all_both terms.port IsSomeLook h.last h.lost (of_turn (h.lost ++ seen) h.last h.turn) (of_turns h.times seen h.lost h.lose))

  -- ---- events of the chip

  abbrev is_own : ChipEvent → Bool
  is_own event = same_port (port_of_event event) terms.port

  -- this holds of the port's events among these
  abbrev pub ChipOwn : (ChipEvent → Type 0) → ChipHistory → Type 0
  ChipOwn what added = (x : ChipEvent) → Has x added → is_own x ≡ true → what x

  in_ram : (e : Event) (added : ChipHistory) → Has (OfRam e) added → Has e (ram_of added)
  in_ram e [] has = has
  in_ram e (OfRam x ∷ added) (inl is) = inl (same_ram e x is)
  in_ram e (OfRam x ∷ added) (inr has) = inr (in_ram e added has)
  in_ram e (OfController x ∷ added) (inl is) = absurd (ram_or_controller e x is)
  in_ram e (OfController x ∷ added) (inr has) = in_ram e added has

  abbrev counted : Bool → ControllerEvent → ChipHistory → List ControllerEvent
  counted own e added = if own then e ∷ steps_of terms.port added else steps_of terms.port added

  none_counted : (own : Bool) (e : ControllerEvent) (added : ChipHistory) → counted own e added ≡ [] → own ≡ true → ⊥
  none_counted true e added none is = cons_not_nil e (steps_of terms.port added) none
  none_counted false e added none is = true≢false (sym is)

  none_after : (own : Bool) (e : ControllerEvent) (added : ChipHistory) → counted own e added ≡ [] → steps_of terms.port added ≡ []
  none_after true e added none = absurd (cons_not_nil e (steps_of terms.port added) none)
  none_after false e added none = none

  no_step : (e : ControllerEvent) (added : ChipHistory) → steps_of terms.port added ≡ [] → Has (OfController e) added
      → same_port e.port terms.port ≡ true → ⊥
  no_step e [] none has own = has
  no_step e (OfRam x ∷ added) none (inl is) own = ram_or_controller x e (sym is)
  no_step e (OfRam x ∷ added) none (inr has) own = no_step e added none has own
  no_step e (OfController x ∷ added) none (inl is) own =
      none_counted (same_port x.port terms.port) x added none
      (subst (λ (y : ControllerEvent). same_port y.port terms.port ≡ true) (same_controller e x is) own)
  no_step e (OfController x ∷ added) none (inr has) own =
      no_step e added (none_after (same_port x.port terms.port) x added none) has own

  -- the port's events at objects, if it made no step at the controller
  on_objects : (what : ChipEvent → Type 0) (added : ChipHistory) → steps_of terms.port added ≡ []
      → Own (λ e. what (OfRam e)) (ram_of added) → ChipOwn what added
  on_objects what added none all (OfRam e) has own = all e (in_ram e added has) own
  on_objects what added none all (OfController e) has own = absurd (no_step e added none has own)

  still : (what : ChipEvent → Type 0) (added : ChipHistory) → steps_of terms.port added ≡ []
      → events_of terms.port (ram_of added) ≡ [] → ChipOwn what added
  still what added none quiet =
      on_objects what added none (λ e has own. absurd (no_own terms.port e (ram_of added) quiet has own))

  nothing : (what : ChipEvent → Type 0) (added : ChipHistory) → added ≡ [] → ChipOwn what added
  nothing what added none = subst (ChipOwn what) (sym none) (λ x has own. absurd has)

  at_controller : (step : ControllerStep) (before : Controller) (seen added : ChipHistory)
      → AtController terms.port step before seen added → ChipOwn (IsStepAt terms.port step) added
  at_controller step before seen added at =
      subst (ChipOwn (IsStepAt terms.port step)) (sym at.whole) (λ x has own. elim has [
        | inl is ↦ (before, is)
        | inr there ↦ still (IsStepAt terms.port step) at.others at.none at.quiet x there own
      ])

  by_change : (change : ControllerChange) (tries : ℕ) (seen added : ChipHistory)
      (outcome : Result ControllerChanged ControllerBusy) → Changes terms.port change tries seen added outcome
      → ChipOwn (IsStepAt terms.port (step.Make change)) added
  by_change change tries seen added (Ok made) h = at_controller (step.Make change) made.before seen added h.0
  by_change change tries seen added (Err busy) h = still (IsStepAt terms.port (step.Make change)) added h.none h.quiet

  of_try : (object : ℕ) (change : Change) (e : Event) → IsTryOf object change e
      → IsStepOf terms.port (Attempts object change) (OfRam e)
  of_try object change e (inl (shown, is)) = inl (shown, ap (λ (y : Event). OfRam y) is)
  of_try object change e (inr (shown, is)) = inr (shown, ap (λ (y : Event). OfRam y) is)

  pub steps_of_act : (tries : ℕ) (act : Act) (seen added : ChipHistory) (out : Out act)
      → Acted terms tries act seen added out → ChipOwn (IsStepOf terms.port act) added
  steps_of_act tries (Looks object) seen added out on =
      on_objects (IsStepOf terms.port (Looks object)) added on.none (λ e has own.
      let (shown, is) = of_look object out (ram_of added) on.means e has own in (shown, ap (λ (y : Event). OfRam y) is))
  steps_of_act tries (Attempts object change) seen added out (outcome, on, ended) =
      on_objects (IsStepOf terms.port (Attempts object change)) added on.none (λ e has own.
      of_try object change e (of_attempt object change tries (ram_of seen) (ram_of added) outcome on.means e has own))
  steps_of_act tries Pictures seen added out on =
      on_objects (IsStepOf terms.port Pictures) added on.none (λ e has own.
      let (object, (shown, is)) = of_picture out (ram_of seen) (ram_of added) on.means e has own in
      (object, (shown, ap (λ (y : Event). OfRam y) is)))
  steps_of_act tries LooksAtController seen added out on = at_controller step.Look out seen added on
  steps_of_act tries (ChangesController change) seen added out on = by_change change tries seen added out on
  steps_of_act tries (InsistsOnChange change) seen added out on = by_change change most_tries seen added out on
  steps_of_act tries Recalls seen added out on = nothing (IsStepOf terms.port Recalls) added on.0
  steps_of_act tries Pauses seen added out on =
      on_objects (IsStepOf terms.port Pauses) added on.none
      (λ e has own. subst (Has e) on.means has)
  steps_of_act tries LetsOthersAct seen added out on = still (IsStepOf terms.port LetsOthersAct) added on.none on.quiet
  steps_of_act tries (Offers sends fault) seen added out on = nothing (IsStepOf terms.port (Offers sends fault)) added on.0
  steps_of_act tries (Decides line past) seen added out on = nothing (IsStepOf terms.port (Decides line past)) added on.0
  steps_of_act tries Notes seen added out on = nothing (IsStepOf terms.port Notes) added on.0
  steps_of_act tries (Heeds told) seen added out on = still (IsStepOf terms.port (Heeds told)) added on.none on.quiet
