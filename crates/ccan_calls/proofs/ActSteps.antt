-- The steps that a port makes in an act are those that its outcome says.
use Rattle.std.proofs.Common.{ℕ, zero, suc, ◌≡◌, Bool, true, List, [], ◌∷◌, ◌++◌, Result, Ok, Err, refl, sym, ap, subst, ◌∙◌, if◌then◌else◌}
use Rattle.std.proofs.lemmas.List.{append-nil}
use Rattle.ccan_object.specs.declared.record.Record.{Record}
use Rattle.ccan_object.specs.Profile.{objects_in}
use Rattle.ccan_confine.specs.declared.controller.Controller.{Controller}
use Rattle.ccan_confine.specs.declared.controller_change.ControllerChange.{ControllerChange}
use Rattle.ccan_ram.specs.declared.change.Change.{Change}
use Rattle.ccan_ram.specs.declared.change.Changed.{Changed}
use Rattle.ccan_ram.specs.declared.change.Changed.TheVariants.{Done, NotNow}
use Rattle.ccan_ram.specs.declared.change.Refused.{Refused}
use Rattle.ccan_ram.specs.declared.change.Refused.TheVariants.{Busy, Spent}
use Rattle.ccan_ram.specs.declared.event.Event.{Event}
use Rattle.ccan_ram.specs.declared.handler_registers.HandlerRegisters.{HandlerRegisters}
use Rattle.ccan_ram.specs.Attempt.{Attempt, EndsIn, IsLook, LostTries, change_at, look_at}
use Rattle.ccan_ram.specs.History.{events_of, record_at}
use Rattle.ccan_ram.specs.Picture.{IsPicture, LostTurns, Turn, pictured}
use Rattle.ccan_ram.specs.Port.{same_port}
use Rattle.ccan_ram.specs.Terms.{Terms}
use Rattle.ccan_ram.specs.Tries.{most_tries}
use Rattle.ccan_ram.proofs.Histories.{events_of-EndsIn, events_of-append}
use Rattle.ccan_handler.specs.Laws.{LooksInTurn}
use Rattle.ccan_handler.proofs.Own.{its_own}
use Rattle.ccan_process.specs.Act.{attempted}
use Rattle.ccan_endless.specs.declared.chip.ChipEvent.TheVariants.{OfController}
use Rattle.ccan_endless.specs.declared.chip.ControllerEvent.{ControllerEvent}
use Rattle.ccan_endless.specs.declared.chip.ControllerStep.{ControllerStep}
use Rattle.ccan_endless.specs.declared.chip.ControllerStep.TheVariants as step
use Rattle.ccan_endless.specs.declared.controller_changed.ControllerBusy.{ControllerBusy}
use Rattle.ccan_endless.specs.declared.controller_changed.ControllerChanged.{ControllerChanged}
use Rattle.ccan_endless.specs.Chip.{ChipHistory, ram_of, step_at, steps_of}
use Rattle.ccan_registers.specs.ChipSteps.{AtController, Changes}
use Rattle.ccan_calls.specs.ActSteps.{AreLooks, AreTries, AreTurns, ArePictured, ChangeSteps, HasSteps}
use Rattle.ccan_calls.specs.Laws.{ActsHaveTheirSteps}
use Rattle.ccan_calls.specs.Process.{Act, Attempts, ChangesController, Decides, Heeds, InsistsOnChange, LetsOthersAct, Looks, LooksAtController, Notes, Offers, Out, Pauses, Pictures, Recalls}
use Rattle.ccan_calls.specs.Runs.{Acted}

module _ (terms : Terms) where
  abbrev own : List Event → List Event
  own events = events_of terms.port events

  -- in two parts
  own_both : (added later first one other : List Event) → added ≡ later ++ first → own later ≡ one → own first ≡ other
      → own added ≡ one ++ other
  own_both added later first one other whole last begun =
      ap own whole ∙ events_of-append terms.port later first ∙ (λ i. last i ++ begun i)

  own_last : (event : Event) (added : List Event) → same_port event.port terms.port ≡ true → EndsIn terms added event
      → own added ≡ event ∷ []
  own_last event added is ends = events_of-EndsIn terms added event is ends

  own_look : (object : ℕ) (shown : Record) (added : List Event) → IsLook terms object shown added
      → own added ≡ look_at terms.port object shown ∷ []
  own_look object shown added look = own_last (look_at terms.port object shown) added (its_own terms.port) look

  -- ---- attempts

  module _ (object : ℕ) (change : Change) where
    lost_looks : (n : ℕ) (added : List Event) → LostTries terms object change n added → AreLooks terms.port object n (own added)
    lost_looks zero added none = ap own none
    lost_looks (suc n) added (last, earlier, whole, lost, before) =
        let one = own_both last lost.others lost.looked [] (look_at terms.port object lost.shown ∷ []) lost.whole
        lost.foreign.not_own (own_look object lost.shown lost.looked lost.look) in (
          lost.shown,
          own earlier,
          own_both added last earlier (look_at terms.port object lost.shown ∷ []) (own earlier) whole one refl,
          lost_looks n earlier before,
        )

    tries_are : (tries : ℕ) (seen added : List Event) (outcome : Result Changed Refused)
        → Attempt terms object change tries seen added outcome
        → AreTries terms tries object change (attempted outcome) (own added)
    tries_are tries seen added (Ok (Done before after number)) h =
        let looked = own_both (h.looked ++ h.lost) h.looked h.lost (look_at terms.port object before ∷ []) (own h.lost) refl
        (own_look object before h.looked h.look) refl in (
          h.times,
          h.within,
          own h.lost,
          lost_looks h.times h.lost h.lose,
          own_both added h.made (h.looked ++ h.lost) (change_at terms.port object change before ∷ [])
              (look_at terms.port object before ∷ own h.lost) h.whole
              (own_last (change_at terms.port object change before) h.made (its_own terms.port) h.make) looked,
        )
    tries_are tries seen added (Ok (NotNow shown)) h = (
      h.times,
      h.within,
      own h.lost,
      lost_looks h.times h.lost h.lose,
      own_both added h.looked h.lost (look_at terms.port object shown ∷ []) (own h.lost) h.whole
          (own_look object shown h.looked h.look) refl,
    )
    tries_are tries seen added (Err (Busy told now)) h = lost_looks tries added h.lose
    tries_are tries seen added (Err Spent) h = ap own h.1

  -- ---- pictures

  own_first : (event : Event) (events : List Event) → same_port event.port terms.port ≡ true
      → own (event ∷ events) ≡ event ∷ own events
  own_first event events is =
      ap (λ (b : Bool). if b then event ∷ own events else own events) is

  pictured_own : (n : ℕ) (h : List Event) → own (pictured terms.port n h) ≡ pictured terms.port n h
  pictured_own zero h = refl
  pictured_own (suc n) h =
      let look = look_at terms.port (suc n) (record_at (suc n) h) in
      own_first look (pictured terms.port n h) (its_own terms.port) ∙ ap (λ (es : List Event). look ∷ es) (pictured_own n h)

  pictured_looks : (n : ℕ) (h : List Event) → LooksInTurn terms n (pictured terms.port n h)
  pictured_looks zero h = refl
  pictured_looks (suc n) h = (record_at (suc n) h, pictured terms.port n h, refl, pictured_looks n h)

  turn_looks : (seen added : List Event) → Turn terms seen added → LooksInTurn terms (objects_in terms.profile) (own added)
  turn_looks seen added turn =
      let n = objects_in terms.profile in
      let looks = pictured terms.port n (turn.before ++ seen) in
      let begun = own_both (looks ++ turn.before) looks turn.before looks [] refl (pictured_own n (turn.before ++ seen))
      turn.foreign_before.not_own in
      let all = own_both added turn.after (looks ++ turn.before) [] (looks ++ []) turn.whole turn.foreign_after.not_own begun in
      subst (LooksInTurn terms n) (sym (all ∙ append-nil looks)) (pictured_looks n (turn.before ++ seen))

  turns_are : (n : ℕ) (seen added : List Event) → LostTurns terms n seen added → AreTurns terms n (own added)
  turns_are zero seen added none = ap own none
  turns_are (suc n) seen added (last, earlier, whole, lost, before) = (
    own last,
    own earlier,
    own_both added last earlier (own last) (own earlier) whole refl refl,
    turn_looks (earlier ++ seen) last lost.turn,
    turns_are n seen earlier before,
  )

  pictures_are : (shown : HandlerRegisters) (seen added : List Event) → IsPicture terms shown seen added
      → ArePictured terms (own added)
  pictures_are shown seen added h = (
    h.times,
    h.few,
    (
      own h.last,
      own h.lost,
      own_both added h.last h.lost (own h.last) (own h.lost) h.whole refl refl,
      turn_looks (h.lost ++ seen) h.last h.turn,
      turns_are h.times seen h.lost h.lose,
    ),
  )

  -- ---- the controller

  abbrev steps : ChipHistory → List ControllerEvent
  steps added = steps_of terms.port added

  one_step : (event : ControllerEvent) (others : ChipHistory) → same_port event.port terms.port ≡ true → steps others ≡ []
      → steps (OfController event ∷ others) ≡ event ∷ []
  one_step event others is none =
      ap (λ (b : Bool). if b then event ∷ steps others else steps others) is ∙ ap (λ (es : List ControllerEvent). event ∷ es) none

  module _ (step : ControllerStep) (before : Controller) (seen added : ChipHistory)
      (at : AtController terms.port step before seen added) where
    step_is : steps added ≡ step_at terms.port step before ∷ []
    step_is =
        ap steps at.whole ∙ one_step (step_at terms.port step before) at.others (its_own terms.port) at.none

    quiet : own (ram_of added) ≡ []
    quiet = ap (λ es. own (ram_of es)) at.whole ∙ at.quiet

  module _ (change : ControllerChange) (tries : ℕ) (seen added : ChipHistory) where
    change_is : (outcome : Result ControllerChanged ControllerBusy) → Changes terms.port change tries seen added outcome
        → ChangeSteps terms.port change outcome (steps added)
    change_is (Ok made) h = step_is (step.Make change) made.before seen added h.0
    change_is (Err lost) h = h.none

    change_quiet : (outcome : Result ControllerChanged ControllerBusy) → Changes terms.port change tries seen added outcome
        → own (ram_of added) ≡ []
    change_quiet (Ok made) h = quiet (step.Make change) made.before seen added h.0
    change_quiet (Err lost) h = h.quiet

  -- ---- all acts

  nothing : (added : ChipHistory) → added ≡ [] → (own (ram_of added) ≡ []) × (steps added ≡ [])
  nothing added none = (ap (λ es. own (ram_of es)) none, ap steps none)

  steps_are : (tries : ℕ) (act : Act) (seen added : ChipHistory) (out : Out act) → Acted terms tries act seen added out
      → HasSteps terms tries act out added
  steps_are tries (Looks object) seen added out on =
      record { at_objects = own_look object out (ram_of added) on.means; at_controller = on.none }
  steps_are tries (Attempts object change) seen added out (outcome, on, is) = record {
    at_objects = subst (λ end. AreTries terms tries object change end (own (ram_of added))) (sym is)
        (tries_are object change tries (ram_of seen) (ram_of added) outcome on.means);
    at_controller = on.none;
  }
  steps_are tries Pictures seen added out on =
      record { at_objects = pictures_are out (ram_of seen) (ram_of added) on.means; at_controller = on.none }
  steps_are tries LooksAtController seen added out on =
      record { at_objects = quiet step.Look out seen added on; at_controller = step_is step.Look out seen added on }
  steps_are tries (ChangesController change) seen added out on = record {
    at_objects = change_quiet change tries seen added out on;
    at_controller = change_is change tries seen added out on;
  }
  steps_are tries (InsistsOnChange change) seen added out on = record {
    at_objects = change_quiet change most_tries seen added out on;
    at_controller = change_is change most_tries seen added out on;
  }
  steps_are tries Recalls seen added out on =
      let (objects, controller) = nothing added on.0 in record { at_objects = objects; at_controller = controller }
  steps_are tries Pauses seen added out on = record { at_objects = ap own on.means; at_controller = on.none }
  steps_are tries LetsOthersAct seen added out on = record { at_objects = on.quiet; at_controller = on.none }
  steps_are tries (Offers sends fault) seen added out on =
      let (objects, controller) = nothing added on.0 in record { at_objects = objects; at_controller = controller }
  steps_are tries (Decides line past) seen added out on =
      let (objects, controller) = nothing added on.0 in record { at_objects = objects; at_controller = controller }
  steps_are tries Notes seen added out on =
      let (objects, controller) = nothing added on.0 in record { at_objects = objects; at_controller = controller }
  steps_are tries (Heeds told) seen added out on = record { at_objects = on.quiet; at_controller = on.none }

pub acts_have_steps : ActsHaveTheirSteps
acts_have_steps terms tries act seen added out acted = steps_are terms tries act seen added out acted
