-- Between a round's look at the controller and its change of it, the bus makes no step there; and hosts leave TEC and REC.
use Rattle.std.proofs.Common.{ℕ, ◌≡◌, ◌+◌, Bool, true, false, cond, List, [], ◌∷◌, ◌++◌, length, refl, sym, ap, subst, ◌∙◌, arith}
use Rattle.std.specs.Prelude.{Result, Ok, Err, Option, Some, None}
use Rattle.std.specs.List.{list_any}
use Rattle.ccan_confine.specs.declared.bus_event.BusEvent.{BusEvent}
use Rattle.ccan_confine.specs.declared.controller.Controller.{Controller}
use Rattle.ccan_confine.specs.declared.controller_change.ControllerChange.TheVariants.{Frame}
use Rattle.ccan_confine.specs.declared.status_event.StatusEvent.{StatusEvent}
use Rattle.ccan_confine.specs.ControllerLaws.{is_dcan_reset}
use Rattle.ccan_ram.specs.declared.port.PortName.{PortName}
use Rattle.ccan_ram.specs.declared.port.PortName.TheVariants.{Bus}
use Rattle.ccan_ram.specs.Port.{same_port}
use Rattle.ccan_ram.specs.Tries.{most_tries}
use Rattle.ccan_endless.specs.declared.chip.ChipEvent.TheVariants.{OfController, OfRam}
use Rattle.ccan_endless.specs.declared.chip.ControllerEvent.{ControllerEvent}
use Rattle.ccan_endless.specs.declared.chip.ControllerStep.{ControllerStep}
use Rattle.ccan_endless.specs.declared.chip.ControllerStep.TheVariants.{Look, Make}
use Rattle.ccan_endless.specs.declared.controller_changed.ControllerBusy.{ControllerBusy}
use Rattle.ccan_endless.specs.declared.controller_changed.ControllerChanged.{ControllerChanged}
use Rattle.ccan_endless.specs.Chip.{ChipHistory, GoesFrom, IsControllerLegal, controller_at, step_at, steps_of}
use Rattle.ccan_endless.specs.ChipLaws.{changes_in}
use Rattle.ccan_endless.specs.ChipPort.{AddsController, AddsNone, ChipPass}
use Rattle.ccan_endless.proofs.ChipLaws.{levels_stay, none_reset}
use Rattle.ccan_endless.proofs.Onward.{goes_through}
use Rattle.ccan_chip.specs.Laws.{HasNoReset, RoundsFindTheirCounters}
use Rattle.ccan_chip.specs.Round.{Notes}
use Rattle.ccan_chip.proofs.Ports.{before_same}

one_more : (own : Bool) (e : ControllerEvent) (xs ys : List ControllerEvent) (n : ℕ) → length ys ≡ length xs + n
    → length (cond own (e ∷ ys) ys) ≡ length (cond own (e ∷ xs) xs) + n
one_more true e xs ys n h = omega (arith, h)
one_more false e xs ys n h = h

steps_in : (p : PortName) (more h : ChipHistory)
    → length (steps_of p (more ++ h)) ≡ length (steps_of p more) + length (steps_of p h)
steps_in p [] h = omega arith
steps_in p (OfRam e ∷ more) h = steps_in p more h
steps_in p (OfController e ∷ more) h = one_more (same_port e.port p) e (steps_of p more) _ _ (steps_in p more h)

empty : (xs : List ControllerEvent) → length xs ≡ 0 → xs ≡ []
empty [] h = refl
empty (x ∷ xs) h = absurd (omega (arith, h))

-- a history that goes on without a step of the port has none of it in what is new
none_new : (p : PortName) (more h : ChipHistory) → steps_of p (more ++ h) ≡ steps_of p h → steps_of p more ≡ []
none_new p more h same =
    let all = steps_in p more h in
    let e = ap length same in
    empty (steps_of p more) (omega (arith, all, e))

levels_on : (log h : ChipHistory) → (goes : GoesFrom log h) → IsControllerLegal log → steps_of Bus log ≡ steps_of Bus h
    → list_any is_dcan_reset (changes_in goes.0) ≡ false
    → (controller_at log).counters.levels ≡ (controller_at h).counters.levels
levels_on log h goes legal same stays =
    let none = none_new Bus goes.0 h (ap (steps_of Bus) (sym goes.1) ∙ same) in
    ap (λ (l : ChipHistory). (controller_at l).counters.levels) goes.1
    ∙ levels_stay goes.0 h (subst IsControllerLegal goes.1 legal) none stays

found_again : (old looked between new : ChipPass) (found : Controller) (step : ControllerStep) (before : Controller)
    → old.pass.port ≡ Bus → AddsController old looked Look found → AddsNone looked between
    → AddsController between new step before → HasNoReset looked.whole new.whole
    → before.counters.levels ≡ found.counters.levels
found_again old looked between new found step before port looks rests adds none =
    let looked_bus : looked.pass.port ≡ Bus = looks.same.port ∙ port in
    let between_bus : between.pass.port ≡ Bus = rests.same.port ∙ looked_bus in
    let goes = goes_through adds.log between.whole looked.whole adds.part rests.part in
    let own = subst (λ (p : PortName). steps_of p adds.log ≡ steps_of p between.whole) between_bus adds.own
    ∙ subst (λ (p : PortName). steps_of p between.whole ≡ steps_of p looked.whole) looked_bus rests.own in
    let legal = (subst IsControllerLegal adds.whole adds.to.legal).1 in
    let event = OfController (step_at between.pass.port step before) in
    let stays = (none_reset step (changes_in goes.0)
    (none (event ∷ goes.0) (adds.whole ∙ ap (λ (h : ChipHistory). event ∷ h) goes.1))).1 in
    ap (λ (c : Controller). c.counters.levels) adds.stands.before
    ∙ (levels_on adds.log looked.whole goes legal own stays
    ∙ ap (λ (h : ChipHistory). (controller_at h).counters.levels) looks.whole)

-- the change that was made
made_of : (any : Option (BusEvent × StatusEvent)) (tries : ℕ) (old new : ChipPass)
    (told : Option (Result ControllerChanged ControllerBusy)) (made : ControllerChanged) → Notes any tries old new told
    → told ≡ Some (Ok made)
    → (own : BusEvent × StatusEvent) × AddsController old new (Make (Frame own.0 own.1)) made.before
made_of None tries old new told made h is = let wrong : None ≡ Some (Ok made) = sym h.1 ∙ is in absurd cc
made_of (Some own) tries old new None made h is = absurd h
made_of (Some own) tries old new (Some (Ok other)) made h is =
    let same : other ≡ made = cc in
    (own, subst (λ (m : ControllerChanged). AddsController old new (Make (Frame own.0 own.1)) m.before) same h.0)
made_of (Some own) tries old new (Some (Err busy)) made h is = absurd cc

pub rounds_find : RoundsFindTheirCounters
rounds_find terms line tries old new past after told made port round is none =
    let m = made_of told.own most_tries round.between new told.noted made round.notes is in
    let came = round.arrives in
    let same = before_same old round.looked round.first told.found came in
    found_again came.before round.looked round.between new told.found _ made.before (same.port ∙ port) came.looks.adds
    round.rests m.1 none
