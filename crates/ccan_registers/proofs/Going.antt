-- What calls of a chip's memory say of its port, as events that they add to the history of the chip.
use Rattle.std.proofs.Common.{◌≡◌, ℕ, List, [], ◌∷◌, ◌++◌, refl, sym, ap, ap₂, subst, ◌∙◌, append_assoc}
use Rattle.std.specs.Prelude.{Result, Ok, Err, IfOk, IfErr}
use Rattle.std.proofs.lemmas.List.{append_cancel_right}
use Rattle.ccan_confine.specs.declared.controller.Controller.{Controller}
use Rattle.ccan_confine.specs.declared.controller_change.ControllerChange.{ControllerChange}
use Rattle.ccan_confine.specs.Controller.{IsController, controller_after}
use Rattle.ccan_ram.specs.declared.event.Event.{Event}
use Rattle.ccan_ram.specs.declared.port.PortName.{PortName}
use Rattle.ccan_ram.specs.History.{events_of}
use Rattle.ccan_ram.specs.Access.{Goes}
use Rattle.ccan_ram.specs.SharedRam.{IsSamePort, IsWithin, Memory, passes_of, terms_of}
use Rattle.ccan_ram.specs.Terms.{Terms}
use Rattle.ccan_endless.specs.declared.chip.ControllerStep.{ControllerStep}
use Rattle.ccan_endless.specs.declared.chip.ControllerStep.TheVariants.{Make}
use Rattle.ccan_endless.specs.declared.chip.ChipEvent.TheVariants.{OfController}
use Rattle.ccan_endless.specs.declared.controller_changed.ControllerBusy.{ControllerBusy}
use Rattle.ccan_endless.specs.declared.controller_changed.ControllerChanged.{ControllerChanged}
use Rattle.ccan_endless.specs.Chip.{ChipHistory, GoesFrom, IsControllerStep, controller_at, ram_of, step_at, steps_of}
use Rattle.ccan_endless.specs.ChipPort.{AddsController, AddsNoEvent, AddsNone, ChipPass, HasChanges, SeesOne}
use Rattle.ccan_endless.specs.Layout.{same_object}
use Rattle.ccan_registers.specs.ChipSteps.{AtController, Changes, ChipGoes, IsLost, OnObjects, Then, terms_at}
use Rattle.ccan_registers.specs.Notes.{Heeds}
use Rattle.ccan_registers.proofs.Histories.{no_events, no_steps, ram_of-append}

-- a port as it stands goes on from itself
pub none_yet : (port : ChipPass) → SeesOne port → AddsNone port port
none_yet port sees = record {
  same = record { memory = refl; port = refl };
  from = sees;
  to = sees;
  part = ([], refl);
  own = refl;
}

-- what holds of the events that a port of a chip added to the message RAM's history, where it made no step at the controller
pub objects_after : (old new : ChipPass) (what : List Event → List Event → Type 0) → AddsNone old new → (a : List Event)
    → new.pass.seen ≡ a ++ old.pass.seen → what old.pass.seen a
    → (more : ChipHistory) × (new.whole ≡ more ++ old.whole) × OnObjects old.pass.port what old.whole more
objects_after old new what none a seen h =
    let more = none.part.0 in
    let is : new.whole ≡ more ++ old.whole = none.part.1 in
    let ram : ram_of more ++ ram_of old.whole ≡ a ++ ram_of old.whole =
    sym (ram_of-append more old.whole) ∙ (sym (ap ram_of is) ∙ (sym none.to.ram ∙ (seen
    ∙ ap (λ (l : List Event). a ++ l) none.from.ram))) in
    let same : a ≡ ram_of more = sym (append_cancel_right (ram_of more) a (ram_of old.whole) ram) in (
      more,
      is,
      record {
        none =
            no_steps old.pass.port more old.whole
            (subst (λ (h : ChipHistory). steps_of old.pass.port h ≡ steps_of old.pass.port old.whole) is none.own);
        means = subst (λ (u : List Event × List Event). what u.0 u.1) (λ i. (none.from.ram i, same i)) h;
      },
    )

-- what a call says of the message RAM, where its port made no step at the controller
pub on_objects : (old new : ChipPass) (what : Terms → List Event → List Event → Type 0) → AddsNone old new
    → Goes (passes_of same_object old.pass) (passes_of same_object new.pass) what
    → ChipGoes old new (λ terms seen added. OnObjects terms.port (what terms) seen added)
on_objects old new what none goes = record {
  same = none.same;
  each = λ s.
      let a = goes.each old.pass.seen (refl, s.sees) in
      let b = objects_after old new (what (terms_at old)) none a.0 (sym a.1.0) a.2 in (
        b.0,
        record { one = none.to; sees = subst (λ (es : List Event). IsWithin new.pass.memory es) a.1.0 a.1.1 },
        b.1,
        b.2,
      );
}

-- a step at the controller alone
pub at_controller : (old new : ChipPass) (step : ControllerStep) (before : Controller) → AddsController old new step before
    → AddsNoEvent old new → ChipGoes old new (λ terms seen added. AtController terms.port step before seen added)
at_controller old new step before adds quiet = record {
  same = adds.same;
  each = λ s.
      let port = old.pass.port in
      let more = adds.part.0 in
      let is : adds.log ≡ more ++ old.whole = adds.part.1 in
      let event = OfController (step_at port step before) in
      let whole : new.whole ≡ (event ∷ more) ++ old.whole = adds.whole ∙ ap (λ (h : ChipHistory). event ∷ h) is in
      let ram : new.pass.seen ≡ ram_of (more ++ old.whole) = adds.to.ram ∙ ap ram_of whole in (
        event ∷ more,
        record { one = adds.to; sees = quiet.sees },
        whole,
        record {
          others = more;
          whole = refl;
          none =
              no_steps port more old.whole
              (subst (λ (h : ChipHistory). steps_of port h ≡ steps_of port old.whole) is adds.own);
          quiet =
              no_events port more old.whole
              (ap (events_of port) (sym ram) ∙ (quiet.own ∙ ap (events_of port) adds.from.ram));
          stands = subst (IsControllerStep (step_at port step before)) is adds.stands;
        },
      );
}

-- a change that was given up
pub lost : (old new : ChipPass) (tries : ℕ) (busy : ControllerBusy) → AddsNone old new → AddsNoEvent old new
    → (busy.tries ≡ tries) × HasChanges tries old.whole new.whole → busy.controller ≡ controller_at new.whole
    → ChipGoes old new (λ terms seen added. IsLost terms.port tries busy seen added)
lost old new tries busy none quiet changes found = record {
  same = none.same;
  each = λ s.
      let port = old.pass.port in
      let more = none.part.0 in
      let is : new.whole ≡ more ++ old.whole = none.part.1 in
      let ram : new.pass.seen ≡ ram_of (more ++ old.whole) = none.to.ram ∙ ap ram_of is in (
        more,
        record { one = none.to; sees = quiet.sees },
        is,
        record {
          none =
              no_steps port more old.whole
              (subst (λ (h : ChipHistory). steps_of port h ≡ steps_of port old.whole) is none.own);
          quiet =
              no_events port more old.whole
              (ap (events_of port) (sym ram) ∙ (quiet.own ∙ ap (events_of port) none.from.ram));
          changes = subst (HasChanges tries old.whole) is changes.1;
          tries_are = changes.0;
          found = found ∙ ap controller_at is;
        },
      );
}

-- a port that has seen what another told, and made no step
pub heeded : (old new : ChipPass) (told : ChipHistory) → AddsNone old new → AddsNoEvent old new → GoesFrom new.whole told
    → ChipGoes old new (λ terms seen added. Heeds terms.port told seen added)
heeded old new told none quiet heeds = record {
  same = none.same;
  each = λ s.
      let port = old.pass.port in
      let more = none.part.0 in
      let is : new.whole ≡ more ++ old.whole = none.part.1 in
      let ram : new.pass.seen ≡ ram_of (more ++ old.whole) = none.to.ram ∙ ap ram_of is in (
        more,
        record { one = none.to; sees = quiet.sees },
        is,
        record {
          none =
              no_steps port more old.whole
              (subst (λ (h : ChipHistory). steps_of port h ≡ steps_of port old.whole) is none.own);
          quiet =
              no_events port more old.whole
              (ap (events_of port) (sym ram) ∙ (quiet.own ∙ ap (events_of port) none.from.ram));
          heeds = subst (λ (h : ChipHistory). GoesFrom h told) is heeds;
        },
      );
}

-- less is said of the same events
pub weaker : (old new : ChipPass) (what less : Terms → ChipHistory → ChipHistory → Type 0) → ChipGoes old new what
    → ((seen added : ChipHistory) → what (terms_at old) seen added → less (terms_at old) seen added) → ChipGoes old new less
weaker old new what less goes f = record {
  same = goes.same;
  each = λ s. (let a = goes.each s in (a.0, a.1, a.2, f old.whole a.0 a.3));
}

-- a change, as it ends
pub changes_of : (old new : ChipPass) (change : ControllerChange) (tries : ℕ) (outcome : Result ControllerChanged ControllerBusy)
    → IfOk outcome (λ made. AddsController old new (Make change) made.before)
    → IfOk outcome (λ made. made.after ≡ controller_after change made.before)
    → IfErr outcome (λ busy. (busy.controller ≡ controller_at new.whole) × IsController busy.controller × AddsNone old new)
    → IfErr outcome (λ busy. (busy.tries ≡ tries) × HasChanges tries old.whole new.whole)
    → AddsNoEvent old new
    → ChipGoes old new (λ terms seen added. Changes terms.port change tries seen added outcome)
changes_of old new change tries (Ok made) adds after busy none quiet =
    weaker old new _ _ (at_controller old new (Make change) made.before adds quiet) (λ seen added h. (h, after))
changes_of old new change tries (Err busy) adds after none changes quiet =
    lost old new tries busy none.2 quiet changes none.0

pub same_terms : (old new : ChipPass) → IsSamePort old.pass new.pass → terms_at new ≡ terms_at old
same_terms old new same = ap₂ (λ (m : Memory) (p : PortName). terms_of same_object m p) same.memory same.port

-- one call after another
pub goes_then : (a b d : ChipPass) (first second : Terms → ChipHistory → ChipHistory → Type 0) → ChipGoes a b first
    → ChipGoes b d second → ChipGoes a d (λ terms seen added. Then (first terms) (second terms) seen added)
goes_then a b d first second f s = record {
  same = record { memory = s.same.memory ∙ f.same.memory; port = s.same.port ∙ f.same.port };
  each = λ h.
      let x = f.each h in
      let y = s.each x.1 in (
        y.0 ++ x.0,
        y.1,
        y.2 ∙ (ap (λ (l : ChipHistory). y.0 ++ l) x.2 ∙ sym (append_assoc y.0 x.0 a.whole)),
        record {
          earlier = x.0;
          later = y.0;
          whole = refl;
          begins = x.3;
          ends =
              subst (λ (u : Terms × ChipHistory). second u.0 u.1 y.0) (λ i. (same_terms a b f.same i, x.2 i)) y.3;
        },
      );
}

-- nothing happens
pub rests : (port : ChipPass) (what : Terms → ChipHistory → ChipHistory → Type 0) → what (terms_at port) port.whole []
    → ChipGoes port port what
rests port what h = record { same = record { memory = refl; port = refl }; each = λ s. ([], s, refl, h) }
