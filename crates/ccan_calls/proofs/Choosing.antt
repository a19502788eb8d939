-- The choice of what is sent, by its answer, is its process.
use Rattle.std.proofs.Common.{ℕ, suc, ◌≡◌, ◌↔◌, List, ◌++◌, Option, Some, None, Result, Ok, Err, refl, sym, subst, ◌∙◌, arith}
use Rattle.ccan_object.specs.declared.record.Record.{Record}
use Rattle.ccan_object.specs.Profile.{objects_in}
use Rattle.ccan_ram.specs.declared.change.Refused.{Refused}
use Rattle.ccan_ram.specs.declared.change.Refused.TheVariants.{Busy, Spent}
use Rattle.ccan_ram.specs.declared.event.Event.{Event}
use Rattle.ccan_ram.specs.declared.handler_registers.HandlerRegisters.{HandlerRegisters}
use Rattle.ccan_ram.specs.declared.sending.Sending.{Sending}
use Rattle.ccan_ram.specs.Terms.{Terms}
use Rattle.ccan_handler.specs.Moment.{ChoosesAtOnce, Chosen, StopsAtOne, Starts}
use Rattle.ccan_bus.specs.declared.answer.LoadAnswer.{LoadAnswer}
use Rattle.ccan_bus.specs.declared.answer.LoadAnswer.TheVariants as load
use Rattle.ccan_process.specs.Process.{Does}
use Rattle.ccan_endless.specs.Chip.{ChipHistory, ram_of}
use Rattle.ccan_registers.specs.ChipSteps.{OnObjects}
use Rattle.ccan_calls.specs.LoadProcess.{start_each, start_first}
use Rattle.ccan_calls.specs.Process.{Pictures, ending}
use Rattle.ccan_calls.specs.Runs.{Runs}
use Rattle.ccan_calls.proofs.Processes.{ending_same, ending_twice, ends_so}
use Rattle.ccan_calls.proofs.Starting.{ChoosesSo, ChosenIn, Shown, StopsIn, Stopped, of_starts, picture_and, to_starts, with_picture}

-- ---- the choice

module _ (terms : Terms) (tries : ℕ) (sending : Sending) (seen added : ChipHistory) where
  abbrev pub objects : ℕ
  objects = objects_in terms.profile

  without_picture : ending (picture_and sending objects) (λ so. so.1) ≡ start_first terms.profile sending
  without_picture =
      λ i. Does Pictures (λ shown. (ending_twice (start_each sending shown objects 1) (with_picture shown) (λ so. so.1)
      ∙ ending_same (start_each sending shown objects 1)) i)

  starts_first : (answer : LoadAnswer)
      → ((shown : HandlerRegisters) × ChoosesSo terms tries sending objects seen added (shown, answer))
      ↔ Runs terms tries (start_first terms.profile sending) seen added answer
  starts_first answer =
      let end = ends_so terms tries (λ (so : Shown). so.1) (picture_and sending objects) seen added answer in (
        λ h.
            let (shown, so) = h in
            subst (λ p. Runs terms tries p seen added answer) without_picture
            (end.1 ((shown, answer), to_starts terms tries sending objects seen added (shown, answer) so, refl)),
        λ h.
            let (so, on, is) = end.0 (subst (λ p. Runs terms tries p seen added answer) (sym without_picture) h) in (
              so.0,
              subst (λ a. ChoosesSo terms tries sending objects seen added (so.0, a)) (sym is)
                  (of_starts terms tries sending objects seen added so on),
            ),
      )

-- ---- a choice by its answer

module _ (terms : Terms) (tries : ℕ) (sending : Sending) (seen added : List Event) where
  abbrev pub Chose : Chosen → Type 0
  Chose chosen = ChoosesAtOnce terms sending tries seen added chosen

  -- what is chosen, if a load answers this
  abbrev pub ChoiceOf : LoadAnswer → Type 0
  ChoiceOf load.Nothing = Chose (Ok None)
  ChoiceOf (load.Loaded object after) = Chose (Ok (Some (object, after)))
  ChoiceOf (load.Held object) = ⊥
  ChoiceOf (load.Busy object) = (told : ℕ) × (now : ℕ) × Chose (Err (record { at = object; why = Busy told now }))
  ChoiceOf (load.Spent object) = Chose (Err (record { at = object; why = Spent }))

  abbrev In : HandlerRegisters → LoadAnswer → Type 0
  In shown answer = ChosenIn terms tries sending (objects_in terms.profile) shown answer seen added

  module _ (shown : HandlerRegisters) (object : ℕ) where
    abbrev One : List Event → List Event → Result (Option Record) Refused → Type 0
    One s a outcome = StopsAtOne terms sending shown tries object s a outcome

    stops_in : (s a : List Event) (outcome : Result (Option Record) Refused) (answer : LoadAnswer) → (stop : One s a outcome)
        → Stopped terms tries sending shown (suc stop.below) (stop.skipped ++ s) stop.last answer
        → StopsIn terms tries sending (objects_in terms.profile) shown s a answer
    stops_in s a outcome answer stop stops = record {
      below = stop.below;
      less = stop.held;
      skipped = stop.skipped;
      last = stop.last;
      whole = stop.whole;
      skips = stop.skips;
      stops = stops;
    }

    stops_at : (s a : List Event) (outcome : Result (Option Record) Refused) (answer : LoadAnswer)
        → (stop : StopsIn terms tries sending (objects_in terms.profile) shown s a answer) → object ≡ suc stop.below
        → Starts terms sending shown (suc stop.below) tries (stop.skipped ++ s) stop.last outcome → One s a outcome
    stops_at s a outcome answer stop is starts = record {
      below = stop.below;
      is = omega (arith, is);
      held = stop.less;
      skipped = stop.skipped;
      last = stop.last;
      whole = stop.whole;
      skips = stop.skips;
      start = subst (λ k. Starts terms sending shown k tries (stop.skipped ++ s) stop.last outcome) (sym is) starts;
    }

    next_is : (s a : List Event) (outcome : Result (Option Record) Refused) → (stop : One s a outcome) → object ≡ suc stop.below
    next_is s a outcome stop = let is = stop.is in omega (arith, is)

    starts_there : (s a : List Event) (outcome : Result (Option Record) Refused) → (stop : One s a outcome)
        → Starts terms sending shown (suc stop.below) tries (stop.skipped ++ s) stop.last outcome
    starts_there s a outcome stop =
        subst (λ k. Starts terms sending shown k tries (stop.skipped ++ s) stop.last outcome) (next_is s a outcome stop)
        stop.start

  to_in : (answer : LoadAnswer) → ChoiceOf answer → (shown : HandlerRegisters) × In shown answer
  to_in load.Nothing c =
      (c.shown, record { looked = c.looked; tried = c.tried; whole = c.whole; picture = c.picture; among = c.choice })
  to_in (load.Held object) c = absurd c
  to_in (load.Loaded object after) c = (
    c.shown,
    record {
      looked = c.looked;
      tried = c.tried;
      whole = c.whole;
      picture = c.picture;
      among = stops_in c.shown object (c.looked ++ seen) c.tried (Ok (Some after)) (load.Loaded object after) c.choice (
        next_is c.shown object (c.looked ++ seen) c.tried (Ok (Some after)) c.choice,
        starts_there c.shown object (c.looked ++ seen) c.tried (Ok (Some after)) c.choice,
      );
    },
  )
  to_in (load.Busy object) (told, now, c) = (
    c.shown,
    record {
      looked = c.looked;
      tried = c.tried;
      whole = c.whole;
      picture = c.picture;
      among = stops_in c.shown object (c.looked ++ seen) c.tried (Err (Busy told now)) (load.Busy object) c.choice (
        next_is c.shown object (c.looked ++ seen) c.tried (Err (Busy told now)) c.choice,
        (told, now, starts_there c.shown object (c.looked ++ seen) c.tried (Err (Busy told now)) c.choice),
      );
    },
  )
  to_in (load.Spent object) c = (
    c.shown,
    record {
      looked = c.looked;
      tried = c.tried;
      whole = c.whole;
      picture = c.picture;
      among = stops_in c.shown object (c.looked ++ seen) c.tried (Err Spent) (load.Spent object) c.choice (
        next_is c.shown object (c.looked ++ seen) c.tried (Err Spent) c.choice,
        starts_there c.shown object (c.looked ++ seen) c.tried (Err Spent) c.choice,
      );
    },
  )

  of_in : (answer : LoadAnswer) (shown : HandlerRegisters) → In shown answer → ChoiceOf answer
  of_in load.Nothing shown c = record {
    shown = shown;
    looked = c.looked;
    tried = c.tried;
    whole = c.whole;
    picture = c.picture;
    choice = c.among;
  }
  of_in (load.Held object) shown c = absurd c.among
  of_in (load.Loaded object after) shown c =
      let (is, starts) = c.among.stops in record {
        shown = shown;
        looked = c.looked;
        tried = c.tried;
        whole = c.whole;
        picture = c.picture;
        choice = stops_at shown object (c.looked ++ seen) c.tried (Ok (Some after)) (load.Loaded object after) c.among is starts;
      }
  of_in (load.Busy object) shown c =
      let (is, some) = c.among.stops in
      let (told, now, starts) = some in (
        told,
        now,
        record {
          shown = shown;
          looked = c.looked;
          tried = c.tried;
          whole = c.whole;
          picture = c.picture;
          choice = stops_at shown object (c.looked ++ seen) c.tried (Err (Busy told now)) (load.Busy object) c.among is starts;
        },
      )
  of_in (load.Spent object) shown c =
      let (is, starts) = c.among.stops in record {
        shown = shown;
        looked = c.looked;
        tried = c.tried;
        whole = c.whole;
        picture = c.picture;
        choice = stops_at shown object (c.looked ++ seen) c.tried (Err Spent) (load.Spent object) c.among is starts;
      }

module _ (terms : Terms) (tries : ℕ) (sending : Sending) (seen added : ChipHistory) (answer : LoadAnswer) where
  pub choice_so : OnObjects terms.port (λ s a. ChoiceOf terms tries sending s a answer) seen added
      ↔ Runs terms tries (start_first terms.profile sending) seen added answer
  choice_so =
      let starts = starts_first terms tries sending seen added answer in (
        λ h.
            let (shown, here) = to_in terms tries sending (ram_of seen) (ram_of added) answer h.means in
            starts.0 (shown, record { none = h.none; means = here }),
        λ h.
            let (shown, here) = starts.1 h in
            record {
              none = here.none;
              means = of_in terms tries sending (ram_of seen) (ram_of added) answer shown here.means;
            },
      )
