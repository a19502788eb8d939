-- A round of the bus is its process.
use Rattle.std.proofs.Common.{ℕ, ◌≡◌, ◌↔◌, inl, inr, List, [], ◌∷◌, ◌++◌, length, Option, Some, None, Result, refl, sym, ap, subst, ◌∙◌, append_assoc, arith}
use Rattle.std.proofs.lemmas.List.{append-nil}
use Rattle.ccan_confine.specs.declared.bus_event.BusEvent.{BusEvent}
use Rattle.ccan_confine.specs.declared.controller.Controller.{Controller}
use Rattle.ccan_confine.specs.declared.controller_change.ControllerChange.TheVariants.{Frame as FrameEvent}
use Rattle.ccan_confine.specs.declared.status_event.StatusEvent.{StatusEvent}
use Rattle.ccan_confine.specs.Counters.{Bus as BusEventOf}
use Rattle.ccan_ram.specs.declared.event.Event.{Event}
use Rattle.ccan_ram.specs.declared.sending.Sending.TheVariants.{UntilSent}
use Rattle.ccan_ram.specs.Terms.{Terms}
use Rattle.ccan_ram.specs.Tries.{most_tries}
use Rattle.ccan_bus.specs.declared.answer.LoadAnswer.{LoadAnswer}
use Rattle.ccan_bus.specs.declared.answer.LoadAnswer.TheVariants as load
use Rattle.ccan_bus.specs.declared.answer.RoundAnswer.{RoundAnswer}
use Rattle.ccan_bus.specs.declared.choice.Choice.TheVariants.{AtOnce}
use Rattle.ccan_bus.specs.declared.decision.Decision.{Decision}
use Rattle.ccan_bus.specs.declared.round_line.RoundLine.{RoundLine}
use Rattle.ccan_bus.specs.Controller.{WasTo, add_status}
use Rattle.ccan_bus.specs.Load.{Loads}
use Rattle.ccan_bus.specs.Past.{BusPast, levels_at}
use Rattle.ccan_bus.specs.Round.{refusal_of_round}
use Rattle.ccan_bus.specs.RoundReport.{RunsOn, RunsSteps}
use Rattle.ccan_process.specs.Process.{followed_by}
use Rattle.ccan_chip.specs.declared.chip_report.ChipReport.{ChipReport}
use Rattle.ccan_chip.specs.Arrival.{left_behind}
use Rattle.ccan_chip.specs.Round.{as_found, events_in}
use Rattle.ccan_endless.specs.declared.controller_changed.ControllerBusy.{ControllerBusy}
use Rattle.ccan_endless.specs.declared.controller_changed.ControllerChanged.{ControllerChanged}
use Rattle.ccan_endless.specs.Chip.{ChipHistory}
use Rattle.ccan_registers.specs.ChipSteps.{OnObjects, Then}
use Rattle.ccan_registers.specs.Rounds.{NotesEvent, RoundOnChip}
use Rattle.ccan_calls.specs.LoadProcess.{LoadEnd, load_on}
use Rattle.ccan_calls.specs.Process.{Decided, InsistsOnChange, LetsOthersAct, Pauses, Process, ending}
use Rattle.ccan_calls.specs.RoundProcess.{EventEnd, Played, RoundTold, completes, not_played, makes_event, played, plays, plays_on, round_told, rounds}
use Rattle.ccan_calls.specs.Runs.{Runs}
use Rattle.ccan_calls.proofs.AtObjects.{Both, both_so}
use Rattle.ccan_calls.proofs.CompletesRun.{completes_so}
use Rattle.ccan_calls.proofs.LoadsRun.{ArrivesAnd, arrives_and_so, chooses_so, load_is}
use Rattle.ccan_calls.proofs.Processes.{after_none, ends_so, follow, follows, one_act}

-- ---- what a round is to the controller's registers

abbrev OwnEvent : Type 0
OwnEvent = BusEvent × StatusEvent

-- a load is nothing to them
record Keeps (past between : BusPast) : Type 0 where
  pub events : between.events 0 ≡ past.events 0
  pub steps : between.steps ≡ past.steps

kept : (past between : BusPast) → between ≡ past → Keeps past between
kept past between same = record { events = ap (λ (p : BusPast). p.events 0) same; steps = ap (λ (p : BusPast). p.steps) same }

load_keeps : (terms : Terms) (tries : ℕ) (seen added : List Event) (past between : BusPast) (answer : LoadAnswer)
    → Loads terms tries seen added past between answer → Keeps past between
load_keeps terms tries seen added past between (load.Loaded object started) h =
    record { events = ap (λ (p : BusPast). p.events 0) h.now_loaded; steps = ap (λ (p : BusPast). p.steps) h.now_loaded }
load_keeps terms tries seen added past between (load.Held object) h = kept past between h.same
load_keeps terms tries seen added past between load.Nothing (inl h) = kept past between h.same
load_keeps terms tries seen added past between load.Nothing (inr h) = kept past between h.same
load_keeps terms tries seen added past between (load.Busy object) (told, now, h) = kept past between h.same
load_keeps terms tries seen added past between (load.Spent object) h = kept past between h.same

module _ (past between after : BusPast) (keeps : Keeps past between) where
  since_load : (own : Option OwnEvent) → WasTo own past after → WasTo own between after
  since_load None h = (h.0 ∙ sym keeps.events, h.1 ∙ sym keeps.steps)
  since_load (Some own) h = (
    h.0 ∙ ap (λ es. BusEventOf own.0 ∷ es) (sym keeps.events),
    subst (λ steps. after.steps ≡ add_status own.1 (levels_at after 0) steps) (sym keeps.steps) h.1,
  )

  before_load : (own : Option OwnEvent) → WasTo own between after → WasTo own past after
  before_load None h = (h.0 ∙ keeps.events, h.1 ∙ keeps.steps)
  before_load (Some own) h = (
    h.0 ∙ ap (λ es. BusEventOf own.0 ∷ es) keeps.events,
    subst (λ steps. after.steps ≡ add_status own.1 (levels_at after 0) steps) keeps.steps h.1,
  )

-- nor is what happens if no frame is on the bus
no_event : (past after : BusPast) (own : Option OwnEvent) → after ≡ past → WasTo own past after → own ≡ None
no_event past after None same h = refl
no_event past after (Some own) same h =
    let more = ap length h.0 in
    let as_many = ap (λ (p : BusPast). length (p.events 0)) same in
    absurd (omega (arith, more, as_many))

-- ---- a load, and what follows it

module _ (terms : Terms) (tries : ℕ) (line : RoundLine) where
  module _ (load : LoadEnd) (end : Played) (seen added : ChipHistory) where
    abbrev Follows : Option RoundAnswer → Type 0
    Follows refusal = OnObjects terms.port
        (λ s a. RunsOn refusal terms line tries s a load.1 end.after end.report.decision end.report.end) seen added

    abbrev FollowsRuns : Option RoundAnswer → Type 0
    FollowsRuns refusal = Runs terms tries (plays_on terms.profile line load refusal) seen added end

  -- the load was refused
  module _ (load : LoadEnd) (refusal : RoundAnswer) (seen added : ChipHistory) where
    to_refused : (end : Played) → end.report.loading ≡ load.0 → WasTo end.own load.1 end.after
        → Follows load end seen added (Some refusal) → FollowsRuns load end seen added (Some refusal)
    to_refused end loaded was on = by_decision end.report.decision refl on
      where
        by_decision : (decision : Option Decision) → end.report.decision ≡ decision
            → OnObjects terms.port
            (λ s a. RunsOn (Some refusal) terms line tries s a load.1 end.after decision end.report.end) seen added
            → FollowsRuns load end seen added (Some refusal)
        by_decision (Some decided) is on = absurd on.means
        by_decision None is on =
            let h = on.means in
            let none = no_event load.1 end.after end.own h.same was in
            (one_act terms tries Pauses (λ paused. not_played load refusal) seen added end).1 (
              tt,
              record { none = on.none; means = h.quiet },
              λ i. record {
                report = record { loading = loaded i; decision = is i; end = h.told i };
                own = none i;
                after = h.same i;
              },
            )

    abbrev Refused : Played → Type 0
    Refused end =
        (end.report.loading ≡ load.0) × WasTo end.own load.1 end.after × Follows load end seen added (Some refusal)

    of_refused : (end : Played) → FollowsRuns load end seen added (Some refusal) → Refused end
    of_refused end on =
        let (paused, rest, is) =
        (one_act terms tries Pauses (λ paused. not_played load refusal) seen added end).0 on in
        subst Refused (sym is) (
          refl,
          (refl, refl),
          record { none = rest.none; means = record { told = refl; quiet = rest.means; same = refl } },
        )

  -- the frames contended
  module _ (load : LoadEnd) (seen added : ChipHistory) where
    to_contend : (end : Played) → end.report.loading ≡ load.0 → WasTo end.own load.1 end.after
        → Follows load end seen added None → FollowsRuns load end seen added None
    to_contend end loaded was on = by_decision end.report.decision refl on
      where
        by_decision : (decision : Option Decision) → end.report.decision ≡ decision
            → OnObjects terms.port (λ s a. RunsOn None terms line tries s a load.1 end.after decision end.report.end) seen added
            → FollowsRuns load end seen added None
        by_decision None is on = absurd on.means
        by_decision (Some decided) is on =
            let so : Decided = record { decision = decided; own = end.own; after = end.after } in (
              so,
              record {
                earlier = [];
                later = added;
                whole = sym (append-nil added);
                begins = (refl, record { decides = on.means.0; own = was });
                ends = (ends_so terms tries (played load so) (completes terms.profile UntilSent decided) seen added end).1 (
                  end.report.end,
                  (completes_so terms tries UntilSent seen added end.report.end decided).0
                      (record { none = on.none; means = on.means.1 }),
                  λ i. record {
                    report = record { loading = loaded i; decision = is i; end = end.report.end };
                    own = end.own;
                    after = end.after;
                  },
                );
              },
            )

    abbrev Contended : Played → Type 0
    Contended end = (end.report.loading ≡ load.0) × WasTo end.own load.1 end.after × Follows load end seen added None

    of_contend : (end : Played) → FollowsRuns load end seen added None → Contended end
    of_contend end (decided, steps) =
        let (none, so) = steps.begins in
        let completing = completes terms.profile UntilSent decided.decision in
        let on = after_none (λ s a. Runs terms tries (ending completing (played load decided)) s a end) seen added steps.earlier
        steps.later steps.whole none steps.ends in
        let (last, runs, is) = (ends_so terms tries (played load decided) completing seen added end).0 on in
        let completed = (completes_so terms tries UntilSent seen added last decided.decision).1 runs in
        subst Contended (sym is)
        (refl, so.own, record { none = completed.none; means = (so.decides, completed.means) })

  -- by whether it was refused
  module _ (load : LoadEnd) (end : Played) (seen added : ChipHistory) where
    to_follow : (refusal : Option RoundAnswer) → end.report.loading ≡ load.0 → WasTo end.own load.1 end.after
        → Follows load end seen added refusal → FollowsRuns load end seen added refusal
    to_follow (Some refusal) loaded was on = to_refused load refusal seen added end loaded was on
    to_follow None loaded was on = to_contend load seen added end loaded was on

    of_follow : (refusal : Option RoundAnswer) → FollowsRuns load end seen added refusal
        → (end.report.loading ≡ load.0) × WasTo end.own load.1 end.after × Follows load end seen added refusal
    of_follow (Some refusal) on = of_refused load refusal seen added end on
    of_follow None on = of_contend load seen added end on

  module _ (past : BusPast) (at_once : past.choice ≡ AtOnce) (seen added : ChipHistory) (end : Played) where
    -- a load, and what follows it, and what that was to the controller's registers
    abbrev PlaysTo : Type 0
    PlaysTo =
        OnObjects terms.port (λ s a. RunsSteps terms line tries s a past end.after end.report) seen added
        × WasTo end.own past end.after

    abbrev next_of : LoadEnd → Process Played
    next_of load = plays_on terms.profile line load (refusal_of_round load.0)

    abbrev loaded : BusPast → LoadEnd
    loaded between = (end.report.loading, between)

    abbrev LoadsThen : BusPast → List Event → List Event → Type 0
    LoadsThen between s a =
        Both (λ t b. Loads terms tries t b past between end.report.loading)
        (λ t b. RunsOn (refusal_of_round end.report.loading) terms line tries t b between end.after end.report.decision
        end.report.end) s a

    in_two : (between : BusPast) → OnObjects terms.port (λ s a. LoadsThen between s a) seen added
        ↔ Then (λ s a. OnObjects terms.port (λ t b. Loads terms tries t b past between end.report.loading) s a)
        (λ s a. Follows (loaded between) end s a (refusal_of_round end.report.loading)) seen added
    in_two between =
        both_so terms.port (λ t b. Loads terms tries t b past between end.report.loading)
        (λ t b. RunsOn (refusal_of_round end.report.loading) terms line tries t b between end.after end.report.decision
        end.report.end) seen added

    to_plays : PlaysTo → Runs terms tries (plays terms.profile line past) seen added end
    to_plays (on, was) =
        let h = on.means in
        let between = h.between in
        let steps = (in_two between).0 (record {
          none = on.none;
          means = record { first = h.first; last = h.last; whole = h.whole; begins = h.loads; ends = h.runs };
        }) in
        let keeps = load_keeps terms tries _ _ past between end.report.loading steps.begins.means in
        follow terms tries next_of (load_on terms.profile past) seen added end (
          loaded between,
          record {
            earlier = steps.earlier;
            later = steps.later;
            whole = steps.whole;
            begins = (load_is terms tries past at_once seen steps.earlier end.report.loading between).0 steps.begins;
            ends = to_follow (loaded between) end (steps.earlier ++ seen) steps.later (refusal_of_round end.report.loading) refl
                (since_load past between end.after keeps end.own was) steps.ends;
          },
        )

    of_plays : Runs terms tries (plays terms.profile line past) seen added end → PlaysTo
    of_plays on =
        let (load, steps) = follows terms tries next_of (load_on terms.profile past) seen added end on in
        let (is, was, then_so) =
        of_follow load end (steps.earlier ++ seen) steps.later (refusal_of_round load.0) steps.ends in
        let loads = subst (λ a. OnObjects terms.port (λ t b. Loads terms tries t b past load.1 a) seen steps.earlier) (sym is)
        ((load_is terms tries past at_once seen steps.earlier load.0 load.1).1 steps.begins) in
        let both = (in_two load.1).1 (record {
          earlier = steps.earlier;
          later = steps.later;
          whole = steps.whole;
          begins = loads;
          ends = subst (λ a. Follows load end (steps.earlier ++ seen) steps.later (refusal_of_round a)) (sym is) then_so;
        }) in
        let b = both.means in (
          record {
            none = both.none;
            means = record {
              between = load.1;
              first = b.first;
              last = b.last;
              whole = b.whole;
              loads = b.begins;
              runs = b.ends;
            };
          },
          before_load past load.1 end.after (load_keeps terms tries _ _ past load.1 end.report.loading loads.means) end.own was,
        )

    plays_so : PlaysTo ↔ Runs terms tries (plays terms.profile line past) seen added end
    plays_so = (to_plays, of_plays)

-- ---- the event at the controller

module _ (terms : Terms) (tries : ℕ) (seen added : ChipHistory) where
  pub event_so : (own : Option OwnEvent) (noted : EventEnd)
      → NotesEvent terms.port most_tries own noted seen added ↔ Runs terms tries (makes_event own) seen added noted
  event_so None noted =
      let one = one_act terms tries LetsOthersAct (λ acted. None) seen added noted in (
        λ h. one.1 (tt, h.1, h.0),
        λ h. let (acted, still, is) = one.0 h in (is, still),
      )
  event_so (Some own) noted =
      let one = one_act terms tries (InsistsOnChange (FrameEvent own.0 own.1)) (λ outcome. Some outcome) seen added noted in (
        λ h. one.1 (to_outcome noted h),
        λ h. let (outcome, on, is) = one.0 h in subst (λ n. NotesEvent terms.port most_tries (Some own) n seen added) (sym is) on,
      )
    where
      to_outcome : (noted : EventEnd) → NotesEvent terms.port most_tries (Some own) noted seen added
          → (outcome : Result ControllerChanged ControllerBusy)
          × NotesEvent terms.port most_tries (Some own) (Some outcome) seen added × (noted ≡ Some outcome)
      to_outcome None h = absurd h
      to_outcome (Some outcome) h = (outcome, h, refl)

-- ---- a round

module _ (terms : Terms) (tries : ℕ) (line : RoundLine) (past : BusPast) (at_once : past.choice ≡ AtOnce)
    (seen added : ChipHistory) where
  abbrev as_is : Controller → Controller → ChipHistory → BusPast
  as_is first found history = as_found found (events_in history) (left_behind first past)

  abbrev then_plays : Controller → BusPast → Process RoundTold
  then_plays found here =
      followed_by (plays terms.profile line here) (λ end. ending (makes_event end.own) (round_told found end))

  abbrev played_as : ChipReport → BusPast → Played
  played_as told after = record { report = told.report; own = told.own; after = after }

  module _ (end : RoundTold) where
    abbrev Arrived : Type 0
    Arrived = ArrivesAnd terms tries past then_plays end seen added

    -- what is noted comes after what was played
    abbrev EventAfter : Controller → Played → ChipHistory → ChipHistory → Type 0
    EventAfter found done s a = Runs terms tries (ending (makes_event done.own) (round_told found done)) s a end

    to_arrival : RoundOnChip terms line tries past seen added end.1 end.0 → Arrived
    to_arrival h =
        let found = end.0.found in
        let history = h.looked ++ seen in
        let here = as_is h.first found history in
        let done = played_as end.0 end.1 in (
          h.first,
          found,
          record {
            earlier = h.looked;
            later = h.last ++ h.steps;
            whole = h.whole ∙ sym (append_assoc h.last h.steps h.looked);
            begins = h.arrives;
            ends = follow terms tries (λ d. ending (makes_event d.own) (round_told found d)) (plays terms.profile line here) history
                (h.last ++ h.steps) end (
                  done,
                  record {
                    earlier = h.steps;
                    later = h.last;
                    whole = refl;
                    begins = (plays_so terms tries line here (chooses_so past at_once h.first found history) history h.steps
                        done).0 (h.runs, h.own);
                    ends = (ends_so terms tries (round_told found done) (makes_event done.own) (h.steps ++ history) h.last end).1 (
                      end.0.noted,
                      (event_so terms tries (h.steps ++ history) h.last end.0.own end.0.noted).0 h.notes,
                      refl,
                    );
                  },
                );
          },
        )

  abbrev Rounded : RoundTold → Type 0
  Rounded end = RoundOnChip terms line tries past seen added end.1 end.0

  of_arrival : (end : RoundTold) → Arrived end → Rounded end
  of_arrival end (first, found, steps) =
      let history = steps.earlier ++ seen in
      let here = as_is first found history in
      let (done, parts) = follows terms tries (λ d. ending (makes_event d.own) (round_told found d)) (plays terms.profile line here)
      history steps.later end steps.ends in
      let (noted, noting, is) =
      (ends_so terms tries (round_told found done) (makes_event done.own) (parts.earlier ++ history) parts.later end).0
      parts.ends in
      let (runs, own) = (plays_so terms tries line here (chooses_so past at_once first found history) history parts.earlier done).1
      parts.begins in
      subst Rounded (sym is) (record {
        looked = steps.earlier;
        steps = parts.earlier;
        last = parts.later;
        whole = steps.whole ∙ ap (λ es. es ++ steps.earlier) parts.whole ∙ append_assoc parts.later parts.earlier steps.earlier;
        first = first;
        arrives = steps.begins;
        runs = runs;
        own = own;
        notes = (event_so terms tries (parts.earlier ++ history) parts.later done.own noted).1 noting;
      })

  pub rounds_so : (end : RoundTold) → Rounded end ↔ Runs terms tries (rounds terms.profile line past) seen added end
  rounds_so end =
      let all = arrives_and_so terms tries past then_plays end seen added in (
        λ h. all.0 (to_arrival end h),
        λ h. of_arrival end (all.1 h),
      )
