-- What a load finds by a choice at one moment, what a round leaves loaded, and what one whose load was refused leaves.
use Rattle.std.proofs.Common.{ℕ, ◌≡◌, ◌≢◌, Bool, true, false, List, refl, ap, subst, ◌∙◌, Some, None, Ok}
use Rattle.ccan_ram.specs.declared.event.Event.{Event}
use Rattle.ccan_ram.specs.declared.sending.Sending.TheVariants.{UntilSent}
use Rattle.ccan_ram.specs.Terms.{Terms}
use Rattle.ccan_confine.specs.declared.bus_event.BusEvent.{BusEvent}
use Rattle.ccan_confine.specs.declared.status_event.StatusEvent.{StatusEvent}
use Rattle.ccan_bus.specs.declared.answer.LoadAnswer.{LoadAnswer}
use Rattle.ccan_bus.specs.declared.answer.LoadAnswer.TheVariants as load
use Rattle.ccan_bus.specs.declared.round_line.RoundLine.{RoundLine}
use Rattle.ccan_bus.specs.declared.answer.RoundAnswer.{RoundAnswer}
use Rattle.ccan_bus.specs.declared.answer.RoundAnswer.TheVariants as answer
use Rattle.ccan_bus.specs.Past.{BusPast, hears_itself, happens, sends_to_itself}
use Rattle.ccan_bus.specs.Load.{Loads}
use Rattle.ccan_bus.specs.LoopBack.{AtFinish, AtScan, LoopsBack}
use Rattle.ccan_bus.specs.Round.{RefusedFinish, RefusedScan, Contends, Transfers, Continues, refusal_of_round}
use Rattle.ccan_handler.proofs.MomentLaws.{choice_of_one_moment}
use Rattle.ccan_bus.specs.Choice.{Chooses}
use Rattle.ccan_bus.specs.Laws.{LoadsAreOfOneMoment, NothingIsLoadedAfterwards, RefusedLoadsLeaveAll}

pub at_one_moment : LoadsAreOfOneMoment
at_one_moment terms tries object started seen added past after at_once l =
    choice_of_one_moment terms UntilSent tries object started seen added
    (subst (λ choice. Chooses choice terms tries seen added (Ok (Some (object, started)))) at_once l.choice.chooses)

pub unloaded : (past after : BusPast) (event : ℕ → BusEvent) (noted : StatusEvent) → after ≡ happens event noted past
    → after.loaded ≡ None
unloaded past after event noted is = ap (λ (p : BusPast). p.loaded) is

pub own_unloaded : (past after : BusPast) → after ≡ sends_to_itself past → after.loaded ≡ None
own_unloaded past after is = ap (λ (p : BusPast). p.loaded) is

module _ (terms : Terms) (line : RoundLine) (tries : ℕ) (seen added : List Event) (past after : BusPast) where
  empty_contended : (reply : RoundAnswer) → Contends terms line tries seen added past after reply → reply ≢ answer.Idle
      → after.loaded ≡ None
  empty_contended answer.Idle h not = absurd (not refl)
  empty_contended (answer.Sent object finished) h not = unloaded past after _ _ h.finish.success.happened
  empty_contended (answer.Received None) h not = unloaded past after _ _ h.success.happened
  empty_contended (answer.Received (Some found)) h not = unloaded past after _ _ h.2.success.happened
  empty_contended answer.Passed h not = unloaded past after _ _ h.success.happened
  empty_contended answer.Collision h not = unloaded past after _ _ h.happened
  empty_contended answer.NoAck h not = unloaded past after _ _ h.happened
  empty_contended answer.Fault h not = unloaded past after _ _ h.happened
  empty_contended (answer.Busy object) (told, now, RefusedFinish h) not = unloaded past after _ _ h.success.happened
  empty_contended (answer.Busy object) (told, now, RefusedScan h) not = unloaded past after _ _ h.success.happened
  empty_contended (answer.Spent object) (RefusedFinish h) not = unloaded past after _ _ h.success.happened
  empty_contended (answer.Spent object) (RefusedScan h) not = unloaded past after _ _ h.success.happened
  empty_contended (answer.Looped object finished found) h not = absurd h

  empty_looped : (reply : RoundAnswer) → LoopsBack terms tries seen added past after reply → reply ≢ answer.Idle
      → after.loaded ≡ None
  empty_looped answer.Idle h not = absurd (not refl)
  empty_looped (answer.Looped object finished None) h not = own_unloaded past after h.finish.happened
  empty_looped (answer.Looped object finished (Some found)) h not = own_unloaded past after h.2.finish.happened
  empty_looped (answer.Busy object) (told, now, AtFinish frame h) not = own_unloaded past after h.happened
  empty_looped (answer.Busy object) (told, now, AtScan sent finished h) not = own_unloaded past after h.finish.happened
  empty_looped (answer.Spent object) (AtFinish frame h) not = own_unloaded past after h.happened
  empty_looped (answer.Spent object) (AtScan sent finished h) not = own_unloaded past after h.finish.happened
  empty_looped (answer.Sent object finished) h not = absurd h
  empty_looped (answer.Received found) h not = absurd h
  empty_looped answer.Passed h not = absurd h
  empty_looped answer.Collision h not = absurd h
  empty_looped answer.NoAck h not = absurd h
  empty_looped answer.Fault h not = absurd h

  empty_transferred : (loops : Bool) (reply : RoundAnswer) → Transfers loops terms line tries seen added past after reply
      → reply ≢ answer.Idle → after.loaded ≡ None
  empty_transferred true reply h not = empty_looped reply h not
  empty_transferred false reply h not = empty_contended reply h not

module _ (terms : Terms) (line : RoundLine) (tries : ℕ) (seen first rest last : List Event) (past between after : BusPast)
    (reply : RoundAnswer) (not : reply ≢ answer.Idle) where
  empty_after : (loading : LoadAnswer) → Loads terms tries seen first past between loading
      → Continues (refusal_of_round loading) terms line tries rest last between after reply
      → after.loaded ≡ None
  empty_after (load.Loaded object started) l h =
      empty_transferred terms line tries rest last between after (hears_itself between) reply h not
  empty_after (load.Held object) l h = empty_transferred terms line tries rest last between after
      (hears_itself between) reply h not
  empty_after load.Nothing l h = empty_transferred terms line tries rest last between after (hears_itself between) reply h not
  empty_after (load.Busy object) l h = ap (λ (p : BusPast). p.loaded) (h.same ∙ l.2.same) ∙ l.2.choice.empty
  empty_after (load.Spent object) l h = ap (λ (p : BusPast). p.loaded) (h.same ∙ l.same) ∙ l.choice.empty

pub nothing_after : NothingIsLoadedAfterwards
nothing_after terms line tries seen added past after reply r not =
    empty_after terms line tries seen r.first _ r.last past r.between after reply not r.loading r.loads r.continues

-- ---- loads that are refused

module _ (terms : Terms) (line : RoundLine) (tries : ℕ) (seen first rest last : List Event) (past between after : BusPast)
    (reply refusal : RoundAnswer) where
  refused_all : (loading : LoadAnswer) → refusal_of_round loading ≡ Some refusal
      → Loads terms tries seen first past between loading
      → Continues (refusal_of_round loading) terms line tries rest last between after reply → (after ≡ past) × (reply ≡ refusal)
  refused_all (load.Busy object) is l h = (h.same ∙ l.2.same, h.told ∙ (let e = is in cc))
  refused_all (load.Spent object) is l h = (h.same ∙ l.same, h.told ∙ (let e = is in cc))
  refused_all (load.Loaded object started) is l h = absurd cc
  refused_all (load.Held object) is l h = absurd cc
  refused_all load.Nothing is l h = absurd cc

pub refused_leave : RefusedLoadsLeaveAll
refused_leave terms line tries seen added past after reply refusal r is =
    refused_all terms line tries seen r.first _ r.last past r.between after reply refusal r.loading is r.loads r.continues
