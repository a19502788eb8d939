-- A controller that is off has nothing loaded. A load needs a controller that is on, each round but an idle one leaves nothing
-- loaded, and neither the clearing of Init nor recessive groups lead a node off that is on.
use Rattle.std.proofs.Common.{ℕ, ◌≡◌, Bool, true, false, not, List, ◌∷◌, refl, sym, ap, subst, ◌∙◌, inl, inr, Option, Some, None, nat_le, le-leb, arith}
use Rattle.ccan_object.specs.declared.record.Record.{Record}
use Rattle.ccan_ram.specs.declared.event.Event.{Event}
use Rattle.ccan_ram.specs.Terms.{Terms}
use Rattle.ccan_confine.specs.Counters.{NodeEvent, Groups, ClearInit, Counts, counts_of, is_off, levels_after_all, is_recovering_after}
use Rattle.ccan_confine.proofs.Calls.{ignored_law, first_clearing_law}
use Rattle.ccan_bus.specs.declared.answer.LoadAnswer.{LoadAnswer}
use Rattle.ccan_bus.specs.declared.answer.LoadAnswer.TheVariants as load
use Rattle.ccan_bus.specs.declared.answer.RoundAnswer.{RoundAnswer}
use Rattle.ccan_bus.specs.declared.answer.RoundAnswer.TheVariants as answer
use Rattle.ccan_bus.specs.declared.decision.Decision.{Decision}
use Rattle.ccan_bus.specs.declared.decision.Decision.TheVariants as decision
use Rattle.ccan_bus.specs.declared.round_line.RoundLine.{RoundLine}
use Rattle.ccan_bus.specs.Past.{BusPast, is_on, hears_itself, with_own, with_groups, clears_init, recovers}
use Rattle.ccan_bus.specs.Load.{Loads}
use Rattle.ccan_bus.specs.Decide.{Decides}
use Rattle.ccan_bus.specs.Round.{Round, Transfers, Continues, refusal_of_round}
use Rattle.ccan_bus.specs.Laws.{RestsOff, OffControllersHoldNothing}
use Rattle.ccan_bus.proofs.AfterRounds.{nothing_after, unloaded, own_unloaded}

-- who is on does not hang on what is loaded
on_loaded : (now : Option (ℕ × Record)) (past : BusPast) → is_on (record past { loaded = now }) 0 ≡ is_on past 0
unfolding is_on
on_loaded now past = refl

load_rests : (terms : Terms) (tries : ℕ) (seen added : List Event) (past after : BusPast) (told : LoadAnswer)
    → Loads terms tries seen added past after told → RestsOff past → RestsOff after
load_rests terms tries seen added past after (load.Loaded object started) l rests =
    let still : is_on after 0 ≡ true = ap (λ b. is_on b 0) l.now_loaded ∙ on_loaded (Some (object, started)) past ∙ l.choice.on in
    λ off. absurd (let wrong = sym still ∙ off in cc)
load_rests terms tries seen added past after (load.Held object) l rests = subst RestsOff (sym l.same) rests
load_rests terms tries seen added past after load.Nothing (inl l) rests = subst RestsOff (sym l.same) rests
load_rests terms tries seen added past after load.Nothing (inr l) rests = subst RestsOff (sym l.same) rests
load_rests terms tries seen added past after (load.Busy object) l rests = subst RestsOff (sym l.2.same) rests
load_rests terms tries seen added past after (load.Spent object) l rests = subst RestsOff (sym l.same) rests

-- ---- rounds

-- an idle round leaves all as its load left it
idle_same : (loops : Bool) (terms : Terms) (line : RoundLine) (tries : ℕ) (seen added : List Event) (past after : BusPast)
    → Transfers loops terms line tries seen added past after answer.Idle → after ≡ past
idle_same true terms line tries seen added past after h = h.same
idle_same false terms line tries seen added past after h = h.same

idle_continues : (refusal : Option RoundAnswer) (terms : Terms) (line : RoundLine) (tries : ℕ) (seen added : List Event)
    (past after : BusPast) → Continues refusal terms line tries seen added past after answer.Idle → after ≡ past
idle_continues (Some refusal) terms line tries seen added past after h = h.same
idle_continues None terms line tries seen added past after h =
    idle_same (hears_itself past) terms line tries seen added past after h

module _ (terms : Terms) (line : RoundLine) (tries : ℕ) (seen added : List Event) (past after : BusPast) where
  round_rests : (reply : RoundAnswer) → Round terms line tries seen added past after reply → RestsOff past → RestsOff after
  round_rests answer.Idle r rests =
      subst RestsOff (sym (idle_continues (refusal_of_round r.loading) terms line tries _ r.last r.between after r.continues))
      (load_rests terms tries seen r.first past r.between r.loading r.loads rests)
  round_rests (answer.Sent object finished) r rests = λ off. nothing_after terms line tries seen added past after _ r (λ e. cc)
  round_rests (answer.Received found) r rests = λ off. nothing_after terms line tries seen added past after _ r (λ e. cc)
  round_rests answer.Passed r rests = λ off. nothing_after terms line tries seen added past after _ r (λ e. cc)
  round_rests answer.Collision r rests = λ off. nothing_after terms line tries seen added past after _ r (λ e. cc)
  round_rests answer.NoAck r rests = λ off. nothing_after terms line tries seen added past after _ r (λ e. cc)
  round_rests answer.Fault r rests = λ off. nothing_after terms line tries seen added past after _ r (λ e. cc)
  round_rests (answer.Busy object) r rests = λ off. nothing_after terms line tries seen added past after _ r (λ e. cc)
  round_rests (answer.Spent object) r rests = λ off. nothing_after terms line tries seen added past after _ r (λ e. cc)
  round_rests (answer.Looped object finished found) r rests =
      λ off. nothing_after terms line tries seen added past after _ r (λ e. cc)

decision_rests : (loops : Bool) (line : RoundLine) (past after : BusPast) (decided : Decision)
    → Decides loops line past after decided → RestsOff past → RestsOff after
decision_rests true line past after decision.Idle h rests = subst RestsOff (sym h.same) rests
decision_rests true line past after (decision.LoopBack object frame) h rests = λ off. own_unloaded past after h.happened
decision_rests true line past after decision.Collision h rests = absurd h
decision_rests true line past after (decision.Fault winner frame) h rests = absurd h
decision_rests true line past after (decision.NoAck winner frame) h rests = absurd h
decision_rests true line past after (decision.Finish object frame) h rests = absurd h
decision_rests true line past after (decision.Receipt winner frame) h rests = absurd h
decision_rests true line past after (decision.Passed winner frame) h rests = absurd h
decision_rests false line past after decision.Idle h rests = subst RestsOff (sym h.same) rests
decision_rests false line past after decision.Collision h rests = λ off. unloaded past after _ _ h.happened
decision_rests false line past after (decision.Fault winner frame) h rests = λ off. unloaded past after _ _ h.fault.happened
decision_rests false line past after (decision.NoAck winner frame) h rests = λ off. unloaded past after _ _ h.no_ack.happened
decision_rests false line past after (decision.Finish object frame) h rests = λ off. unloaded past after _ _ h.success.happened
decision_rests false line past after (decision.Receipt winner frame) h rests = λ off. unloaded past after _ _ h.success.happened
decision_rests false line past after (decision.Passed winner frame) h rests = λ off. unloaded past after _ _ h.success.happened
decision_rests false line past after (decision.LoopBack object frame) h rests = absurd h

-- ---- what happens between rounds

levels_same : (before after : List NodeEvent) → counts_of true after ≡ counts_of true before
    → levels_after_all true after ≡ levels_after_all true before
unfolding counts_of
levels_same before after same = ap (λ (c : Counts). c.levels) same

-- a node that is on stays on
clear_stays : (events : List NodeEvent) → is_off (levels_after_all true events) ≡ false
    → is_off (levels_after_all true (ClearInit ∷ events)) ≡ false
clear_stays events on =
    ap is_off (levels_same events (ClearInit ∷ events) (first_clearing_law true events (inl on))) ∙ on

groups_stay : (groups : ℕ) (events : List NodeEvent) → is_off (levels_after_all true events) ≡ false
    → is_off (levels_after_all true (Groups groups ∷ events)) ≡ false
groups_stay groups events on =
    let idle : is_recovering_after true events ≡ false = rw on refl in
    ap is_off (levels_same events (Groups groups ∷ events) (ignored_law true events groups idle)) ∙ on

-- of the controller only its counters tell whether it is on
on_by_counters : (past : BusPast) → is_on past 0 ≡ not (is_off (levels_after_all true (past.events 0)))
unfolding is_on
on_by_counters past =
    let least : nat_le 0 past.others ≡ true = le-leb 0 past.others (omega arith) in
    rw least refl

clear_events : (past : BusPast) → (clears_init past).events 0 ≡ ClearInit ∷ past.events 0
unfolding with_own
clear_events past = refl

groups_events : (groups : ℕ) (past : BusPast) → (recovers groups past).events 0 ≡ Groups groups ∷ past.events 0
unfolding with_groups
groups_events groups past = refl

-- where what was on stays on, and nothing is loaded anew, an empty controller that is off stays empty
stays_empty : (past after : BusPast) → after.loaded ≡ past.loaded
    → (is_off (levels_after_all true (past.events 0)) ≡ false → is_off (levels_after_all true (after.events 0)) ≡ false)
    → RestsOff past → RestsOff after
stays_empty past after same stays rests off =
    by_state (is_off (levels_after_all true (past.events 0))) refl where
      by_state : (state : Bool) → is_off (levels_after_all true (past.events 0)) ≡ state → after.loaded ≡ None
      by_state true was_off = same ∙ rests (on_by_counters past ∙ ap not was_off)
      by_state false was_on = absurd (let wrong = sym off ∙ on_by_counters after ∙ ap not (stays was_on) in cc)

pub off_holds_nothing : OffControllersHoldNothing
off_holds_nothing =
    record {
      opened = λ choice others off. refl;
      loads = load_rests;
      rounds = round_rests;
      decides = λ line past after decided h. decision_rests (hears_itself past) line past after decided h;
      clears = λ past rests. stays_empty past (clears_init past) refl
          (λ on. ap (λ es. is_off (levels_after_all true es)) (clear_events past) ∙ clear_stays (past.events 0) on) rests;
      recovers = λ groups past rests. stays_empty past (recovers groups past) refl
          (λ on. ap (λ es. is_off (levels_after_all true es)) (groups_events groups past)
          ∙ groups_stay groups (past.events 0) on) rests;
      notes = λ steps past rests. stays_empty past (record past { steps = steps }) refl (λ on. on) rests;
      sets = λ loops past rests. stays_empty past (record past { loops_back = loops }) refl (λ on. on) rests;
    }
