-- A call of the bus keeps how the bus chooses what it sends. A round is its steps, so it is enough to go through what a load and
-- a decision leave; what a look at the controller tells the bus beforehand leaves the choice, and other calls leave the past, or
-- are groups of recessive bits.
use Rattle.std.proofs.Common.{◌≡◌, ℕ, Bool, true, false, List, Option, Some, None, Ok, Err, inl, inr, ap, refl, cond, ◌++◌, ◌∙◌}
use Rattle.std.specs.Prelude.{◌==◌, MatchBool, MatchOption, length, nat_le, nat_lt}
use Rattle.std.specs.List.{list_all}
use Rattle.std.specs.declared.result.Result.{Result}
use Rattle.ccan_confine.specs.declared.controller.Controller.{Controller}
use Rattle.ccan_confine.specs.Counters.{NodeEvent, faults_to_off}
use Rattle.ccan_ram.specs.declared.event.Event.{Event}
use Rattle.ccan_ram.specs.Terms.{Terms}
use Rattle.ccan_bus.specs.declared.answer.LoadAnswer.{LoadAnswer}
use Rattle.ccan_bus.specs.declared.answer.LoadAnswer.TheVariants as load
use Rattle.ccan_bus.specs.declared.answer.RoundAnswer.{RoundAnswer}
use Rattle.ccan_bus.specs.declared.decision.Decision.{Decision}
use Rattle.ccan_bus.specs.declared.decision.Decision.TheVariants as decision
use Rattle.ccan_bus.specs.declared.round_end.RoundEnd.{RoundEnd}
use Rattle.ccan_bus.specs.declared.round_line.Fault.{Fault}
use Rattle.ccan_bus.specs.declared.round_line.RoundLine.{RoundLine}
use Rattle.ccan_bus.specs.declared.round_report.RoundReport.{RoundReport}
use Rattle.ccan_bus.specs.Controller.{with_controller}
use Rattle.ccan_bus.specs.Past.{BusPast, hears_itself, recovers}
use Rattle.ccan_bus.specs.Load.{Loads}
use Rattle.ccan_bus.specs.Decide.{Decides}
use Rattle.ccan_bus.specs.Round.{refusal_of_round}
use Rattle.ccan_bus.specs.RoundReport.{RunsOn, RunsSteps}
use Rattle.ccan_chip.specs.Arrival.{left_behind, takes_part, unloaded}
use Rattle.ccan_chip.specs.Round.{as_found, events_in, loops_back}
use Rattle.ccan_endless.specs.declared.controller_changed.ControllerBusy.{ControllerBusy}
use Rattle.ccan_endless.specs.declared.controller_changed.ControllerChanged.{ControllerChanged}
use Rattle.ccan_endless.specs.Chip.{ChipHistory, ram_of}
use Rattle.ccan_line.specs.Limits.{most_frames, most_groups}
use Rattle.ccan_registers.specs.Rounds.{RecoversOnChip}
use Rattle.ccan_c.specs.declared.offer.Offer.{Offer}
use Rattle.ccan_c.specs.declared.shown_outcome.ShownOutcome.{ShownOutcome}
use Rattle.ccan_c.specs.BusCall as bus
use Rattle.ccan_c.specs.BusCall.{BusCall, BusCallMeans, RoundTried}
use Rattle.ccan_c.specs.FrameCall as frame
use Rattle.ccan_c.specs.FrameCall.{BusState, CallsKeepTheChoice, FrameCall, FrameCallMeans, of_frames, of_rounds}
use Rattle.ccan_c.specs.Finished.{event_in}
use Rattle.ccan_c.specs.Host.{flag_numbered}
use Rattle.ccan_c.specs.Round.{fault_numbered, is_frame}
use Rattle.ccan_c.specs.Settings.{is_from_one_to}
use Rattle.ccan_c.specs.Wire.{is_flaw, is_wire, most_members}
use Rattle.ccan_chip.specs.declared.map.Map.{Map}

same_choice : (p q : BusPast) → p ≡ q → p.choice ≡ q.choice
same_choice p q is = ap (λ (past : BusPast). past.choice) is

load_keeps : (terms : Terms) (tries : ℕ) (seen added : List Event) (past after : BusPast) (loading : LoadAnswer)
    → Loads terms tries seen added past after loading → after.choice ≡ past.choice
load_keeps terms tries seen added past after (load.Loaded object started) h = same_choice after _ h.now_loaded
load_keeps terms tries seen added past after (load.Held object) h = same_choice after past h.same
load_keeps terms tries seen added past after load.Nothing (inl h) = same_choice after past h.same
load_keeps terms tries seen added past after load.Nothing (inr h) = same_choice after past h.same
load_keeps terms tries seen added past after (load.Busy object) (told, now, h) = same_choice after past h.same
load_keeps terms tries seen added past after (load.Spent object) h = same_choice after past h.same

decision_keeps : (back : Bool) (round : RoundLine) (past after : BusPast) (decided : Decision)
    → Decides back round past after decided → after.choice ≡ past.choice
decision_keeps true round past after decision.Idle h = same_choice after past h.same
decision_keeps true round past after (decision.LoopBack object frame) h = same_choice after _ h.happened
decision_keeps true round past after decision.Collision h = absurd h
decision_keeps true round past after (decision.Fault winner frame) h = absurd h
decision_keeps true round past after (decision.NoAck winner frame) h = absurd h
decision_keeps true round past after (decision.Finish object frame) h = absurd h
decision_keeps true round past after (decision.Receipt winner frame) h = absurd h
decision_keeps true round past after (decision.Passed winner frame) h = absurd h
decision_keeps false round past after decision.Idle h = same_choice after past h.same
decision_keeps false round past after decision.Collision h = same_choice after _ h.happened
decision_keeps false round past after (decision.Fault winner frame) h = same_choice after _ h.fault.happened
decision_keeps false round past after (decision.NoAck winner frame) h = same_choice after _ h.no_ack.happened
decision_keeps false round past after (decision.Finish object frame) h = same_choice after _ h.success.happened
decision_keeps false round past after (decision.Receipt winner frame) h = same_choice after _ h.success.happened
decision_keeps false round past after (decision.Passed winner frame) h = same_choice after _ h.success.happened
decision_keeps false round past after (decision.LoopBack object frame) h = absurd h

rest_keeps : (terms : Terms) (round : RoundLine) (tries : ℕ) (seen added : List Event) (past after : BusPast)
    (refusal : Option RoundAnswer) (decided : Option Decision) (end : RoundEnd)
    → RunsOn refusal terms round tries seen added past after decided end → after.choice ≡ past.choice
rest_keeps terms round tries seen added past after (Some refusal) None end h = same_choice after past h.same
rest_keeps terms round tries seen added past after (Some refusal) (Some decided) end h = absurd h
rest_keeps terms round tries seen added past after None (Some decided) end h =
    decision_keeps (hears_itself past) round past after decided h.0
rest_keeps terms round tries seen added past after None None end h = absurd h

steps_keep : (terms : Terms) (round : RoundLine) (tries : ℕ) (seen added : List Event) (past after : BusPast)
    (report : RoundReport) → RunsSteps terms round tries seen added past after report → after.choice ≡ past.choice
steps_keep terms round tries seen added past after report run =
    rest_keeps terms round tries (run.first ++ seen) run.last run.between after (refusal_of_round report.loading)
    report.decision report.end run.runs
    ∙ load_keeps terms tries seen run.first past run.between report.loading run.loads

-- as the bus is with the controller that a look found
either_keeps : (b : Bool) (p q past : BusPast) → p.choice ≡ past.choice → q.choice ≡ past.choice
    → (cond b p q).choice ≡ past.choice
either_keeps true p q past h k = h
either_keeps false p q past h k = k

found_keeps : (c : Controller) (events : List NodeEvent) (past : BusPast) → (as_found c events past).choice ≡ past.choice
found_keeps c events past =
    either_keeps (takes_part c) (with_controller events (loops_back c) past)
    (unloaded (with_controller faults_to_off false past)) past refl refl

-- where the controller has left the bus
left_keeps : (first : Controller) (past : BusPast) → (left_behind first past).choice ≡ past.choice
left_keeps first past = either_keeps first.has_left (unloaded past) past past refl refl

recovery_keeps : (terms : Terms) (groups tries : ℕ) (past after : BusPast) (seen added : ChipHistory)
    (outcome : Result ControllerChanged ControllerBusy) → RecoversOnChip terms groups tries past seen added after outcome
    → after.choice ≡ past.choice
recovery_keeps terms groups tries past after seen added (Ok made) (h, is) = same_choice after _ is
recovery_keeps terms groups tries past after seen added (Err busy) (h, is) = same_choice after past is

tried_keeps : (terms : Terms) (tries nodes : ℕ) (offers : List Offer) (fault : Fault) (past after : BusPast)
    (seen added : ChipHistory) (result : ℕ) (out : ShownOutcome)
    → RoundTried terms tries nodes offers fault past seen added after result out → after.choice ≡ past.choice
tried_keeps terms tries nodes offers fault past after seen added result out (inl h) =
    let events = events_in (h.runs.looked ++ seen) in
    steps_keep terms h.round tries (ram_of (h.runs.looked ++ seen)) (ram_of h.runs.steps)
    (as_found h.report.found events (left_behind h.runs.first past)) after h.report.report h.runs.runs.means
    ∙ (found_keeps h.report.found events (left_behind h.runs.first past) ∙ left_keeps h.runs.first past)
tried_keeps terms tries nodes offers fault past after seen added result out (inr (none, rests)) =
    same_choice after past rests.leaves

-- by whether a number was known, and by a test
known_or_not : {X : Type 0} (o : Option X) (P : Type 0) (Q : X → Type 0) (R : Type 0) → (P → R) → ((x : X) → Q x → R)
    → MatchOption o P Q → R
known_or_not None P Q R f g h = f h
known_or_not (Some x) P Q R f g h = g x h

passed_or_not : (b : Bool) (P Q R : Type 0) → (P → R) → (Q → R) → MatchBool b P Q → R
passed_or_not true P Q R f g h = f h
passed_or_not false P Q R f g h = g h

calls_keep : (terms : Terms) (tries nodes : ℕ) (layout : Map) (call : BusCall) (past after : BusPast)
    (seen added : ChipHistory) → BusCallMeans terms tries nodes layout call past seen added after → after.choice ≡ past.choice
calls_keep terms tries nodes layout (bus.load result out) past after seen added (found, loading, h, _, _) =
    load_keeps terms tries (ram_of (h.looked ++ seen)) (ram_of h.later)
    (as_found found (events_in (h.looked ++ seen)) (left_behind h.first past)) after loading h.loads.means
    ∙ (found_keeps found (events_in (h.looked ++ seen)) (left_behind h.first past) ∙ left_keeps h.first past)
calls_keep terms tries nodes layout (bus.status result out) past after seen added h = same_choice after past h.1
calls_keep terms tries nodes layout (bus.control sie eie result) past after seen added h = same_choice after past h.1
calls_keep terms tries nodes layout (bus.init result) past after seen added h = same_choice after past h.1
calls_keep terms tries nodes layout (bus.loop_back on result) past after seen added h = same_choice after past h.1
calls_keep terms tries nodes layout (bus.recessive groups result out) past after seen added h =
    passed_or_not (is_from_one_to most_groups groups) _ _ _
    (λ (outcome, recovers, _). recovery_keeps terms groups tries past after seen added outcome recovers)
    (λ rests. same_choice after past rests.leaves) h
calls_keep terms tries nodes layout (bus.interrupt result out) past after seen added h = same_choice after past h.2
calls_keep terms tries nodes layout (bus.flags number result out) past after seen added h =
    known_or_not (flag_numbered number) _ _ _
    (λ rests. same_choice after past rests.leaves)
    (λ flag (_, _, is). same_choice after past is) h
calls_keep terms tries nodes layout (bus.counters node result out) past after seen added h =
    passed_or_not (nat_le node nodes) _ _ _
    (passed_or_not (node == 0) _ _ _
    (λ (_, is). same_choice after past is)
    (λ (_, _, _, rests). same_choice after past rests.leaves))
    (λ rests. same_choice after past rests.leaves) h
calls_keep terms tries nodes layout (bus.round offers number result out) past after seen added h =
    passed_or_not (nat_le (length offers) most_frames) _ _ _
    (passed_or_not (list_all is_frame offers) _ _ _
    (known_or_not (fault_numbered number) _ _ _
    (λ rests. same_choice after past rests.leaves)
    (λ fault. tried_keeps terms tries nodes offers fault past after seen added result out))
    (λ rests. same_choice after past rests.leaves))
    (λ rests. same_choice after past rests.leaves) h
calls_keep terms tries nodes layout (bus.read8 offset result out) past after seen added h = same_choice after past h.2
calls_keep terms tries nodes layout (bus.write8 offset value result) past after seen added h = same_choice after past h.2
calls_keep terms tries nodes layout (bus.read16 offset result out) past after seen added h = same_choice after past h.2
calls_keep terms tries nodes layout (bus.write16 offset value result) past after seen added h = same_choice after past h.2
calls_keep terms tries nodes layout (bus.read32 offset result out) past after seen added h = same_choice after past h.2
calls_keep terms tries nodes layout (bus.write32 offset value result) past after seen added h = same_choice after past h.2
calls_keep terms tries nodes layout (bus.line result out) past after seen added h = same_choice after past h.2
calls_keep terms tries nodes layout (bus.tell note result) past after seen added (inl (told, h)) = same_choice after past h.leaves
calls_keep terms tries nodes layout (bus.tell note result) past after seen added (inr h) = same_choice after past h.leaves
calls_keep terms tries nodes layout (bus.heed None result) past after seen added h = same_choice after past h.leaves
calls_keep terms tries nodes layout (bus.heed (Some told) result) past after seen added h = same_choice after past h.2

-- ---- a chip's part in a frame on a bus of several

same_past : (p q : BusState) → p ≡ q → p.past.choice ≡ q.past.choice
same_past p q is = ap (λ (state : BusState). state.past.choice) is

frames_keep : (terms : Terms) (tries : ℕ) (call : FrameCall) (old new : BusState) (seen added : ChipHistory)
    → FrameCallMeans terms tries call old seen added new → new.past.choice ≡ old.past.choice
frames_keep terms tries (frame.begin result out) old new seen added (told, h, code, shows, is) = same_choice new.past _ is
frames_keep terms tries (frame.stay result out) old new seen added (told, h, code, shows, is) = same_choice new.past _ is
frames_keep terms tries (frame.finish on place fault result out) old new seen added h =
    passed_or_not (is_wire on) _ _ _
    (passed_or_not (nat_lt place most_members) _ _ _
    (passed_or_not (is_flaw fault) _ _ _
    (λ ends. same_choice new.past _ ends.keeps)
    (λ rests. same_past new old rests.leaves))
    (λ rests. same_past new old rests.leaves))
    (λ rests. same_past new old rests.leaves) h
frames_keep terms tries (frame.retry lost result) old new seen added h =
    known_or_not (event_in lost) _ _ _
    (λ rests. same_past new old rests.leaves)
    (λ own (made, is). same_past new old is) h
frames_keep terms tries (frame.power_down result out) old new seen added (h, is) = same_past new old is

pub calls_on_bus_keep : CallsKeepTheChoice
calls_on_bus_keep terms tries nodes layout (of_rounds call) old new seen added h =
    calls_keep terms tries nodes layout call old.past new.past seen added h.0
calls_on_bus_keep terms tries nodes layout (of_frames call) old new seen added h =
    frames_keep terms tries call old new seen added h
