-- A call by which a chip takes part in a frame on a bus of several, or powers down in between, is its process.
use Rattle.std.proofs.Common.{ℕ, ◌≡◌, ◌↔◌, ◌==◌, Bool, true, false, List, [], ◌++◌, Option, Some, None, Result, Ok, Err, refl, sym, ap, subst, ◌∙◌, append_assoc}
use Rattle.std.specs.Prelude.{MatchBool, if◌then◌else◌, is_some, nat_lt}
use Rattle.ccan_accept.specs.declared.frame.Frame.{Frame}
use Rattle.ccan_confine.specs.declared.bus_event.BusEvent.{BusEvent}
use Rattle.ccan_confine.specs.declared.controller.Controller.{Controller}
use Rattle.ccan_confine.specs.declared.controller_change.ControllerChange.TheVariants.{Frame as FrameEvent, PowerDown}
use Rattle.ccan_confine.specs.declared.status_event.StatusEvent.{StatusEvent}
use Rattle.ccan_confine.specs.Controller.{is_powered_down}
use Rattle.ccan_ram.specs.declared.change.Refused.{Refused}
use Rattle.ccan_ram.specs.declared.change.Refused.TheVariants.{Busy, Spent}
use Rattle.ccan_ram.specs.declared.event.Event.{Event}
use Rattle.ccan_ram.specs.declared.flag.Flag.TheVariants.{TxRqst}
use Rattle.ccan_ram.specs.declared.sending.Sending.{Sending}
use Rattle.ccan_ram.specs.Terms.{Terms}
use Rattle.ccan_ram.specs.Tries.{most_tries}
use Rattle.ccan_handler.specs.Moment.{Chosen}
use Rattle.ccan_bus.specs.declared.answer.LoadAnswer.{LoadAnswer}
use Rattle.ccan_bus.specs.declared.answer.LoadAnswer.TheVariants as load
use Rattle.ccan_bus.specs.Complete.{Completes}
use Rattle.ccan_bus.specs.declared.round_end.RoundEnd.{RoundEnd}
use Rattle.ccan_process.specs.Process.{Does, Ended, followed_by}
use Rattle.ccan_wire.specs.declared.flaw.Flaw.{Flaw}
use Rattle.ccan_wire.specs.declared.member.Member.{Member}
use Rattle.ccan_wire.specs.declared.wire.Wire.{Wire}
use Rattle.ccan_wire.specs.Wire.{start_of}
use Rattle.ccan_station.specs.declared.ended.Ended.{Ended as EndedPart}
use Rattle.ccan_station.specs.declared.loaded.Loaded.{Loaded}
use Rattle.ccan_station.specs.Station.{Loads, answer_of, due, frame_won, loaded_before, loaded_by, may_send, member_now, member_of, role_now, sending_now, sent_as, still_loaded, still_under_way}
use Rattle.ccan_endless.specs.declared.chip.ControllerStep.TheVariants.{Look}
use Rattle.ccan_endless.specs.declared.controller_changed.ControllerBusy.{ControllerBusy}
use Rattle.ccan_endless.specs.declared.controller_changed.ControllerChanged.{ControllerChanged}
use Rattle.ccan_endless.specs.Chip.{ChipHistory, ram_of}
use Rattle.ccan_registers.specs.ChipSteps.{AtController, Changes, OnObjects, Then}
use Rattle.ccan_registers.specs.Frames.{StationState}
use Rattle.ccan_registers.specs.PowerDown.{PowersDownIdle, SetsPower, is_to_power_down, power_told}
use Rattle.ccan_registers.specs.Register.{IsQuiet}
use Rattle.ccan_registers.specs.Rounds.{ArrivesOnChip, NotesEvent}
use Rattle.ccan_c.specs.declared.shown_finished.ShownFinished.{ShownFinished}
use Rattle.ccan_c.specs.declared.shown_member.ShownMember.{ShownMember}
use Rattle.ccan_c.specs.declared.shown_wire.ShownWire.{ShownWire}
use Rattle.ccan_c.specs.Codes.{event_range, fault_range, place_range, wire_range}
use Rattle.ccan_c.specs.Finished.{event_in}
use Rattle.ccan_c.specs.FrameCall.{BusState, FrameCall, FrameCallMeans, FrameEnds, IsPower, PowersDownBetween, RetriesEvent, code_of_change, frame_code}
use Rattle.ccan_c.specs.FrameCall as frame
use Rattle.ccan_c.specs.Step.{Rests}
use Rattle.ccan_c.specs.Wire.{c_member, flaw_in, is_flaw, is_wire, most_members, wire_in}
use Rattle.ccan_calls.specs.Answer.{FinishedAt, IsIn, MemberAt, NoPlace, Nothing, NumberAt, Place, end_of, refuses}
use Rattle.ccan_calls.specs.BusCallProcess.{controller_shown}
use Rattle.ccan_calls.specs.FrameAsk.{asked_of, place_after}
use Rattle.ccan_calls.specs.FrameProcess.{FrameLoad, FrameStart, Power, ends_as, ends_frame, frame_end, frame_process, loads_frame, own_on, part_told, power_end, power_given, powers_down, powers_down_by, powers_down_idle, retries, start_end, start_with, started_by, starts_frame, stay_end}
use Rattle.ccan_calls.specs.Laws.{ComesTo, FrameCallsAreProcesses}
use Rattle.ccan_calls.specs.LoadProcess.{Looked, arrives, start_first}
use Rattle.ccan_calls.specs.Parts.{flag_shown}
use Rattle.ccan_calls.specs.Process.{ChangesController, InsistsOnChange, LooksAtController, Pauses, Process, ending}
use Rattle.ccan_calls.specs.RoundProcess.{completes, makes_event}
use Rattle.ccan_calls.specs.Runs.{Runs}
use Rattle.ccan_calls.proofs.Choosing.{ChoiceOf, Chose, choice_so}
use Rattle.ccan_calls.proofs.Comes.{chosen, ends_with, picked, rests}
use Rattle.ccan_calls.proofs.CompletesRun.{completes_so}
use Rattle.ccan_calls.proofs.Interrupts.{shows_flag}
use Rattle.ccan_calls.proofs.LoadsRun.{arrives_so}
use Rattle.ccan_calls.proofs.Processes.{ends_so, follow, follows, one_act}
use Rattle.ccan_calls.proofs.RoundsRun.{event_so}

-- ---- the load at the start of a frame

-- an end of a load, by its parts
pair : (answer told : LoadAnswer) (new left : Option Loaded) → answer ≡ told → new ≡ left
    → ◌≡◌ {A = FrameLoad} (answer, new) (told, left)
pair answer told new left one other = λ i. (one i, other i)

answer_is : (x y : FrameLoad) → x ≡ y → x.0 ≡ y.0
answer_is x y is = ap (λ (e : FrameLoad). e.0) is

loaded_is : (x y : FrameLoad) → x ≡ y → x.1 ≡ y.1
loaded_is x y is = ap (λ (e : FrameLoad). e.1) is

module _ (terms : Terms) (tries : ℕ) (sending : Sending) (seen added : List Event) where
  abbrev Chooses : Chosen → Type 0
  Chooses chosen = Chose terms tries sending seen added chosen

  choice_refused : (at : ℕ) (why : Refused) → Chooses (Err (record { at = at; why = why }))
      → ChoiceOf terms tries sending seen added (answer_of (Err (record { at = at; why = why })))
  choice_refused at (Busy told now) h = (told, now, h)
  choice_refused at Spent h = h

  choice_by : (chosen : Chosen) → Chooses chosen → ChoiceOf terms tries sending seen added (answer_of chosen)
  choice_by (Ok None) h = h
  choice_by (Ok (Some found)) h = h
  choice_by (Err refused) h = choice_refused refused.at refused.why h

  -- the choice that an answer tells of
  record ChosenAs (told : LoadAnswer) : Type 0 where
    pub chosen : Chosen
    pub chooses : Chooses chosen
    pub is : answer_of chosen ≡ told

  chosen_as : (told : LoadAnswer) → ChoiceOf terms tries sending seen added told → ChosenAs told
  chosen_as load.Nothing h = record { chosen = Ok None; chooses = h; is = refl }
  chosen_as (load.Held object) h = absurd h
  chosen_as (load.Loaded object after) h = record { chosen = Ok (Some (object, after)); chooses = h; is = refl }
  chosen_as (load.Busy object) (told, now, h) =
      record { chosen = Err (record { at = object; why = Busy told now }); chooses = h; is = refl }
  chosen_as (load.Spent object) h = record { chosen = Err (record { at = object; why = Spent }); chooses = h; is = refl }

refused_started : (sending : Sending) (at : ℕ) (why : Refused)
    → started_by sending (answer_of (Err (record { at = at; why = why }))) ≡ (answer_of (Err (record { at = at; why = why })), None)
refused_started sending at (Busy told now) = refl
refused_started sending at Spent = refl

started_is : (sending : Sending) (chosen : Chosen)
    → started_by sending (answer_of chosen) ≡ (answer_of chosen, loaded_by sending chosen)
started_is sending (Ok None) = refl
started_is sending (Ok (Some found)) = refl
started_is sending (Err refused) = refused_started sending refused.at refused.why

module _ (terms : Terms) (tries : ℕ) (sending : Sending) (seen added : ChipHistory) (end : FrameLoad) where
  abbrev LoadsTo : Bool → Option Loaded → Type 0
  LoadsTo sends old = OnObjects terms.port (λ s a. Loads sends sending terms tries s a old end.1 end.0) seen added

  -- no step
  rested : (told : LoadAnswer) (left : Option Loaded)
      → OnObjects terms.port (λ s a. (a ≡ []) × (end.1 ≡ left) × (end.0 ≡ told)) seen added
      ↔ Runs terms tries (Does Pauses (λ paused. Ended (told, left))) seen added end
  rested told left =
      let one = one_act terms tries Pauses (λ paused. (told, left)) seen added end in (
        λ h. one.1 (tt, record { none = h.none; means = h.means.0 }, pair end.0 told end.1 left h.means.2 h.means.1),
        λ h.
            let (paused, rest, is) = one.0 h in
            record { none = rest.none; means = (rest.means, loaded_is end (told, left) is, answer_is end (told, left) is) },
      )

  chose : LoadsTo true None ↔ Runs terms tries (ending (start_first terms.profile sending) (started_by sending)) seen added end
  chose =
      let all = ends_so terms tries (started_by sending) (start_first terms.profile sending) seen added end in (
        λ h.
            let (chosen, chooses, new, told) = h.means in
            all.1 (
              answer_of chosen,
              (choice_so terms tries sending seen added (answer_of chosen)).0 (record {
                none = h.none;
                means = choice_by terms tries sending (ram_of seen) (ram_of added) chosen chooses;
              }),
              pair end.0 (answer_of chosen) end.1 (loaded_by sending chosen) told new ∙ sym (started_is sending chosen),
            ),
        λ h.
            let (told, runs, is) = all.0 h in
            let on = (choice_so terms tries sending seen added told).1 runs in
            let c = chosen_as terms tries sending (ram_of seen) (ram_of added) told on.means in
            let same = is ∙ ap (started_by sending) (sym c.is) ∙ started_is sending c.chosen in
            record {
              none = on.none;
              means = (
                c.chosen,
                c.chooses,
                loaded_is end (answer_of c.chosen, loaded_by sending c.chosen) same,
                answer_is end (answer_of c.chosen, loaded_by sending c.chosen) same,
              );
            },
      )

  loads_so : (sends : Bool) (old : Option Loaded)
      → LoadsTo sends old ↔ Runs terms tries (loads_frame terms.profile sends sending old) seen added end
  loads_so false old = rested load.Nothing None
  loads_so true (Some held) = rested (load.Held held.object) (Some held)
  loads_so true None = chose

-- ---- the start of a frame

module _ (terms : Terms) (tries : ℕ) (loaded : Option Loaded) (seen added : ChipHistory) (end : FrameStart) where
  abbrev StartsTo : Type 0
  StartsTo =
      (first : Controller)
      × Then (λ s a. ArrivesOnChip terms.port first end.0 s a)
      (λ s a. LoadsTo terms tries (sending_now end.0) s a end.1 (may_send (role_now end.0)) (loaded_before first loaded)) seen added

  abbrev then_loads : Looked → Process FrameStart
  then_loads looked =
      ending (loads_frame terms.profile (may_send (role_now looked.1)) (sending_now looked.1) (loaded_before looked.0 loaded))
      (start_with looked.1)

  loaded_so : (first : Controller) (s a : ChipHistory)
      → LoadsTo terms tries (sending_now end.0) s a end.1 (may_send (role_now end.0)) (loaded_before first loaded)
      → Runs terms tries (then_loads (first, end.0)) s a end
  loaded_so first s a h =
      (ends_so terms tries (start_with end.0)
      (loads_frame terms.profile (may_send (role_now end.0)) (sending_now end.0) (loaded_before first loaded)) s a end).1 (
        end.1,
        (loads_so terms tries (sending_now end.0) s a end.1 (may_send (role_now end.0)) (loaded_before first loaded)).0 h,
        refl,
      )

  to_start : StartsTo → Runs terms tries (starts_frame terms.profile loaded) seen added end
  to_start (first, steps) = follow terms tries then_loads arrives seen added end (
    (first, end.0),
    record {
      earlier = steps.earlier;
      later = steps.later;
      whole = steps.whole;
      begins = (arrives_so terms tries seen steps.earlier first end.0).0 steps.begins;
      ends = loaded_so first (steps.earlier ++ seen) steps.later steps.ends;
    },
  )

module _ (terms : Terms) (tries : ℕ) (loaded : Option Loaded) (seen added : ChipHistory) where
  of_start : (end : FrameStart) → Runs terms tries (starts_frame terms.profile loaded) seen added end
      → StartsTo terms tries loaded seen added end
  of_start end on =
      let (looked, steps) = follows terms tries (then_loads terms tries loaded seen added end) arrives seen added end on in
      let found = looked.1 in
      let (told, runs, is) = (ends_so terms tries (start_with found)
      (loads_frame terms.profile (may_send (role_now found)) (sending_now found) (loaded_before looked.0 loaded))
      (steps.earlier ++ seen) steps.later end).0 steps.ends in
      subst (λ (e : FrameStart). StartsTo terms tries loaded seen added e) (sym is) (
        looked.0,
        record {
          earlier = steps.earlier;
          later = steps.later;
          whole = steps.whole;
          begins = (arrives_so terms tries seen steps.earlier looked.0 found).1 steps.begins;
          ends = (loads_so terms tries (sending_now found) (steps.earlier ++ seen) steps.later told (may_send (role_now found))
              (loaded_before looked.0 loaded)).1 runs;
        },
      )

-- ---- its end

module _ (terms : Terms) (tries : ℕ) (on : Wire) (place : ℕ) (flaw : Option Flaw) (old : StationState)
    (seen added : ChipHistory) where
  -- all but what the handle keeps
  record EndsTo (end : EndedPart) : Type 0 where
    pub looked : ChipHistory
    pub steps : ChipHistory
    pub last : ChipHistory
    pub whole : added ≡ last ++ (steps ++ looked)
    pub looks : AtController terms.port Look end.found seen looked
    pub own : end.own ≡ own_on on place flaw old end.found
    pub completes : OnObjects terms.port
        (λ s a. Completes terms (sent_as (still_loaded end.found old.loaded)) tries s a
        (due end.own (still_loaded end.found old.loaded) (frame_won (start_of on))) end.end) (looked ++ seen) steps
    pub notes : NotesEvent terms.port most_tries end.own end.noted (steps ++ (looked ++ seen)) last

  -- the frame that won the bus
  abbrev won : Option Frame
  won = frame_won (start_of on)

  abbrev then_event : Controller → Option (BusEvent × StatusEvent) → RoundEnd → Process EndedPart
  then_event found own end = ending (makes_event own) (part_told found own end)

  to_ends : (end : EndedPart) → EndsTo end → Runs terms tries (ends_frame terms.profile on place flaw old) seen added end
  to_ends end h =
      let kept = still_loaded end.found old.loaded in
      let history = h.looked ++ seen in (
        end.found,
        record {
          earlier = h.looked;
          later = h.last ++ h.steps;
          whole = h.whole ∙ sym (append_assoc h.last h.steps h.looked);
          begins = h.looks;
          ends = subst (λ own. Runs terms tries (ends_as terms.profile end.found own kept won) history (h.last ++ h.steps) end)
              h.own (follow terms tries (then_event end.found end.own) (completes terms.profile (sent_as kept) (due end.own kept won))
              history (h.last ++ h.steps) end (
                end.end,
                record {
                  earlier = h.steps;
                  later = h.last;
                  whole = refl;
                  begins = (completes_so terms tries (sent_as kept) history h.steps end.end (due end.own kept won)).0 h.completes;
                  ends = (ends_so terms tries (part_told end.found end.own end.end) (makes_event end.own) (h.steps ++ history)
                      h.last end).1 (
                        end.noted,
                        (event_so terms tries (h.steps ++ history) h.last end.own end.noted).0 h.notes,
                        refl,
                      );
                },
              ));
        },
      )

  of_ends : (end : EndedPart) → Runs terms tries (ends_frame terms.profile on place flaw old) seen added end → EndsTo end
  of_ends end (found, steps) =
      let kept = still_loaded found old.loaded in
      let own = own_on on place flaw old found in
      let history = steps.earlier ++ seen in
      let (last, parts) = follows terms tries (then_event found own) (completes terms.profile (sent_as kept) (due own kept won))
      history steps.later end steps.ends in
      let (noted, noting, is) =
      (ends_so terms tries (part_told found own last) (makes_event own) (parts.earlier ++ history) parts.later end).0 parts.ends in
      subst EndsTo (sym is) (record {
        looked = steps.earlier;
        steps = parts.earlier;
        last = parts.later;
        whole = steps.whole ∙ ap (λ es. es ++ steps.earlier) parts.whole ∙ append_assoc parts.later parts.earlier steps.earlier;
        looks = steps.begins;
        own = refl;
        completes = (completes_so terms tries (sent_as kept) history parts.earlier last (due own kept won)).1 parts.begins;
        notes = (event_so terms tries (parts.earlier ++ history) parts.later own noted).1 noting;
      })

-- ---- power down

module _ (terms : Terms) (tries : ℕ) (seen added : ChipHistory) where
  quiet : (down : Bool) (told : Power) → IsQuiet added told down ↔ Runs terms tries (Ended (Ok down)) seen added told
  quiet down told = (λ h. (h.quiet, h.told_is), λ h. record { quiet = h.0; told_is = h.1 })

  sets_power : (told : Power) → SetsPower terms tries seen added told
      ↔ Runs terms tries (Does (ChangesController PowerDown) (λ outcome. Ended (power_told outcome))) seen added told
  sets_power told =
      let one = one_act terms tries (ChangesController PowerDown) power_told seen added told in (one.1, one.0)

  idle_by : (none : Bool) (told : Power) → MatchBool none (SetsPower terms tries seen added told) (IsQuiet added told false)
      ↔ Runs terms tries (if none then Does (ChangesController PowerDown) (λ outcome. Ended (power_told outcome))
      else Ended (Ok false)) seen added told
  idle_by true told = sets_power told
  idle_by false told = quiet false told

module _ (terms : Terms) (tries : ℕ) (seen added : ChipHistory) (told : Power) where
  idle : PowersDownIdle terms tries seen added told
      ↔ Runs terms tries (followed_by (flag_shown TxRqst) powers_down_idle) seen added told
  idle = (
    λ h.
        let (requests, steps) = h in
        follow terms tries powers_down_idle (flag_shown TxRqst) seen added told (
          requests,
          record {
            earlier = steps.earlier;
            later = steps.later;
            whole = steps.whole;
            begins = (shows_flag terms tries seen steps.earlier TxRqst requests).0 steps.begins;
            ends = (idle_by terms tries (steps.earlier ++ seen) steps.later (requests == 0) told).0 steps.ends;
          },
        ),
    λ h.
        let (requests, steps) = follows terms tries powers_down_idle (flag_shown TxRqst) seen added told h in (
          requests,
          record {
            earlier = steps.earlier;
            later = steps.later;
            whole = steps.whole;
            begins = (shows_flag terms tries seen steps.earlier TxRqst requests).1 steps.begins;
            ends = (idle_by terms tries (steps.earlier ++ seen) steps.later (requests == 0) told).1 steps.ends;
          },
        ),
  )

module _ (terms : Terms) (tries : ℕ) (told : Power) where
  power_by : (asked : Bool) (found : Controller) (seen added : ChipHistory)
      → MatchBool asked (PowersDownIdle terms tries seen added told) (IsQuiet added told (is_powered_down found))
      ↔ Runs terms tries (powers_down_by asked found) seen added told
  power_by true found seen added = idle terms tries seen added told
  power_by false found seen added = quiet terms tries seen added (is_powered_down found) told

  power_so : (under_way : Bool) (seen added : ChipHistory)
      → PowersDownBetween terms tries under_way seen added told ↔ Runs terms tries (powers_down under_way) seen added told
  power_so true seen added = quiet terms tries seen added false told
  power_so false seen added = (
    λ h.
        let (found, steps) = h in (
          found,
          record {
            earlier = steps.earlier;
            later = steps.later;
            whole = steps.whole;
            begins = steps.begins;
            ends = (power_by (is_to_power_down found) found (steps.earlier ++ seen) steps.later).0 steps.ends;
          },
        ),
    λ h.
        let (found, steps) = h in (
          found,
          record {
            earlier = steps.earlier;
            later = steps.later;
            whole = steps.whole;
            begins = steps.begins;
            ends = (power_by (is_to_power_down found) found (steps.earlier ++ seen) steps.later).1 steps.ends;
          },
        ),
  )

-- ---- all calls

-- what the handle keeps, by its parts
state_by : (new left : BusState) → new.past ≡ left.past → new.station.loaded ≡ left.station.loaded
    → new.station.under_way ≡ left.station.under_way → new ≡ left
state_by new left past loaded under_way = λ i. record {
  past = past i;
  station = record { loaded = loaded i; under_way = under_way i };
}

past_is : (new left : BusState) → new ≡ left → new.past ≡ left.past
past_is new left same = ap (λ (b : BusState). b.past) same

loaded_now : (new left : BusState) → new ≡ left → new.station.loaded ≡ left.station.loaded
loaded_now new left same = ap (λ (b : BusState). b.station.loaded) same

under_way_now : (new left : BusState) → new ≡ left → new.station.under_way ≡ left.station.under_way
under_way_now new left same = ap (λ (b : BusState). b.station.under_way) same

module _ (terms : Terms) (tries : ℕ) (old new : BusState) (seen added : ChipHistory) where
  begins_so : (result : ℕ) (out : ShownMember) → FrameCallMeans terms tries (frame.begin result out) old seen added new
      ↔ ComesTo terms tries result (MemberAt out) (ending (starts_frame terms.profile old.station.loaded) (start_end old)) seen
      added new
  begins_so result out =
      let all = ends_with terms tries result (MemberAt out) new seen added
      (λ (end : FrameStart). StartsTo terms tries old.station.loaded seen added end)
      (starts_frame terms.profile old.station.loaded) (start_end old)
      (λ end. (to_start terms tries old.station.loaded seen added end, of_start terms tries old.station.loaded seen added end)) in (
        λ h.
            let (told, b, code, shows, past) = h in
            let end : FrameStart = (told.found, (told.loading, new.station.loaded)) in
            let left = (start_end old end).1 in
            all.0 (
              end,
              (
                b.first,
                record { earlier = b.looked; later = b.later; whole = b.whole; begins = b.arrives; ends = b.loads },
              ),
              (
                code,
                shows ∙ ap c_member b.member,
                state_by new left past refl (b.waits ∙ ap (λ (m : Member). Some m) b.member),
              ),
            ),
        λ h.
            let (end, (first, steps), (code, shows, same)) = all.1 h in
            let (found, (loading, loaded)) = end in
            let left = (start_end old end).1 in
            let is = loaded_now new left same in (
              record { found = found; loading = loading; member = member_of found loaded },
              record {
                looked = steps.earlier;
                later = steps.later;
                whole = steps.whole;
                first = first;
                arrives = steps.begins;
                loads = subst (λ l. LoadsTo terms tries (sending_now found) (steps.earlier ++ seen) steps.later (loading, l)
                    (may_send (role_now found)) (loaded_before first old.station.loaded)) (sym is) steps.ends;
                member = ap (member_of found) (sym is);
                waits = under_way_now new left same;
              },
              code,
              shows,
              past_is new left same,
            ),
      )

  stays_so : (result : ℕ) (out : ShownMember) → FrameCallMeans terms tries (frame.stay result out) old seen added new
      ↔ ComesTo terms tries result (MemberAt out) (ending controller_shown (stay_end old)) seen added new
  stays_so result out =
      let all = ends_with terms tries result (MemberAt out) new seen added
      (λ found. AtController terms.port Look found seen added) controller_shown (stay_end old)
      (λ found.
      let one = one_act terms tries LooksAtController (λ (c : Controller). c) seen added found in (
        λ h. one.1 (found, h, refl),
        λ h. let (c, on, is) = one.0 h in subst (λ d. AtController terms.port Look d seen added) (sym is) on,
      )) in (
        λ h.
            let (told, s, code, shows, past) = h in
            let left = (stay_end old told.found).1 in
            all.0 (
              told.found,
              s.looks,
              (
                code,
                shows ∙ ap c_member (s.member ∙ ap member_now s.kept),
                state_by new left past s.held s.kept,
              ),
            ),
        λ h.
            let (found, looks, (code, shows, same)) = all.1 h in
            let left = (stay_end old found).1 in (
              record { found = found; member = member_now (still_under_way found old.station.under_way) },
              record {
                looks = looks;
                kept = under_way_now new left same;
                held = loaded_now new left same;
                member = ap member_now (sym (under_way_now new left same));
              },
              code,
              shows,
              past_is new left same,
            ),
      )

  ends_at : (on : ShownWire) (place fault result : ℕ) (out : ShownFinished)
      → FrameEnds terms tries on place fault old seen added new result out
      ↔ ComesTo terms tries result (FinishedAt out)
      (ending (ends_frame terms.profile (wire_in on) place (flaw_in fault) old.station) (frame_end old)) seen added new
  ends_at on place fault result out =
      let all = ends_with terms tries result (FinishedAt out) new seen added
      (λ (end : EndedPart). EndsTo terms tries (wire_in on) place (flaw_in fault) old.station seen added end)
      (ends_frame terms.profile (wire_in on) place (flaw_in fault) old.station) (frame_end old)
      (λ end. (
        to_ends terms tries (wire_in on) place (flaw_in fault) old.station seen added end,
        of_ends terms tries (wire_in on) place (flaw_in fault) old.station seen added end,
      )) in (
        λ h.
            let e = h.ends in
            let left = (frame_end old h.told).1 in
            all.0 (
              h.told,
              record {
                looked = e.looked;
                steps = e.steps;
                last = e.last;
                whole = e.whole;
                looks = e.looks;
                own = e.own;
                completes = e.completes;
                notes = e.notes;
              },
              (h.code_is, h.shows, state_by new left h.keeps e.left e.over),
            ),
        λ h.
            let (told, e, (code, shows, same)) = all.1 h in
            let left = (frame_end old told).1 in
            record {
              told = told;
              ends = record {
                looked = e.looked;
                steps = e.steps;
                last = e.last;
                whole = e.whole;
                looks = e.looks;
                own = e.own;
                completes = e.completes;
                left = loaded_now new left same;
                over = under_way_now new left same;
                notes = e.notes;
              };
              code_is = code;
              shows = shows;
              keeps = past_is new left same;
            },
      )

  retries_so : (own : BusEvent × StatusEvent) (result : ℕ) → RetriesEvent terms own seen added result × (new ≡ old)
      ↔ ComesTo terms tries result NoPlace (retries own old) seen added new
  retries_so own result =
      let act = InsistsOnChange (FrameEvent own.0 own.1) in
      let all = ends_with terms tries result NoPlace new seen added
      (λ outcome. Changes terms.port (FrameEvent own.0 own.1) most_tries seen added outcome)
      (Does act (λ outcome. Ended outcome)) (λ outcome. end_of (code_of_change outcome) Nothing old)
      (λ outcome.
      let one = one_act terms tries act (λ (o : Result ControllerChanged ControllerBusy). o) seen added outcome in (
        λ h. one.1 (outcome, h, refl),
        λ h.
            let (o, on, is) = one.0 h in
            subst (λ p. Changes terms.port (FrameEvent own.0 own.1) most_tries seen added p) (sym is) on,
      )) in (
        λ h. let ((outcome, on, code), same) = h in all.0 (outcome, on, (code, tt, same)),
        λ h. let (outcome, on, (code, none, same)) = all.1 h in ((outcome, on, code), same),
      )

  power_is : (told : Power) (out : ℕ) → IsPower told out → IsIn (power_given told) (NumberAt out)
  power_is (Ok down) out is = is
  power_is (Err why) out is = tt

  is_power : (told : Power) (out : ℕ) → IsIn (power_given told) (NumberAt out) → IsPower told out
  is_power (Ok down) out is = is
  is_power (Err why) out is = tt

  powers_so : (result out : ℕ) → FrameCallMeans terms tries (frame.power_down result out) old seen added new
      ↔ ComesTo terms tries result (NumberAt out)
      (ending (powers_down (is_some old.station.under_way)) (power_end old)) seen added new
  powers_so result out =
      let under_way = is_some old.station.under_way in
      let all = ends_with terms tries result (NumberAt out) new seen added
      (λ told. PowersDownBetween terms tries under_way seen added told) (powers_down under_way) (power_end old)
      (λ told. power_so terms tries told under_way seen added) in (
        λ h.
            let ((told, so, code, is), same) = h in
            all.0 (told, so, (code, power_is told out is, same)),
        λ h. let (told, so, (code, is, same)) = all.1 h in ((told, so, code, is_power told out is), same),
      )

  refused : (result : ℕ) (place : Place) (code : ℕ) → Rests code old new added result
      ↔ ComesTo terms tries result place (refuses code old) seen added new
  refused result place code = rests terms tries result place new seen added code old

  each : (call : FrameCall) → FrameCallMeans terms tries call old seen added new
      ↔ ComesTo terms tries (frame_code call) (place_after call) (frame_process terms (asked_of call) old) seen added new
  each (frame.begin result out) = begins_so result out
  each (frame.stay result out) = stays_so result out
  each (frame.finish on place fault result out) =
      chosen terms tries result (FinishedAt out) new seen added (is_wire on) _ _ _ _
      (chosen terms tries result (FinishedAt out) new seen added (nat_lt place most_members) _ _ _ _
      (chosen terms tries result (FinishedAt out) new seen added (is_flaw fault) _ _ _ _
      (ends_at on place fault result out) (refused result (FinishedAt out) fault_range))
      (refused result (FinishedAt out) place_range)) (refused result (FinishedAt out) wire_range)
  each (frame.retry lost result) =
      picked terms tries result NoPlace new seen added (event_in lost) _ _ _ _ (refused result NoPlace event_range)
      (λ own. retries_so own result)
  each (frame.power_down result out) = powers_so result out

pub frame_calls : FrameCallsAreProcesses
frame_calls terms tries call old new seen added = each terms tries old new seen added call
