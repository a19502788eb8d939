-- A load of the bus is its process.
use Rattle.std.proofs.Common.{ℕ, ◌≡◌, ◌↔◌, inl, inr, Bool, true, false, List, [], ◌++◌, Option, Some, None, Ok, Err, refl, sym, ap, subst, ◌∙◌, if◌then◌else◌}
use Rattle.std.specs.Prelude.{MatchBool}
use Rattle.std.proofs.lemmas.Bool.{false≢true}
use Rattle.std.proofs.lemmas.List.{append-nil}
use Rattle.std.proofs.lemmas.Option.{none-some, same_Some}
use Rattle.ccan_object.specs.declared.record.Record.{Record}
use Rattle.ccan_confine.specs.declared.controller.Controller.{Controller}
use Rattle.ccan_confine.specs.declared.controller_change.ControllerChange.TheVariants.{Join}
use Rattle.ccan_ram.specs.declared.change.Refused.TheVariants.{Busy, Spent}
use Rattle.ccan_ram.specs.declared.event.Event.{Event}
use Rattle.ccan_ram.specs.declared.sending.Sending.TheVariants.{UntilSent}
use Rattle.ccan_ram.specs.Terms.{Terms}
use Rattle.ccan_handler.specs.Moment.{Chosen}
use Rattle.ccan_bus.specs.declared.answer.LoadAnswer.{LoadAnswer}
use Rattle.ccan_bus.specs.declared.answer.LoadAnswer.TheVariants as load
use Rattle.ccan_bus.specs.declared.choice.Choice.TheVariants.{AtOnce}
use Rattle.ccan_bus.specs.Choice.{Chooses}
use Rattle.ccan_bus.specs.Load.{Loads}
use Rattle.ccan_bus.specs.Past.{BusPast, is_on}
use Rattle.ccan_process.specs.Process.{Does, Ended}
use Rattle.ccan_endless.specs.Chip.{ChipHistory, ram_of}
use Rattle.ccan_registers.specs.ChipSteps.{AtController, OnObjects, Then}
use Rattle.ccan_registers.specs.Rounds.{ArrivesOnChip, JoinsOnChip, LoadsOnChip}
use Rattle.ccan_chip.specs.Arrival.{comes_back, left_behind, takes_part, unloaded}
use Rattle.ccan_chip.specs.Round.{as_found, events_in, loops_back}
use Rattle.ccan_bus.specs.Controller.{with_controller}
use Rattle.ccan_confine.specs.Counters.{NodeEvent, faults_to_off}
use Rattle.ccan_endless.specs.declared.chip.ControllerStep.TheVariants.{Look}
use Rattle.ccan_calls.specs.LoadProcess.{Looked, arrives, arrives_and, loads, looks_again, LoadEnd, load_from, load_next, load_on, loaded_by, start_first}
use Rattle.ccan_calls.specs.Process.{InsistsOnChange, LooksAtController, Pauses, Process, Recalls}
use Rattle.ccan_calls.specs.Runs.{Runs}
use Rattle.ccan_calls.proofs.Choosing.{ChoiceOf, Chose, choice_so}
use Rattle.ccan_calls.proofs.Processes.{after_none, ends_so, follow, follows, one_act, only_first}

-- ---- a load

-- an end of a load, by its parts
pair : (answer told : LoadAnswer) (after next : BusPast) → answer ≡ told → after ≡ next
    → ◌≡◌ {A = LoadEnd} (answer, after) (told, next)
pair answer told after next one other = λ i. (one i, other i)

answer_is : (x y : LoadEnd) → x ≡ y → x.0 ≡ y.0
answer_is x y is = ap (λ (e : LoadEnd). e.0) is

past_is : (x y : LoadEnd) → x ≡ y → x.1 ≡ y.1
past_is x y is = ap (λ (e : LoadEnd). e.1) is

module _ (terms : Terms) (tries : ℕ) (past : BusPast) (at_once : past.choice ≡ AtOnce) where
  abbrev IsLoad : List Event → List Event → BusPast → LoadAnswer → Type 0
  IsLoad seen added after answer = Loads terms tries seen added past after answer

  some_loaded : (held : ℕ × Record) → past.loaded ≡ Some held → past.loaded ≡ None → ⊥
  some_loaded held is none = none-some held (sym none ∙ is)

  -- something is loaded
  module _ (held : ℕ × Record) (is : past.loaded ≡ Some held) (seen added : List Event) (after : BusPast) where
    to_held : (answer : LoadAnswer) → IsLoad seen added after answer
        → (added ≡ []) × ◌≡◌ {A = LoadEnd} (answer, after) (load.Held held.0, past)
    to_held (load.Held object) h =
        let same = same_Some (object, h.started) held (sym h.held ∙ is) in (
          h.quiet,
          pair (load.Held object) (load.Held held.0) after past
              (ap (λ (l : ℕ × Record). load.Held l.0) same) h.same,
        )
    to_held load.Nothing (inl off) = absurd (some_loaded held is off.empty)
    to_held load.Nothing (inr none) = absurd (some_loaded held is none.choice.empty)
    to_held (load.Loaded object started) h = absurd (some_loaded held is h.choice.empty)
    to_held (load.Busy object) (told, now, h) = absurd (some_loaded held is h.choice.empty)
    to_held (load.Spent object) h = absurd (some_loaded held is h.choice.empty)

    of_held : (answer : LoadAnswer) → added ≡ [] → ◌≡◌ {A = LoadEnd} (answer, after) (load.Held held.0, past)
        → IsLoad seen added after answer
    of_held answer quiet same =
        subst (λ a. IsLoad seen added after a) (sym (answer_is (answer, after) (load.Held held.0, past) same)) (record {
          started = held.1;
          held = is;
          quiet = quiet;
          same = past_is (answer, after) (load.Held held.0, past) same;
        })

  -- nothing is loaded, and the controller is off
  module _ (empty : past.loaded ≡ None) (off : is_on past 0 ≡ false) (seen added : List Event) (after : BusPast) where
    to_off : (answer : LoadAnswer) → IsLoad seen added after answer
        → (added ≡ []) × ◌≡◌ {A = LoadEnd} (answer, after) (load.Nothing, past)
    to_off load.Nothing (inl h) = (h.quiet, pair load.Nothing load.Nothing after past refl h.same)
    to_off load.Nothing (inr h) = absurd (false≢true (sym off ∙ h.choice.on))
    to_off (load.Held object) h = absurd (some_loaded (object, h.started) h.held empty)
    to_off (load.Loaded object started) h = absurd (false≢true (sym off ∙ h.choice.on))
    to_off (load.Busy object) (told, now, h) = absurd (false≢true (sym off ∙ h.choice.on))
    to_off (load.Spent object) h = absurd (false≢true (sym off ∙ h.choice.on))

    of_off : (answer : LoadAnswer) → added ≡ [] → ◌≡◌ {A = LoadEnd} (answer, after) (load.Nothing, past)
        → IsLoad seen added after answer
    of_off answer quiet same =
        subst (λ a. IsLoad seen added after a) (sym (answer_is (answer, after) (load.Nothing, past) same)) (inl (record {
          empty = empty;
          off = off;
          quiet = quiet;
          same = past_is (answer, after) (load.Nothing, past) same;
        }))

  -- nothing is loaded, and the controller is on
  module _ (empty : past.loaded ≡ None) (on : is_on past 0 ≡ true) (seen added : List Event) where
    chose : (chosen : Chosen) → Chooses past.choice terms tries seen added chosen → Chose terms tries UntilSent seen added chosen
    chose chosen h = subst (λ c. Chooses c terms tries seen added chosen) at_once h

    chooses : (chosen : Chosen) → Chose terms tries UntilSent seen added chosen → Chooses past.choice terms tries seen added chosen
    chooses chosen h = subst (λ c. Chooses c terms tries seen added chosen) (sym at_once) h

    to_on : (answer : LoadAnswer) (after : BusPast) → IsLoad seen added after answer
        → ChoiceOf terms tries UntilSent seen added answer × ◌≡◌ {A = LoadEnd} (answer, after) (loaded_by past answer)
    to_on load.Nothing after (inl h) = absurd (false≢true (sym h.off ∙ on))
    to_on load.Nothing after (inr h) = (chose (Ok None) h.choice.chooses, pair load.Nothing load.Nothing after past refl h.same)
    to_on (load.Held object) after h = absurd (some_loaded (object, h.started) h.held empty)
    to_on (load.Loaded object started) after h = (
      chose (Ok (Some (object, started))) h.choice.chooses,
      pair (load.Loaded object started) (load.Loaded object started) after (record past { loaded = Some (object, started) })
          refl h.now_loaded,
    )
    to_on (load.Busy object) after (told, now, h) = (
      (told, now, chose (Err (record { at = object; why = Busy told now })) h.choice.chooses),
      pair (load.Busy object) (load.Busy object) after past refl h.same,
    )
    to_on (load.Spent object) after h = (
      chose (Err (record { at = object; why = Spent })) h.choice.chooses,
      pair (load.Spent object) (load.Spent object) after past refl h.same,
    )

    of_on : (answer : LoadAnswer) → ChoiceOf terms tries UntilSent seen added answer
        → IsLoad seen added (loaded_by past answer).1 answer
    of_on load.Nothing c =
        inr (record { choice = record { empty = empty; on = on; chooses = chooses (Ok None) c }; same = refl })
    of_on (load.Held object) c = absurd c
    of_on (load.Loaded object started) c = record {
      choice = record { empty = empty; on = on; chooses = chooses (Ok (Some (object, started))) c };
      now_loaded = refl;
    }
    of_on (load.Busy object) (told, now, c) = (
      told,
      now,
      record {
        choice = record { empty = empty; on = on; chooses = chooses (Err (record { at = object; why = Busy told now })) c };
        same = refl;
      },
    )
    of_on (load.Spent object) c = record {
      choice = record { empty = empty; on = on; chooses = chooses (Err (record { at = object; why = Spent })) c };
      same = refl;
    }

    -- the answer of a choice is that of the load
    same_answer : (answer : LoadAnswer) → (loaded_by past answer).0 ≡ answer
    same_answer load.Nothing = refl
    same_answer (load.Held object) = refl
    same_answer (load.Loaded object started) = refl
    same_answer (load.Busy object) = refl
    same_answer (load.Spent object) = refl

  -- ---- the load as the bus is

  module _ (seen added : ChipHistory) (answer : LoadAnswer) (after : BusPast) where
    abbrev LoadsSo : Type 0
    LoadsSo = OnObjects terms.port (λ s a. Loads terms tries s a past after answer) seen added

    load_is_on : (empty : past.loaded ≡ None) → is_on past 0 ≡ true
        → LoadsSo ↔ Runs terms tries (load_next terms.profile past true) seen added (answer, after)
    load_is_on empty on =
        let end = ends_so terms tries (loaded_by past) (start_first terms.profile UntilSent) seen added (answer, after) in (
          λ h.
              let (choice, same) = to_on empty on (ram_of seen) (ram_of added) answer after h.means in
              end.1 (
                answer,
                (choice_so terms tries UntilSent seen added answer).0 (record { none = h.none; means = choice }),
                same,
              ),
          λ h.
              let (chosen, runs, same) = end.0 h in
              let choice = (choice_so terms tries UntilSent seen added chosen).1 runs in
              let is = answer_is (answer, after) (loaded_by past chosen) same
              ∙ same_answer empty on (ram_of seen) (ram_of added) chosen in
              record {
                none = choice.none;
                means = subst (λ a. IsLoad (ram_of seen) (ram_of added) after a) (sym is)
                    (subst (λ p. IsLoad (ram_of seen) (ram_of added) p chosen)
                    (sym (past_is (answer, after) (loaded_by past chosen) same))
                    (of_on empty on (ram_of seen) (ram_of added) chosen choice.means));
              },
        )

    load_is_off : (empty : past.loaded ≡ None) → is_on past 0 ≡ false
        → LoadsSo ↔ Runs terms tries (load_next terms.profile past false) seen added (answer, after)
    load_is_off empty off =
        let one = one_act terms tries Pauses (λ paused. (load.Nothing, past)) seen added (answer, after) in (
          λ h.
              let (quiet, same) = to_off empty off (ram_of seen) (ram_of added) after answer h.means in
              one.1 (tt, record { none = h.none; means = quiet }, same),
          λ h.
              let (paused, rest, same) = one.0 h in
              record {
                none = rest.none;
                means = of_off empty off (ram_of seen) (ram_of added) after answer rest.means same;
              },
        )

    load_next_is : (empty : past.loaded ≡ None) → (on : Bool) → is_on past 0 ≡ on
        → LoadsSo ↔ Runs terms tries (load_next terms.profile past on) seen added (answer, after)
    load_next_is empty true on = load_is_on empty on
    load_next_is empty false off = load_is_off empty off

    load_from_is : (o : Option (ℕ × Record)) → past.loaded ≡ o
        → LoadsSo ↔ Runs terms tries (load_from terms.profile past o) seen added (answer, after)
    load_from_is None empty = load_next_is empty (is_on past 0) refl
    load_from_is (Some held) is =
        let one = one_act terms tries Pauses (λ paused. (load.Held held.0, past)) seen added (answer, after) in (
          λ h.
              let (quiet, same) = to_held held is (ram_of seen) (ram_of added) after answer h.means in
              one.1 (tt, record { none = h.none; means = quiet }, same),
          λ h.
              let (paused, rest, same) = one.0 h in
              record {
                none = rest.none;
                means = of_held held is (ram_of seen) (ram_of added) after answer rest.means same;
              },
        )

    pub load_is : LoadsSo ↔ Runs terms tries (load_on terms.profile past) seen added (answer, after)
    load_is = load_from_is past.loaded refl

-- ---- the port comes to the bus

module _ (terms : Terms) (tries : ℕ) (seen added : ChipHistory) (first found : Controller) where
  abbrev after_look : Controller → Bool → Process Looked
  after_look c back = if back then Does (InsistsOnChange Join) (λ joined. looks_again c) else Ended (c, c)

  abbrev FirstLook : Controller → Bool → Type 0
  FirstLook c back =
      Then (λ s a. AtController terms.port Look c s a) (λ s a. Runs terms tries (after_look c back) s a (first, found)) seen added

  abbrev ArrivesBy : Controller → Bool → Type 0
  ArrivesBy c back =
      MatchBool back
      (Then (λ s a. AtController terms.port Look c s a) (λ s a. JoinsOnChip terms.port found s a) seen added)
      (AtController terms.port Look found seen added × (c ≡ found))

  to_look : (back : Bool) → ArrivesBy first back → FirstLook first back
  to_look true steps = record {
    earlier = steps.earlier;
    later = steps.later;
    whole = steps.whole;
    begins = steps.begins;
    ends =
        let (outcome, joined) = steps.ends in (
          outcome,
          record {
            earlier = joined.earlier;
            later = joined.later;
            whole = joined.whole;
            begins = joined.begins;
            ends = (one_act terms tries LooksAtController (λ (c : Controller). (first, c))
                (joined.earlier ++ (steps.earlier ++ seen)) joined.later (first, found)).1 (found, joined.ends, refl);
          },
        );
  }
  to_look false (look, same) = record {
    earlier = added;
    later = [];
    whole = refl;
    begins = subst (λ c. AtController terms.port Look c seen added) (sym same) look;
    ends = (refl, λ i. (first, sym same i));
  }

  first_of : (x y : Looked) → x ≡ y → x.0 ≡ y.0
  first_of x y is = ap (λ (l : Looked). l.0) is

  last_of : (x y : Looked) → x ≡ y → x.1 ≡ y.1
  last_of x y is = ap (λ (l : Looked). l.1) is

  of_look : (c : Controller) (back : Bool) → FirstLook c back → (first ≡ c) × ArrivesBy c back
  of_look c true steps =
      let (outcome, joined) = steps.ends in
      let (last, look, is) = (one_act terms tries LooksAtController (λ (l : Controller). (c, l))
      (joined.earlier ++ (steps.earlier ++ seen)) joined.later (first, found)).0 joined.ends in (
        first_of (first, found) (c, last) is,
        record {
          earlier = steps.earlier;
          later = steps.later;
          whole = steps.whole;
          begins = steps.begins;
          ends = (
            outcome,
            record {
              earlier = joined.earlier;
              later = joined.later;
              whole = joined.whole;
              begins = joined.begins;
              ends = subst (λ l. AtController terms.port Look l (joined.earlier ++ (steps.earlier ++ seen)) joined.later)
                  (sym (last_of (first, found) (c, last) is)) look;
            },
          );
        },
      )
  of_look c false steps =
      let (none, is) = steps.ends in
      let whole = only_first added steps.earlier steps.later steps.whole none in
      let same = last_of (first, found) (c, c) is in (
        first_of (first, found) (c, c) is,
        (
          subst (λ d. AtController terms.port Look d seen added) (sym same)
              (subst (λ es. AtController terms.port Look c seen es) whole steps.begins),
          sym same,
        ),
      )

  pub arrives_so : ArrivesOnChip terms.port first found seen added ↔ Runs terms tries arrives seen added (first, found)
  arrives_so = (
    λ h. (first, to_look (comes_back first) h),
    λ h.
        let (c, steps) = h in
        let (is, came) = of_look c (comes_back c) steps in
        subst (λ d. ArrivesOnChip terms.port d found seen added) (sym is) came,
  )

-- ---- and then does something

module _ {A : Type 0} (terms : Terms) (tries : ℕ) (past : BusPast) (next : Controller → BusPast → Process A) (result : A) where
  abbrev as_is : Controller → Controller → ChipHistory → BusPast
  as_is first found history = as_found found (events_in history) (left_behind first past)

  abbrev then_next : Looked → Process A
  then_next looked = Does Recalls (λ history. next looked.1 (as_is looked.0 looked.1 history))

  abbrev NextRuns : Controller → Controller → ChipHistory → ChipHistory → Type 0
  NextRuns first found seen added = Runs terms tries (next found (as_is first found seen)) seen added result

  module _ (seen added : ChipHistory) where
    abbrev pub ArrivesAnd : Type 0
    ArrivesAnd =
        (first : Controller) × (found : Controller)
        × Then (λ s a. ArrivesOnChip terms.port first found s a) (λ s a. NextRuns first found s a) seen added

    -- what was seen is recalled without a step
    recalled : (looked : Looked) → Runs terms tries (then_next looked) seen added result → NextRuns looked.0 looked.1 seen added
    recalled looked (history, rest) =
        after_none (λ s a. NextRuns looked.0 looked.1 s a) seen added rest.earlier rest.later rest.whole rest.begins.0
        (subst (λ es. Runs terms tries (next looked.1 (as_is looked.0 looked.1 es)) (rest.earlier ++ seen) rest.later result)
        (rest.begins.1 ∙ sym (ap (λ es. es ++ seen) rest.begins.0)) rest.ends)

  pub arrives_and_so : (seen added : ChipHistory)
      → ArrivesAnd seen added ↔ Runs terms tries (arrives_and past next) seen added result
  arrives_and_so seen added = (
    λ h.
        let (first, found, steps) = h in
        let looked : Looked = (first, found) in
        follow terms tries then_next arrives seen added result (
          looked,
          record {
            earlier = steps.earlier;
            later = steps.later;
            whole = steps.whole;
            begins = (arrives_so terms tries seen steps.earlier first found).0 steps.begins;
            ends = (
              steps.earlier ++ seen,
              record {
                earlier = [];
                later = steps.later;
                whole = sym (append-nil steps.later);
                begins = (refl, refl);
                ends = steps.ends;
              },
            );
          },
        ),
    λ h.
        let (looked, steps) = follows terms tries then_next arrives seen added result h in (
          looked.0,
          looked.1,
          record {
            earlier = steps.earlier;
            later = steps.later;
            whole = steps.whole;
            begins = (arrives_so terms tries seen steps.earlier looked.0 looked.1).1 steps.begins;
            ends = recalled (steps.earlier ++ seen) steps.later looked steps.ends;
          },
        ),
  )

-- ---- and loads

left_choice : (left : Bool) (past : BusPast) → (if left then unloaded past else past).choice ≡ past.choice
left_choice true past = refl
left_choice false past = refl

found_choice : (takes loops : Bool) (events : List NodeEvent) (past : BusPast)
    → (if takes then with_controller events loops past else unloaded (with_controller faults_to_off false past)).choice
    ≡ past.choice
found_choice true loops events past = refl
found_choice false loops events past = refl

-- the bus chooses at one moment, however the controller was found
pub chooses_so : (past : BusPast) → past.choice ≡ AtOnce → (first found : Controller) (history : ChipHistory)
    → (as_found found (events_in history) (left_behind first past)).choice ≡ AtOnce
chooses_so past at_once first found history =
    found_choice (takes_part found) (loops_back found) (events_in history) (left_behind first past)
    ∙ left_choice first.has_left past ∙ at_once

module _ (terms : Terms) (tries : ℕ) (past : BusPast) (at_once : past.choice ≡ AtOnce) (seen added : ChipHistory) where
  pub loads_so : (answer : LoadAnswer) (after : BusPast)
      → ((found : Controller) × LoadsOnChip terms tries past seen added after found answer)
      ↔ Runs terms tries (loads terms.profile past) seen added (answer, after)
  loads_so answer after =
      let all = arrives_and_so terms tries past (λ found here. load_on terms.profile here) (answer, after) seen added in
      let load = λ (first found : Controller) (s a : ChipHistory).
      load_is terms tries (as_found found (events_in s) (left_behind first past)) (chooses_so past at_once first found s) s a
      answer after in (
        λ h.
            let (found, l) = h in
            all.0 (
              l.first,
              found,
              record {
                earlier = l.looked;
                later = l.later;
                whole = l.whole;
                begins = l.arrives;
                ends = (load l.first found (l.looked ++ seen) l.later).0 l.loads;
              },
            ),
        λ h.
            let (first, found, steps) = all.1 h in (
              found,
              record {
                looked = steps.earlier;
                later = steps.later;
                whole = steps.whole;
                first = first;
                arrives = steps.begins;
                loads = (load first found (steps.earlier ++ seen) steps.later).1 steps.ends;
              },
            ),
      )
