-- The choice of what is sent at one moment is its process.
use Rattle.std.proofs.Common.{ℕ, zero, suc, ◌≡◌, inl, inr, ◌+◌, ◌<◌, Bool, true, false, List, [], ◌++◌, Some, Result, Ok, Err, refl, sym, ap, subst, ◌∙◌, append_assoc, arith, if◌then◌else◌}
use Rattle.std.proofs.lemmas.Bool.{cases_lt}
use Rattle.ccan_ram.specs.declared.change.Changed.{Changed}
use Rattle.ccan_ram.specs.declared.change.Changed.TheVariants.{Done, NotNow}
use Rattle.ccan_ram.specs.declared.change.Refused.{Refused}
use Rattle.ccan_ram.specs.declared.change.Refused.TheVariants.{Busy, Spent}
use Rattle.ccan_ram.specs.declared.event.Event.{Event}
use Rattle.ccan_ram.specs.declared.handler_registers.HandlerRegisters.{HandlerRegisters}
use Rattle.ccan_ram.specs.declared.sending.Sending.{Sending}
use Rattle.ccan_ram.specs.Attempt.{Attempt}
use Rattle.ccan_ram.specs.Picture.{IsPicture}
use Rattle.ccan_ram.specs.Sending.{start_by}
use Rattle.ccan_ram.specs.Terms.{Terms}
use Rattle.ccan_handler.specs.Moment.{Skips, Starts, was_ready}
use Rattle.ccan_bus.specs.declared.answer.LoadAnswer.{LoadAnswer}
use Rattle.ccan_bus.specs.declared.answer.LoadAnswer.TheVariants as load
use Rattle.ccan_process.specs.Act.{Attempted, GaveUp, Made, Unfit, WasSpent, attempted}
use Rattle.ccan_process.specs.Process.{Does, Ended, followed_by}
use Rattle.ccan_endless.specs.Chip.{ChipHistory, ram_of, steps_of}
use Rattle.ccan_registers.specs.ChipSteps.{OnObjects}
use Rattle.ccan_registers.proofs.Histories.{ram_of-append}
use Rattle.ccan_calls.specs.LoadProcess.{start_at, start_each, start_end}
use Rattle.ccan_calls.specs.Process.{Attempts, Pictures, Process, ending}
use Rattle.ccan_calls.specs.Runs.{Runs}
use Rattle.ccan_calls.proofs.Parting.{no_steps_in, no_steps_of, parted}
use Rattle.ccan_calls.proofs.Processes.{Follows, ending_follow, follow, follow_ending, follows, one_act, only_first}

-- ---- the last object comes after the others

abbrev unless_started : LoadAnswer → Process LoadAnswer → Process LoadAnswer
unless_started load.Nothing next = next
unless_started (load.Loaded object after) next = Ended (load.Loaded object after)
unless_started (load.Held object) next = Ended (load.Held object)
unless_started (load.Busy object) next = Ended (load.Busy object)
unless_started (load.Spent object) next = Ended (load.Spent object)

-- an object after a picture, by whether it was ready there
abbrev start_if : Bool → Sending → ℕ → Process LoadAnswer → Process LoadAnswer
start_if ready sending object next =
    if ready then Does (Attempts object (start_by sending)) (start_end object next) else next

module _ (sending : Sending) (shown : HandlerRegisters) where
  abbrev one_start : ℕ → Process LoadAnswer
  one_start object = start_at sending shown object (Ended load.Nothing)

  ends_after : (object : ℕ) (one other last : Process LoadAnswer) → one ≡ followed_by other (λ a. unless_started a last)
      → (end : Attempted) → start_end object one end ≡ followed_by (start_end object other end) (λ a. unless_started a last)
  ends_after object one other last is (Made before after) = refl
  ends_after object one other last is (Unfit now) = is
  ends_after object one other last is GaveUp = refl
  ends_after object one other last is WasSpent = refl

  also_after : (object : ℕ) (one other last : Process LoadAnswer) → one ≡ followed_by other (λ a. unless_started a last)
      → (ready : Bool)
      → start_if ready sending object one ≡ followed_by (start_if ready sending object other) (λ a. unless_started a last)
  also_after object one other last is true =
      λ i. Does (Attempts object (start_by sending)) (λ end. ends_after object one other last is end i)
  also_after object one other last is false = is

  last_start : (more object at : ℕ) → at ≡ object + more
      → start_each sending shown (suc more) object
      ≡ followed_by (start_each sending shown more object) (λ a. unless_started a (one_start at))
  last_start zero object at is = let same : object ≡ at = omega (arith, is) in ap one_start same
  last_start (suc more) object at is =
      also_after object (start_each sending shown (suc more) (suc object)) (start_each sending shown more (suc object))
      (one_start at) (last_start more (suc object) at (omega (arith, is))) (was_ready shown object)

-- with the picture
abbrev pub Shown : Type 0
Shown = HandlerRegisters × LoadAnswer

abbrev pub with_picture : HandlerRegisters → LoadAnswer → Shown
with_picture shown answer = (shown, answer)

abbrev pub picture_and : Sending → ℕ → Process Shown
picture_and sending n = Does Pictures (λ shown. ending (start_each sending shown n 1) (with_picture shown))

abbrev then_last : Sending → ℕ → Shown → Process Shown
then_last sending n so = ending (unless_started so.1 (one_start sending so.0 (suc n))) (with_picture so.0)

last_of : (sending : Sending) (n : ℕ) → picture_and sending (suc n) ≡ followed_by (picture_and sending n) (then_last sending n)
last_of sending n = λ i. Does Pictures (λ shown. path shown i)
  where
    path : (shown : HandlerRegisters) → ending (start_each sending shown (suc n) 1) (with_picture shown)
        ≡ followed_by (ending (start_each sending shown n 1) (with_picture shown)) (then_last sending n)
    path shown =
        ap (λ (p : Process LoadAnswer). ending p (with_picture shown)) (last_start sending shown n 1 (suc n) (omega arith))
        ∙ ending_follow (start_each sending shown n 1) (λ a. unless_started a (one_start sending shown (suc n)))
        (with_picture shown)
        ∙ sym (follow_ending (start_each sending shown n 1) (with_picture shown) (then_last sending n))

-- ---- what it runs to

module _ (terms : Terms) (tries : ℕ) (sending : Sending) where
  -- an object was started, or its start was refused
  abbrev pub Stopped : HandlerRegisters → ℕ → List Event → List Event → LoadAnswer → Type 0
  Stopped shown object seen added load.Nothing = ⊥
  Stopped shown object seen added (load.Held other) = ⊥
  Stopped shown object seen added (load.Loaded other after) =
      (other ≡ object) × Starts terms sending shown object tries seen added (Ok (Some after))
  Stopped shown object seen added (load.Busy other) =
      (other ≡ object)
      × ((told : ℕ) × (now : ℕ) × Starts terms sending shown object tries seen added (Err (Busy told now)))
  Stopped shown object seen added (load.Spent other) =
      (other ≡ object) × Starts terms sending shown object tries seen added (Err Spent)

  -- the first objects are passed over, and one stops the choice
  pub record StopsIn (n : ℕ) (shown : HandlerRegisters) (seen added : List Event) (answer : LoadAnswer) : Type 0 where
    pub below : ℕ
    pub less : below < n
    pub skipped : List Event
    pub last : List Event
    pub whole : added ≡ last ++ skipped
    pub skips : Skips terms sending shown tries below seen skipped
    pub stops : Stopped shown (suc below) (skipped ++ seen) last answer

  abbrev pub Among : ℕ → HandlerRegisters → List Event → List Event → LoadAnswer → Type 0
  Among n shown seen added load.Nothing = Skips terms sending shown tries n seen added
  Among n shown seen added (load.Held object) = ⊥
  Among n shown seen added (load.Loaded object after) = StopsIn n shown seen added (load.Loaded object after)
  Among n shown seen added (load.Busy object) = StopsIn n shown seen added (load.Busy object)
  Among n shown seen added (load.Spent object) = StopsIn n shown seen added (load.Spent object)

  -- a picture before that
  pub record ChosenIn (n : ℕ) (shown : HandlerRegisters) (answer : LoadAnswer) (seen added : List Event) : Type 0 where
    pub looked : List Event
    pub tried : List Event
    pub whole : added ≡ tried ++ looked
    pub picture : IsPicture terms shown seen looked
    pub among : Among n shown (looked ++ seen) tried answer

  abbrev pub ChoosesSo : ℕ → ChipHistory → ChipHistory → Shown → Type 0
  ChoosesSo n seen added so = OnObjects terms.port (λ s a. ChosenIn n so.0 so.1 s a) seen added

  abbrev Ran : ℕ → ChipHistory → ChipHistory → Shown → Type 0
  Ran n seen added so = Runs terms tries (picture_and sending n) seen added so

  -- ---- to the process

  -- an attempt that starts an object or is refused
  pub record Tried (shown : HandlerRegisters) (object : ℕ) (seen added : List Event) (answer : LoadAnswer) : Type 0 where
    pub outcome : Result Changed Refused
    pub ready : was_ready shown object ≡ true
    pub attempt : Attempt terms object (start_by sending) tries seen added outcome
    pub end : start_end object (Ended load.Nothing) (attempted outcome) ≡ Ended answer

  tried_in : (shown : HandlerRegisters) (object : ℕ) (seen added : List Event) (answer : LoadAnswer)
      → Stopped shown object seen added answer → Tried shown object seen added answer
  tried_in shown object seen added load.Nothing stops = absurd stops
  tried_in shown object seen added (load.Held other) stops = absurd stops
  tried_in shown object seen added (load.Loaded other after) (is, (ready, before, number, attempt)) = record {
    outcome = Ok (Done before after number);
    ready = ready;
    attempt = attempt;
    end = ap (λ (k : ℕ). Ended (load.Loaded k after)) (sym is);
  }
  tried_in shown object seen added (load.Busy other) (is, (told, now, (ready, attempt))) = record {
    outcome = Err (Busy told now);
    ready = ready;
    attempt = attempt;
    end = ap (λ (k : ℕ). Ended (load.Busy k)) (sym is);
  }
  tried_in shown object seen added (load.Spent other) (is, (ready, attempt)) = record {
    outcome = Err Spent;
    ready = ready;
    attempt = attempt;
    end = ap (λ (k : ℕ). Ended (load.Spent k)) (sym is);
  }

  abbrev To : ℕ → Type 0
  To n = (seen added : ChipHistory) (so : Shown) → ChoosesSo n seen added so → Ran n seen added so

  module _ (n : ℕ) (to : To n) (seen added : ChipHistory) (shown : HandlerRegisters) where
    then_so : (answer : LoadAnswer) → Follows terms tries (then_last sending n) (picture_and sending n) seen added (shown, answer)
        → Ran (suc n) seen added (shown, answer)
    then_so answer h =
        subst (λ p. Runs terms tries p seen added (shown, answer)) (sym (last_of sending n))
        (follow terms tries (then_last sending n) (picture_and sending n) seen added (shown, answer) h)

    abbrev last_by : Bool → Process Shown
    last_by ready =
        ending (start_if ready sending (suc n) (Ended load.Nothing)) (with_picture shown)

    -- the last object was ready, and there is an attempt
    attempt_last : (answer : LoadAnswer) → steps_of terms.port added ≡ [] → (looked earlier last : List Event)
        → ram_of added ≡ last ++ (earlier ++ looked) → IsPicture terms shown (ram_of seen) looked
        → Skips terms sending shown tries n (looked ++ ram_of seen) earlier
        → Tried shown (suc n) (earlier ++ (looked ++ ram_of seen)) last answer → Ran (suc n) seen added (shown, answer)
    attempt_last answer none looked earlier last whole picture skips tried =
        let p = parted added last (earlier ++ looked) whole in
        let (quiet, before) = no_steps_in terms.port added p.last p.begun none p.whole in
        let there : ram_of (p.begun ++ seen) ≡ earlier ++ (looked ++ ram_of seen) =
        ram_of-append p.begun seen ∙ ap (λ es. es ++ ram_of seen) p.begun_is ∙ append_assoc earlier looked (ram_of seen) in
        let attempt = subst (λ es. Attempt terms (suc n) (start_by sending) tries es (ram_of p.last) tried.outcome) (sym there)
        (subst (λ es. Attempt terms (suc n) (start_by sending) tries (earlier ++ (looked ++ ram_of seen)) es tried.outcome)
        (sym p.last_is) tried.attempt) in
        then_so answer (
          (shown, load.Nothing),
          record {
            earlier = p.begun;
            later = p.last;
            whole = p.whole;
            begins = to seen p.begun (shown, load.Nothing) (record {
              none = before;
              means = record { looked = looked; tried = earlier; whole = p.begun_is; picture = picture; among = skips };
            });
            ends = subst (λ b. Runs terms tries (last_by b) (p.begun ++ seen) p.last (shown, answer)) (sym tried.ready) (
              attempted tried.outcome,
              record {
                earlier = p.last;
                later = [];
                whole = refl;
                begins = (tried.outcome, record { none = quiet; means = attempt }, refl);
                ends = subst (λ (q : Process LoadAnswer). Runs terms tries (ending q (with_picture shown))
                    (p.last ++ (p.begun ++ seen)) [] (shown, answer)) (sym tried.end) (refl, refl);
              },
            );
          },
        )

    -- nothing comes after the others
    no_more : (middle answer : LoadAnswer) → ChoosesSo n seen added (shown, middle)
        → Runs terms tries (then_last sending n (shown, middle)) (added ++ seen) [] (shown, answer)
        → Ran (suc n) seen added (shown, answer)
    no_more middle answer on rest = then_so answer (
      (shown, middle),
      record {
        earlier = added;
        later = [];
        whole = refl;
        begins = to seen added (shown, middle) on;
        ends = rest;
      },
    )

    passed : OnObjects terms.port (λ s a. ChosenIn (suc n) shown load.Nothing s a) seen added
        → Ran (suc n) seen added (shown, load.Nothing)
    passed on =
        let c = on.means in
        let (last, earlier, split, starts, skips) = c.among in
        elim starts [
          | inl pass ↦
              let (unready, none) = pass in
              no_more load.Nothing load.Nothing (record {
                none = on.none;
                means = record {
                  looked = c.looked;
                  tried = earlier;
                  whole = c.whole ∙ ap (λ es. es ++ c.looked) (split ∙ ap (λ es. es ++ earlier) none);
                  picture = c.picture;
                  among = skips;
                };
              }) (subst (λ b. Runs terms tries (last_by b) (added ++ seen) [] (shown, load.Nothing)) (sym unready) (refl, refl))
          | inr here ↦
              let (ready, now, attempt) = here in
              attempt_last load.Nothing on.none c.looked earlier last
              (c.whole ∙ ap (λ es. es ++ c.looked) split ∙ append_assoc last earlier c.looked) c.picture skips (record {
                outcome = Ok (NotNow now);
                ready = ready;
                attempt = attempt;
                end = refl;
              })
        ]

    stopped : (answer : LoadAnswer) → steps_of terms.port added ≡ [] → (looked tried : List Event)
        → ram_of added ≡ tried ++ looked → IsPicture terms shown (ram_of seen) looked
        → (stop : StopsIn (suc n) shown (looked ++ ram_of seen) tried answer)
        → (stop.below < n → Ran (suc n) seen added (shown, answer)) → Ran (suc n) seen added (shown, answer)
    stopped answer none looked tried whole picture stop under = elim (cases_lt stop.below n) [
      | inl less ↦ under less
      | inr above ↦
          let less = stop.less in
          let here : stop.below ≡ n = omega (arith, less, above) in
          attempt_last answer none looked stop.skipped stop.last
          (whole ∙ ap (λ es. es ++ looked) stop.whole ∙ append_assoc stop.last stop.skipped looked) picture
          (subst (λ k. Skips terms sending shown tries k (looked ++ ram_of seen) stop.skipped) here stop.skips)
          (tried_in shown (suc n) (stop.skipped ++ (looked ++ ram_of seen)) stop.last answer
          (subst (λ k. Stopped shown (suc k) (stop.skipped ++ (looked ++ ram_of seen)) stop.last answer) here stop.stops))
    ]

  with_less : (n m : ℕ) (shown : HandlerRegisters) (seen added : List Event) (answer : LoadAnswer)
      → (stop : StopsIn m shown seen added answer) → stop.below < n → StopsIn n shown seen added answer
  with_less n m shown seen added answer stop less = record {
    below = stop.below;
    less = less;
    skipped = stop.skipped;
    last = stop.last;
    whole = stop.whole;
    skips = stop.skips;
    stops = stop.stops;
  }

  one_more : (n : ℕ) → To n → To (suc n)
  one_more n to seen added (shown, load.Nothing) on = passed n to seen added shown on
  one_more n to seen added (shown, load.Held object) on = absurd on.means.among
  one_more n to seen added (shown, load.Loaded object after) on =
      let c = on.means in
      stopped n to seen added shown (load.Loaded object after) on.none c.looked c.tried c.whole c.picture c.among
      (λ less. no_more n to seen added shown (load.Loaded object after) (load.Loaded object after) (record {
        none = on.none;
        means = record {
          looked = c.looked;
          tried = c.tried;
          whole = c.whole;
          picture = c.picture;
          among = with_less n (suc n) shown (c.looked ++ ram_of seen) c.tried (load.Loaded object after) c.among less;
        };
      }) (refl, refl))
  one_more n to seen added (shown, load.Busy object) on =
      let c = on.means in
      stopped n to seen added shown (load.Busy object) on.none c.looked c.tried c.whole c.picture c.among
      (λ less. no_more n to seen added shown (load.Busy object) (load.Busy object) (record {
        none = on.none;
        means = record {
          looked = c.looked;
          tried = c.tried;
          whole = c.whole;
          picture = c.picture;
          among = with_less n (suc n) shown (c.looked ++ ram_of seen) c.tried (load.Busy object) c.among less;
        };
      }) (refl, refl))
  one_more n to seen added (shown, load.Spent object) on =
      let c = on.means in
      stopped n to seen added shown (load.Spent object) on.none c.looked c.tried c.whole c.picture c.among
      (λ less. no_more n to seen added shown (load.Spent object) (load.Spent object) (record {
        none = on.none;
        means = record {
          looked = c.looked;
          tried = c.tried;
          whole = c.whole;
          picture = c.picture;
          among = with_less n (suc n) shown (c.looked ++ ram_of seen) c.tried (load.Spent object) c.among less;
        };
      }) (refl, refl))

  no_object : To 0
  no_object seen added (shown, load.Nothing) on =
      let c = on.means in
      (one_act terms tries Pictures (λ found. (found, load.Nothing)) seen added (shown, load.Nothing)).1 (
        shown,
        record {
          none = on.none;
          means = subst (λ es. IsPicture terms shown (ram_of seen) es)
              (sym (c.whole ∙ ap (λ es. es ++ c.looked) c.among)) c.picture;
        },
        refl,
      )
  no_object seen added (shown, load.Held object) on = absurd on.means.among
  no_object seen added (shown, load.Loaded object after) on = let less = on.means.among.less in absurd (omega (arith, less))
  no_object seen added (shown, load.Busy object) on = let less = on.means.among.less in absurd (omega (arith, less))
  no_object seen added (shown, load.Spent object) on = let less = on.means.among.less in absurd (omega (arith, less))

  pub to_starts : (n : ℕ) → To n
  to_starts zero = no_object
  to_starts (suc n) = one_more n (to_starts n)

  -- ---- and back

  abbrev Of : ℕ → Type 0
  Of n = (seen added : ChipHistory) (so : Shown) → Ran n seen added so → ChoosesSo n seen added so

  -- what an attempt to start an object comes to
  pub record EndsAs (n : ℕ) (shown : HandlerRegisters) (seen added : List Event) (end : Attempted) : Type 0 where
    pub answer : LoadAnswer
    pub is : start_end (suc n) (Ended load.Nothing) end ≡ Ended answer
    pub among : Among (suc n) shown seen added answer

  module _ (n : ℕ) (shown : HandlerRegisters) (seen skipped last : List Event) (ready : was_ready shown (suc n) ≡ true)
      (skips : Skips terms sending shown tries n seen skipped) where
    stops_here : (answer : LoadAnswer) → Stopped shown (suc n) (skipped ++ seen) last answer
        → StopsIn (suc n) shown seen (last ++ skipped) answer
    stops_here answer stops = record {
      below = n;
      less = omega arith;
      skipped = skipped;
      last = last;
      whole = refl;
      skips = skips;
      stops = stops;
    }

    ends_as : (outcome : Result Changed Refused) → Attempt terms (suc n) (start_by sending) tries (skipped ++ seen) last outcome
        → EndsAs n shown seen (last ++ skipped) (attempted outcome)
    ends_as (Ok (Done before after number)) attempt = record {
      answer = load.Loaded (suc n) after;
      is = refl;
      among = stops_here (load.Loaded (suc n) after) (refl, (ready, before, number, attempt));
    }
    ends_as (Ok (NotNow now)) attempt = record {
      answer = load.Nothing;
      is = refl;
      among = (last, skipped, refl, inr (ready, now, attempt), skips);
    }
    ends_as (Err (Busy told now)) attempt = record {
      answer = load.Busy (suc n);
      is = refl;
      among = stops_here (load.Busy (suc n)) (refl, (told, now, (ready, attempt)));
    }
    ends_as (Err Spent) attempt = record {
      answer = load.Spent (suc n);
      is = refl;
      among = stops_here (load.Spent (suc n)) (refl, (ready, attempt));
    }

  -- a stop among the first objects is one among more
  more_among : (n : ℕ) (shown : HandlerRegisters) (seen added : List Event) (answer : LoadAnswer)
      → StopsIn n shown seen added answer → StopsIn (suc n) shown seen added answer
  more_among n shown seen added answer stop =
      let less = stop.less in with_less (suc n) n shown seen added answer stop (omega (arith, less))

  module _ (n : ℕ) (seen added : ChipHistory) (so : Shown) (found : HandlerRegisters) (earlier later : ChipHistory)
      (whole : added ≡ later ++ earlier) where
    -- nothing came after the others
    still : (middle : LoadAnswer) → (on : ChoosesSo n seen earlier (found, middle)) → later ≡ []
        → ◌≡◌ {A = Shown} so (found, middle)
        → Among (suc n) found (on.means.looked ++ ram_of seen) on.means.tried middle → ChoosesSo (suc n) seen added so
    still middle on none is among =
        subst (λ (e : Shown). ChoosesSo (suc n) seen added e) (sym is)
        (subst (λ es. ChoosesSo (suc n) seen es (found, middle)) (only_first added earlier later whole none) (record {
          none = on.none;
          means = record {
            looked = on.means.looked;
            tried = on.means.tried;
            whole = on.means.whole;
            picture = on.means.picture;
            among = among;
          };
        }))

    abbrev last_of_found : Bool → Process Shown
    last_of_found ready =
        ending (start_if ready sending (suc n) (Ended load.Nothing)) (with_picture found)

    by_ready : (on : ChoosesSo n seen earlier (found, load.Nothing)) (ready : Bool) → was_ready found (suc n) ≡ ready
        → Runs terms tries (last_of_found ready) (earlier ++ seen) later so → ChoosesSo (suc n) seen added so
    by_ready on false unready (none, is) =
        still load.Nothing on none is ([], on.means.tried, refl, inl (unready, refl), on.means.among)
    by_ready on true ready (end, steps) =
        let (outcome, tried, ended) = steps.begins in
        let c = on.means in
        let there : ram_of (earlier ++ seen) ≡ c.tried ++ (c.looked ++ ram_of seen) =
        ram_of-append earlier seen ∙ ap (λ es. es ++ ram_of seen) c.whole ∙ append_assoc c.tried c.looked (ram_of seen) in
        let attempt = subst (λ es. Attempt terms (suc n) (start_by sending) tries es (ram_of steps.earlier) outcome) there
        tried.means in
        let came = ends_as n found (c.looked ++ ram_of seen) c.tried (ram_of steps.earlier) ready c.among outcome attempt in
        let (none, is) = subst (λ (q : Process LoadAnswer). Runs terms tries (ending q (with_picture found))
        (steps.earlier ++ (earlier ++ seen)) steps.later so)
        (ap (start_end (suc n) (Ended load.Nothing)) ended ∙ came.is) steps.ends in
        let same = only_first later steps.earlier steps.later steps.whole none in
        subst (λ (e : Shown). ChoosesSo (suc n) seen added e) (sym is)
        (subst (λ es. ChoosesSo (suc n) seen es (found, came.answer)) (sym (whole ∙ ap (λ es. es ++ earlier) (sym same))) (record {
          none = no_steps_of terms.port steps.earlier earlier tried.none on.none;
          means = record {
            looked = c.looked;
            tried = ram_of steps.earlier ++ c.tried;
            whole = ram_of-append steps.earlier earlier ∙ ap (λ es. ram_of steps.earlier ++ es) c.whole
                ∙ sym (append_assoc (ram_of steps.earlier) c.tried c.looked);
            picture = c.picture;
            among = came.among;
          };
        }))

    by_middle : (middle : LoadAnswer) → ChoosesSo n seen earlier (found, middle)
        → Runs terms tries (then_last sending n (found, middle)) (earlier ++ seen) later so → ChoosesSo (suc n) seen added so
    by_middle load.Nothing on ends = by_ready on (was_ready found (suc n)) refl ends
    by_middle (load.Held object) on ends = absurd on.means.among
    by_middle (load.Loaded object after) on (none, is) =
        still (load.Loaded object after) on none is
        (more_among n found (on.means.looked ++ ram_of seen) on.means.tried (load.Loaded object after) on.means.among)
    by_middle (load.Busy object) on (none, is) =
        still (load.Busy object) on none is
        (more_among n found (on.means.looked ++ ram_of seen) on.means.tried (load.Busy object) on.means.among)
    by_middle (load.Spent object) on (none, is) =
        still (load.Spent object) on none is
        (more_among n found (on.means.looked ++ ram_of seen) on.means.tried (load.Spent object) on.means.among)

  of_none : Of 0
  of_none seen added so on =
      let (found, picture, is) = (one_act terms tries Pictures (λ shown. (shown, load.Nothing)) seen added so).0 on in
      subst (λ (e : Shown). ChoosesSo 0 seen added e) (sym is) (record {
        none = picture.none;
        means = record { looked = ram_of added; tried = []; whole = refl; picture = picture.means; among = refl };
      })

  pub of_starts : (n : ℕ) → Of n
  of_starts zero seen added so on = of_none seen added so on
  of_starts (suc n) seen added so on =
      let (middle, steps) = follows terms tries (then_last sending n) (picture_and sending n) seen added so
      (subst (λ p. Runs terms tries p seen added so) (last_of sending n) on) in
      by_middle n seen added so middle.0 steps.earlier steps.later steps.whole middle.1
      (of_starts n seen steps.earlier middle steps.begins) steps.ends
