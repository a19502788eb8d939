-- Acceptance filtering is its process.
use Rattle.std.proofs.Common.{ℕ, zero, suc, ◌≡◌, ◌↔◌, inl, inr, ◌+◌, ◌-◌, ◌<◌, Bool, true, false, List, [], ◌++◌, Option, Some, None, Result, Ok, Err, refl, sym, ap, subst, ◌∙◌, arith, if◌then◌else◌}
use Rattle.std.proofs.lemmas.Bool.{cases_lt}
use Rattle.std.proofs.lemmas.List.{append-nil}
use Rattle.ccan_object.specs.declared.profile.Profile.{Profile}
use Rattle.ccan_object.specs.declared.profile.Profile.TheVariants.{One, Two}
use Rattle.ccan_object.specs.declared.record.Record.{Record}
use Rattle.ccan_object.specs.Profile.{objects_in}
use Rattle.ccan_accept.specs.declared.frame.Frame.{Frame}
use Rattle.ccan_accept.specs.Accept.{accepts}
use Rattle.ccan_ram.specs.declared.change.Change.TheVariants.{Store}
use Rattle.ccan_ram.specs.declared.change.Changed.{Changed}
use Rattle.ccan_ram.specs.declared.change.Changed.TheVariants.{Done, NotNow}
use Rattle.ccan_ram.specs.declared.change.Refused.{Refused}
use Rattle.ccan_ram.specs.declared.change.Refused.TheVariants.{Busy, Spent}
use Rattle.ccan_ram.specs.declared.event.Event.{Event}
use Rattle.ccan_ram.specs.Attempt.{Attempt, IsLook}
use Rattle.ccan_ram.specs.Terms.{Terms}
use Rattle.ccan_handler.specs.declared.scan.ScanRefused.{ScanRefused}
use Rattle.ccan_handler.specs.declared.scan.Stored.{Stored}
use Rattle.ccan_handler.specs.Scan.{IsPassed, IsTried, PassesOver, Scans, StopsAt}
use Rattle.ccan_process.specs.Act.{attempted}
use Rattle.ccan_process.specs.Process.{Does, Ended, followed_by}
use Rattle.ccan_endless.specs.Chip.{ChipHistory}
use Rattle.ccan_registers.specs.ChipSteps.{OnObjects, Then}
use Rattle.ccan_calls.specs.Process.{Attempts, Process}
use Rattle.ccan_calls.specs.Runs.{Runs}
use Rattle.ccan_calls.specs.StoreProcess.{Filtered, GaveUpAt, NoneAccepts, SpentAt, StoredAt, store_each, store_end, store_first, unless_stored, visits}
use Rattle.ccan_calls.proofs.AtObjects.{Both, both_so, said}
use Rattle.ccan_calls.proofs.Processes.{Follows, ending_same, follow, follow_twice, follows, only_first}

-- ---- the last object comes after the others

once_more : (end : Filtered) → unless_stored end (Ended NoneAccepts) ≡ Ended end
once_more NoneAccepts = refl
once_more (StoredAt object after) = refl
once_more (GaveUpAt object) = refl
once_more (SpentAt object) = refl

module _ (frame : Frame) where
  also_after : (end : Filtered) (others last : Process Filtered)
      → unless_stored end (followed_by others (λ e. unless_stored e last))
      ≡ followed_by (unless_stored end others) (λ e. unless_stored e last)
  also_after NoneAccepts others last = refl
  also_after (StoredAt object after) others last = refl
  also_after (GaveUpAt object) others last = refl
  also_after (SpentAt object) others last = refl

  last_of : (more object at : ℕ) → at ≡ object + more
      → store_each frame (suc more) object
      ≡ followed_by (store_each frame more object) (λ end. unless_stored end (visits frame at))
  last_of zero object at is =
      let same : object ≡ at = omega (arith, is) in
      (λ i. followed_by (visits frame object) (λ end. once_more end i))
      ∙ ending_same (visits frame object) ∙ ap (visits frame) same
  last_of (suc more) object at is =
      let last = visits frame at in
      let others = store_each frame more (suc object) in
      (λ i. followed_by (visits frame object)
      (λ end. unless_stored end (last_of more (suc object) at (omega (arith, is)) i)))
      ∙ (λ i. followed_by (visits frame object) (λ end. also_after end others last i))
      ∙ sym (follow_twice (visits frame object) (λ end. unless_stored end others) (λ end. unless_stored end last))

module _ (terms : Terms) (tries : ℕ) (frame : Frame) where
  -- ---- a visit of one object

  abbrev Tries : ℕ → Result Changed Refused → List Event → List Event → Type 0
  Tries object outcome seen added = IsTried terms object (Store frame) tries seen added outcome

  abbrev VisitsTo : ℕ → Filtered → List Event → List Event → Type 0
  VisitsTo object NoneAccepts seen added = IsPassed terms object (Store frame) tries seen added
  VisitsTo object (StoredAt at after) seen added =
      (at ≡ object) × ((before : Record) × (number : ℕ) × Tries object (Ok (Done before after number)) seen added)
  VisitsTo object (GaveUpAt at) seen added =
      (at ≡ object) × ((told : ℕ) × (now : ℕ) × Tries object (Err (Busy told now)) seen added)
  VisitsTo object (SpentAt at) seen added = (at ≡ object) × Tries object (Err Spent) seen added

  abbrev Visit : ℕ → Filtered → ChipHistory → ChipHistory → Type 0
  Visit object end seen added = OnObjects terms.port (λ s a. VisitsTo object end s a) seen added

  -- a visit with an attempt that ended in this way
  visit_by : (object : ℕ) (outcome : Result Changed Refused) (seen added : List Event) → Tries object outcome seen added
      → VisitsTo object (store_end object (attempted outcome)) seen added
  visit_by object (Ok (Done before after number)) seen added tried = (refl, (before, number, tried))
  visit_by object (Ok (NotNow now)) seen added tried = inr (now, tried)
  visit_by object (Err (Busy told now)) seen added tried = (refl, (told, now, tried))
  visit_by object (Err Spent) seen added tried = (refl, tried)

  module _ (object : ℕ) (seen added : ChipHistory) where
    abbrev by_look : Bool → Process Filtered
    by_look takes =
        if takes then Does (Attempts object (Store frame)) (λ end. Ended (store_end object end)) else Ended NoneAccepts

    to_try : (outcome : Result Changed Refused) → OnObjects terms.port (λ s a. Tries object outcome s a) seen added
        → Runs terms tries (visits frame object) seen added (store_end object (attempted outcome))
    to_try outcome on =
        let t = on.means in
        let steps = (both_so terms.port (λ s a. IsLook terms object t.shown a)
        (λ s a. Attempt terms object (Store frame) tries s a outcome) seen added).0 (record {
          none = on.none;
          means = record { first = t.looked; last = t.tried; whole = t.whole; begins = t.look; ends = t.attempt };
        }) in (
          t.shown,
          record {
            earlier = steps.earlier;
            later = steps.later;
            whole = steps.whole;
            begins = steps.begins;
            ends = subst (λ b. Runs terms tries (by_look b) (steps.earlier ++ seen) steps.later
                (store_end object (attempted outcome))) (sym t.fit) (
                  attempted outcome,
                  record {
                    earlier = steps.later;
                    later = [];
                    whole = refl;
                    begins = (outcome, steps.ends, refl);
                    ends = (refl, refl);
                  },
                );
          },
        )

    ended_at : (at : ℕ) → at ≡ object → (end : ℕ → Filtered)
        → Runs terms tries (visits frame object) seen added (end object)
        → Runs terms tries (visits frame object) seen added (end at)
    ended_at at is end on = subst (λ k. Runs terms tries (visits frame object) seen added (end k)) (sym is) on

    to_visit : (end : Filtered) → Visit object end seen added → Runs terms tries (visits frame object) seen added end
    to_visit NoneAccepts on = elim on.means [
      | inl pass ↦
          let (shown, unfit, look) = pass in (
            shown,
            record {
              earlier = added;
              later = [];
              whole = refl;
              begins = record { none = on.none; means = look };
              ends = subst (λ b. Runs terms tries (by_look b) (added ++ seen) [] NoneAccepts) (sym unfit) (refl, refl);
            },
          )
      | inr pass ↦ to_try (Ok (NotNow pass.0)) (record { none = on.none; means = pass.1 })
    ]
    to_visit (StoredAt at after) on =
        let (is, (before, number, tried)) = on.means in
        ended_at at is (λ k. StoredAt k after) (to_try (Ok (Done before after number)) (record { none = on.none; means = tried }))
    to_visit (GaveUpAt at) on =
        let (is, (told, now, tried)) = on.means in
        ended_at at is GaveUpAt (to_try (Err (Busy told now)) (record { none = on.none; means = tried }))
    to_visit (SpentAt at) on =
        let (is, tried) = on.means in
        ended_at at is SpentAt (to_try (Err Spent) (record { none = on.none; means = tried }))

    of_look : (end : Filtered) (shown : Record) (takes : Bool) → accepts shown frame ≡ takes
        → Then (λ s a. OnObjects terms.port (λ h es. IsLook terms object shown es) s a)
        (λ s a. Runs terms tries (by_look takes) s a end) seen added → Visit object end seen added
    of_look end shown false unfit steps =
        let whole = only_first added steps.earlier steps.later steps.whole steps.ends.0 in
        let look = subst (λ es. OnObjects terms.port (λ h es. IsLook terms object shown es) seen es) whole steps.begins in
        subst (λ e. Visit object e seen added) (sym steps.ends.1)
        (record { none = look.none; means = inl (shown, unfit, look.means) })
    of_look end shown true fit steps =
        let (out, rest) = steps.ends in
        let (outcome, attempt, ended) = rest.begins in
        let whole = only_first steps.later rest.earlier rest.later rest.whole rest.ends.0 in
        let both = (both_so terms.port (λ s a. IsLook terms object shown a)
        (λ s a. Attempt terms object (Store frame) tries s a outcome) seen added).1 (record {
          earlier = steps.earlier;
          later = steps.later;
          whole = steps.whole;
          begins = steps.begins;
          ends = subst (λ es. OnObjects terms.port (λ s a. Attempt terms object (Store frame) tries s a outcome)
              (steps.earlier ++ seen) es) whole attempt;
        }) in
        let b = both.means in
        subst (λ e. Visit object e seen added) (sym (rest.ends.1 ∙ ap (store_end object) ended)) (record {
          none = both.none;
          means = visit_by object outcome _ _ (record {
            shown = shown;
            looked = b.first;
            tried = b.last;
            whole = b.whole;
            look = b.begins;
            fit = fit;
            attempt = b.ends;
          });
        })

    visits_so : (end : Filtered) → Visit object end seen added ↔ Runs terms tries (visits frame object) seen added end
    visits_so end = (
      to_visit end,
      λ h. let (shown, steps) = h in of_look end shown (accepts shown frame) refl steps,
    )

  -- ---- visits, one after another

  -- the first n objects are passed over
  abbrev Over : ℕ → ChipHistory → ChipHistory → Type 0
  Over n seen added = OnObjects terms.port (λ s a. PassesOver terms 1 n (Store frame) tries s a) seen added

  -- one of the first n stores the frame or refuses to, and those before it are passed over
  abbrev Stops : ℕ → Filtered → ChipHistory → ChipHistory → Type 0
  Stops n end seen added =
      (below : ℕ) × (below < n) × Then (λ s a. Over below s a) (λ s a. Visit (suc below) end s a) seen added

  abbrev pub StoresTo : ℕ → Filtered → ChipHistory → ChipHistory → Type 0
  StoresTo n NoneAccepts seen added = Over n seen added
  StoresTo n (StoredAt object after) seen added = Stops n (StoredAt object after) seen added
  StoresTo n (GaveUpAt object) seen added = Stops n (GaveUpAt object) seen added
  StoresTo n (SpentAt object) seen added = Stops n (SpentAt object) seen added

  abbrev OneMore : ℕ → Filtered → ChipHistory → ChipHistory → Type 0
  OneMore n end seen added = Then (λ s a. Over n s a) (λ s a. Visit (suc n) end s a) seen added

  module _ (n : ℕ) (seen added : ChipHistory) where
    next_is : 1 + n ≡ suc n
    next_is = omega arith

    over_more : Over (suc n) seen added ↔ OneMore n NoneAccepts seen added
    over_more =
        let one = λ (s a : List Event). PassesOver terms 1 n (Store frame) tries s a in
        let other = λ (s a : List Event). IsPassed terms (suc n) (Store frame) tries s a in
        let both = both_so terms.port one other seen added in (
          λ h. both.0 (said terms.port (λ s a. PassesOver terms 1 (suc n) (Store frame) tries s a) (λ s a. Both one other s a) seen
              added
              (λ s a over.
              let (last, earlier, whole, passed, before) = over in record {
                first = earlier;
                last = last;
                whole = whole;
                begins = before;
                ends = subst (λ k. IsPassed terms k (Store frame) tries (earlier ++ s) last) next_is passed;
              }) h),
          λ h. said terms.port (λ s a. Both one other s a) (λ s a. PassesOver terms 1 (suc n) (Store frame) tries s a) seen added
              (λ s a b. (
                b.last,
                b.first,
                b.whole,
                subst (λ k. IsPassed terms k (Store frame) tries (b.first ++ s) b.last) (sym next_is) b.ends,
                b.begins,
              )) (both.1 h),
        )

    to_more : (end : Filtered) → OneMore n end seen added → StoresTo (suc n) end seen added
    to_more NoneAccepts steps = over_more.1 steps
    to_more (StoredAt object after) steps = (n, omega arith, steps)
    to_more (GaveUpAt object) steps = (n, omega arith, steps)
    to_more (SpentAt object) steps = (n, omega arith, steps)

    among_more : (end : Filtered) → Stops n end seen added → Stops (suc n) end seen added
    among_more end (below, less, steps) = (below, omega (arith, less), steps)

  -- nothing comes before the first object
  first_visit : (end : Filtered) (seen added : ChipHistory) → OneMore 0 end seen added → Visit 1 end seen added
  first_visit end seen added steps =
      let both = (both_so terms.port (λ s a. a ≡ []) (λ s a. VisitsTo 1 end s a) seen added).1 steps in
      said terms.port (λ s a. Both (λ t b. b ≡ []) (λ t b. VisitsTo 1 end t b) s a) (λ s a. VisitsTo 1 end s a) seen added
      (λ s a b.
      let whole : b.last ≡ a = sym (b.whole ∙ ap (λ es. b.last ++ es) b.begins ∙ append-nil b.last) in
      subst (λ es. VisitsTo 1 end s es) whole (subst (λ es. VisitsTo 1 end (es ++ s) b.last) b.begins b.ends)) both

  stop_first : (end : Filtered) (seen added : ChipHistory) → Stops 1 end seen added → Visit 1 end seen added
  stop_first end seen added (below, less, steps) =
      let none : below ≡ 0 = omega (arith, less) in
      first_visit end seen added (subst (λ k. OneMore k end seen added) none steps)

  visit_first : (end : Filtered) (seen added : ChipHistory) → StoresTo 1 end seen added → Visit 1 end seen added
  visit_first NoneAccepts seen added over = first_visit NoneAccepts seen added ((over_more 0 seen added).0 over)
  visit_first (StoredAt object after) seen added stop = stop_first (StoredAt object after) seen added stop
  visit_first (GaveUpAt object) seen added stop = stop_first (GaveUpAt object) seen added stop
  visit_first (SpentAt object) seen added stop = stop_first (SpentAt object) seen added stop

  -- ---- to the process

  abbrev Each : ℕ → Filtered → ChipHistory → ChipHistory → Type 0
  Each n end seen added = Runs terms tries (store_each frame n 1) seen added end

  abbrev later : ℕ → Filtered → Process Filtered
  later n end = unless_stored end (visits frame (suc n))

  module _ (n : ℕ) (end : Filtered) (seen added : ChipHistory) where
    last_is : store_each frame (suc n) 1 ≡ followed_by (store_each frame n 1) (later n)
    last_is = last_of frame n 1 (suc n) (omega arith)

    to_later : Follows terms tries (later n) (store_each frame n 1) seen added end → Each (suc n) end seen added
    to_later h =
        subst (λ p. Runs terms tries p seen added end) (sym last_is)
        (follow terms tries (later n) (store_each frame n 1) seen added end h)

    of_later : Each (suc n) end seen added → Follows terms tries (later n) (store_each frame n 1) seen added end
    of_later on =
        follows terms tries (later n) (store_each frame n 1) seen added end
        (subst (λ p. Runs terms tries p seen added end) last_is on)

  abbrev To : ℕ → Type 0
  To n = (end : Filtered) (seen added : ChipHistory) → StoresTo n end seen added → Each n end seen added

  to_one : To 1
  to_one end seen added h =
      subst (λ p. Runs terms tries p seen added end) (sym (last_is 0 end seen added))
      ((visits_so 1 seen added end).0 (visit_first end seen added h))

  module _ (n : ℕ) (to : To (suc n)) (seen added : ChipHistory) where
    visit_more : (end : Filtered) → OneMore (suc n) end seen added → Each (suc (suc n)) end seen added
    visit_more end steps = to_later (suc n) end seen added (
      NoneAccepts,
      record {
        earlier = steps.earlier;
        later = steps.later;
        whole = steps.whole;
        begins = to NoneAccepts seen steps.earlier steps.begins;
        ends = (visits_so (suc (suc n)) (steps.earlier ++ seen) steps.later end).0 steps.ends;
      },
    )

    no_more : (end : Filtered) → later (suc n) end ≡ Ended end → StoresTo (suc n) end seen added
        → Each (suc (suc n)) end seen added
    no_more end is h = to_later (suc n) end seen added (
      end,
      record {
        earlier = added;
        later = [];
        whole = refl;
        begins = to end seen added h;
        ends = subst (λ p. Runs terms tries p (added ++ seen) [] end) (sym is) (refl, refl);
      },
    )

    stop_more : (end : Filtered) → later (suc n) end ≡ Ended end
        → (Stops (suc n) end seen added → StoresTo (suc n) end seen added)
        → Stops (suc (suc n)) end seen added → Each (suc (suc n)) end seen added
    stop_more end is so (below, less, steps) = elim (cases_lt below (suc n)) [
      | inl under ↦ no_more end is (so (below, under, steps))
      | inr above ↦
          let here : below ≡ suc n = omega (arith, less, above) in
          visit_more end (subst (λ k. OneMore k end seen added) here steps)
    ]

    to_each_more : (end : Filtered) → StoresTo (suc (suc n)) end seen added → Each (suc (suc n)) end seen added
    to_each_more NoneAccepts over = visit_more NoneAccepts ((over_more (suc n) seen added).0 over)
    to_each_more (StoredAt object after) stop = stop_more (StoredAt object after) refl (λ h. h) stop
    to_each_more (GaveUpAt object) stop = stop_more (GaveUpAt object) refl (λ h. h) stop
    to_each_more (SpentAt object) stop = stop_more (SpentAt object) refl (λ h. h) stop

  to_each : (n : ℕ) → To (suc n)
  to_each zero = to_one
  to_each (suc n) = λ end seen added h. to_each_more n (to_each n) seen added end h

  -- ---- and back

  of_none : (end : Filtered) (seen added : ChipHistory) → Each 0 end seen added → StoresTo 0 end seen added
  of_none end seen added (none, is) =
      subst (λ e. StoresTo 0 e seen added) (sym is)
      (subst (λ es. Over 0 seen es) (sym none) (record { none = refl; means = refl }))

  module _ (n : ℕ) (end : Filtered) (seen added earlier rest : ChipHistory) (whole : added ≡ rest ++ earlier) where
    stopped : (middle : Filtered) → Stops n middle seen earlier → (rest ≡ []) × (end ≡ middle)
        → (Stops (suc n) middle seen added → StoresTo (suc n) middle seen added) → StoresTo (suc n) end seen added
    stopped middle stop (none, is) so =
        subst (λ e. StoresTo (suc n) e seen added) (sym is)
        (so (among_more n seen added middle
        (subst (λ es. Stops n middle seen es) (only_first added earlier rest whole none) stop)))

    by_middle : (middle : Filtered) → StoresTo n middle seen earlier
        → Runs terms tries (later n middle) (earlier ++ seen) rest end → StoresTo (suc n) end seen added
    by_middle NoneAccepts over on = to_more n seen added end (record {
      earlier = earlier;
      later = rest;
      whole = whole;
      begins = over;
      ends = (visits_so (suc n) (earlier ++ seen) rest end).1 on;
    })
    by_middle (StoredAt object after) stop on = stopped (StoredAt object after) stop on (λ h. h)
    by_middle (GaveUpAt object) stop on = stopped (GaveUpAt object) stop on (λ h. h)
    by_middle (SpentAt object) stop on = stopped (SpentAt object) stop on (λ h. h)

  of_each : (n : ℕ) (end : Filtered) (seen added : ChipHistory) → Each n end seen added → StoresTo n end seen added
  of_each zero end seen added on = of_none end seen added on
  of_each (suc n) end seen added on =
      let (middle, steps) = of_later n end seen added on in
      by_middle n end seen added steps.earlier steps.later steps.whole middle
      (of_each n middle seen steps.earlier steps.begins) steps.ends

  some_objects : (profile : Profile) → (n : ℕ) × (objects_in profile ≡ suc n)
  some_objects One = (31, refl)
  some_objects Two = (63, refl)

  abbrev objects : ℕ
  objects = objects_in terms.profile

  pub stores_so : (end : Filtered) (seen added : ChipHistory)
      → StoresTo objects end seen added ↔ Runs terms tries (store_first terms.profile frame) seen added end
  stores_so end seen added =
      let (n, is) = some_objects terms.profile in (
        λ h. subst (λ k. Each k end seen added) (sym is)
            (to_each n end seen added (subst (λ k. StoresTo k end seen added) is h)),
        λ h. of_each objects end seen added h,
      )

  -- ---- as a scan reports it

  abbrev ScanOutcome : Type 0
  ScanOutcome = Result (Option Stored) ScanRefused

  abbrev Scanned : ScanOutcome → ChipHistory → ChipHistory → Type 0
  Scanned outcome seen added =
      OnObjects terms.port (λ s a. Scans terms (Store frame) 1 tries s a outcome) seen added

  -- how a scan with this outcome ended
  abbrev refused_as : ℕ → Refused → Filtered
  refused_as at (Busy told now) = GaveUpAt at
  refused_as at Spent = SpentAt at

  abbrev pub filtered_as : ScanOutcome → Filtered
  filtered_as (Ok None) = NoneAccepts
  filtered_as (Ok (Some stored)) = StoredAt stored.object stored.after
  filtered_as (Err refused) = refused_as refused.at refused.why

  all_are : objects + 1 - 1 ≡ objects
  all_are = omega arith

  module _ (seen added : ChipHistory) where
    abbrev StopsThere : ℕ → Result Changed Refused → List Event → List Event → Type 0
    StopsThere object outcome s a = StopsAt terms 1 object (Store frame) tries s a outcome

    -- an object is the next one after those below it
    stops_to : (object : ℕ) (outcome : Result Changed Refused) (end : Filtered)
        → ((below : ℕ) (s a : List Event) → object ≡ suc below → Tries (suc below) outcome s a → VisitsTo (suc below) end s a)
        → OnObjects terms.port (λ s a. StopsThere object outcome s a) seen added → Stops objects end seen added
    stops_to object outcome end visit on =
        let low = on.means.in_turn in
        let high = on.means.held.greatest in
        let below = object - 1 in
        let is : object ≡ suc below = omega (arith, low) in (
          below,
          omega (arith, low, high),
          (both_so terms.port (λ s a. PassesOver terms 1 below (Store frame) tries s a) (λ s a. VisitsTo (suc below) end s a) seen
              added).0
              (said terms.port (λ s a. StopsThere object outcome s a)
              (λ s a. Both (λ t b. PassesOver terms 1 below (Store frame) tries t b) (λ t b. VisitsTo (suc below) end t b) s a)
              seen added
              (λ s a stop. record {
                first = stop.passed;
                last = stop.last;
                whole = stop.whole;
                begins = stop.passes;
                ends = visit below (stop.passed ++ s) stop.last is
                    (subst (λ k. Tries k outcome (stop.passed ++ s) stop.last) is stop.try);
              }) on),
        )

    pub to_scan : (outcome : ScanOutcome) → Scanned outcome seen added → StoresTo objects (filtered_as outcome) seen added
    to_scan (Ok None) on =
        subst (λ n. Over n seen added) all_are on
    to_scan (Ok (Some stored)) on =
        let (number, stop) = on.means in
        stops_to stored.object (Ok (Done stored.before stored.after number)) (StoredAt stored.object stored.after)
        (λ below s a is tried. (is, (stored.before, number, tried))) (record { none = on.none; means = stop })
    to_scan (Err refused) on = refused_to refused.at refused.why on
      where
        refused_to : (at : ℕ) (why : Refused)
            → OnObjects terms.port (λ s a. StopsThere at (Err why) s a) seen added
            → StoresTo objects (refused_as at why) seen added
        refused_to at (Busy told now) on =
            stops_to at (Err (Busy told now)) (GaveUpAt at) (λ below s a is tried. (is, (told, now, tried))) on
        refused_to at Spent on = stops_to at (Err Spent) (SpentAt at) (λ below s a is tried. (is, tried)) on

    -- a stop is one of the scan
    stop_of : (object below : ℕ) (outcome : Result Changed Refused) (s a : List Event) → object ≡ suc below → below < objects
        → Both (λ t b. PassesOver terms 1 below (Store frame) tries t b) (λ t b. Tries (suc below) outcome t b) s a
        → StopsThere object outcome s a
    stop_of object below outcome s a is less b =
        let same : below ≡ object - 1 = omega (arith, is) in
        record {
          in_turn = omega (arith, is);
          held = record { least = omega (arith, is); greatest = omega (arith, is, less) };
          passed = b.first;
          last = b.last;
          whole = b.whole;
          passes = subst (λ k. PassesOver terms 1 k (Store frame) tries s b.first) same b.begins;
          try = subst (λ k. Tries k outcome (b.first ++ s) b.last) (sym is) b.ends;
        }

    -- the scan whose end this is
    pub record ScannedAs (end : Filtered) : Type 0 where
      pub outcome : ScanOutcome
      pub scan : Scanned outcome seen added
      pub is : filtered_as outcome ≡ end

    abbrev PassedAndVisited : ℕ → Filtered → List Event → List Event → Type 0
    PassedAndVisited below end s a =
        Both (λ t b. PassesOver terms 1 below (Store frame) tries t b) (λ t b. VisitsTo (suc below) end t b) s a

    both_of : (end : Filtered) → (stop : Stops objects end seen added)
        → OnObjects terms.port (λ s a. PassedAndVisited stop.0 end s a) seen added
    both_of end (below, less, steps) =
        (both_so terms.port (λ s a. PassesOver terms 1 below (Store frame) tries s a) (λ s a. VisitsTo (suc below) end s a) seen
        added).1 steps

    pub of_scan : (end : Filtered) → StoresTo objects end seen added → ScannedAs end
    of_scan NoneAccepts over = record {
      outcome = Ok None;
      scan = subst (λ n. Over n seen added) (sym all_are) over;
      is = refl;
    }
    of_scan (StoredAt object after) stop =
        let both = both_of (StoredAt object after) stop in
        let b = both.means in
        let (is, (before, number, tried)) = b.ends in
        record {
          outcome = Ok (Some (record { object = object; before = before; after = after }));
          scan = record {
            none = both.none;
            means = (
              number,
              stop_of object stop.0 (Ok (Done before after number)) _ _ is stop.1 (record {
                first = b.first;
                last = b.last;
                whole = b.whole;
                begins = b.begins;
                ends = tried;
              }),
            );
          };
          is = refl;
        }
    of_scan (GaveUpAt object) stop =
        let both = both_of (GaveUpAt object) stop in
        let b = both.means in
        let (is, (told, now, tried)) = b.ends in
        record {
          outcome = Err (record { at = object; why = Busy told now });
          scan = record {
            none = both.none;
            means = stop_of object stop.0 (Err (Busy told now)) _ _ is stop.1 (record {
              first = b.first;
              last = b.last;
              whole = b.whole;
              begins = b.begins;
              ends = tried;
            });
          };
          is = refl;
        }
    of_scan (SpentAt object) stop =
        let both = both_of (SpentAt object) stop in
        let b = both.means in
        let (is, tried) = b.ends in
        record {
          outcome = Err (record { at = object; why = Spent });
          scan = record {
            none = both.none;
            means = stop_of object stop.0 (Err Spent) _ _ is stop.1 (record {
              first = b.first;
              last = b.last;
              whole = b.whole;
              begins = b.begins;
              ends = tried;
            });
          };
          is = refl;
        }
