-- Changes of all objects, one after another, are their processes.
use Rattle.std.proofs.Common.{ℕ, zero, suc, ◌≡◌, ◌↔◌, ◌+◌, ◌<◌, inl, inr, Result, Ok, Err, [], ◌++◌, refl, sym, ap, subst, ◌∙◌, arith}
use Rattle.std.proofs.lemmas.Bool.{cases_lt}
use Rattle.ccan_object.specs.Profile.{objects_in}
use Rattle.ccan_ram.specs.declared.change.Change.{Change}
use Rattle.ccan_ram.specs.declared.change.Changed.{Changed}
use Rattle.ccan_ram.specs.declared.change.Changed.TheVariants.{Done, NotNow}
use Rattle.ccan_ram.specs.declared.change.Refused.{Refused}
use Rattle.ccan_ram.specs.declared.change.Refused.TheVariants.{Busy, Spent}
use Rattle.ccan_ram.specs.Terms.{Terms}
use Rattle.ccan_process.specs.Act.{attempted}
use Rattle.ccan_process.specs.Process.{Does, Ended, followed_by}
use Rattle.ccan_endless.specs.Chip.{ChipHistory}
use Rattle.ccan_registers.specs.AllObjects.{ChangesObject, ChangesObjects, HaveChanged}
use Rattle.ccan_registers.specs.ChipSteps.{Then}
use Rattle.ccan_registers.specs.Dcan.{change_told}
use Rattle.ccan_calls.specs.Process.{Attempts, Process}
use Rattle.ccan_calls.specs.Runs.{Runs}
use Rattle.ccan_calls.specs.WriteProcess.{Written, attempt_told, change_all, change_each, change_one, unless_refused}
use Rattle.ccan_calls.proofs.Processes.{Follows, follow, follows, one_act, only_first}

pub told_so : (outcome : Result Changed Refused) → attempt_told (attempted outcome) ≡ change_told outcome
told_so (Ok (Done before after number)) = refl
told_so (Ok (NotNow shown)) = refl
told_so (Err (Busy told now)) = refl
told_so (Err Spent) = refl

-- ---- the last object comes after the others

once_more : (told : Written) → unless_refused told (Ended (Ok tt)) ≡ Ended told
once_more (Ok done) = refl
once_more (Err why) = refl

also_after : (told : Written) (one other : Process Written) (last : Process Written)
    → one ≡ followed_by other (λ end. unless_refused end last)
    → unless_refused told one ≡ followed_by (unless_refused told other) (λ end. unless_refused end last)
also_after (Ok done) one other last is = is
also_after (Err why) one other last is = refl

module _ (change : Change) where
  last_of : (more object at : ℕ) → at ≡ object + more
      → change_each change (suc more) object
      ≡ followed_by (change_each change more object) (λ end. unless_refused end (change_one change at))
  last_of zero object at is =
      let same : object ≡ at = omega (arith, is) in
      (λ i. Does (Attempts object change) (λ end. once_more (attempt_told end) i)) ∙ ap (λ k. change_one change k) same
  last_of (suc more) object at is =
      λ i. Does (Attempts object change) (λ end. also_after (attempt_told end) (change_each change (suc more) (suc object))
      (change_each change more (suc object)) (change_one change at) (last_of more (suc object) at (omega (arith, is))) i)

  module _ (terms : Terms) (tries : ℕ) where
    pub changes_one : (object : ℕ) (seen added : ChipHistory) (told : Written)
        → ChangesObject terms change tries object seen added told ↔ Runs terms tries (change_one change object) seen added told
    changes_one object seen added told =
        let one = one_act terms tries (Attempts object change) attempt_told seen added told in (
          λ h. let (outcome, on, is) = h in one.1 (attempted outcome, (outcome, on, refl), is ∙ sym (told_so outcome)),
          λ h.
              let (end, (outcome, on, ended), is) = one.0 h in
              (outcome, on, is ∙ ap attempt_told ended ∙ told_so outcome),
        )

    -- the objects before this one were changed, or the change of one was refused
    abbrev ChangedSo : ℕ → ChipHistory → ChipHistory → Written → Type 0
    ChangedSo n seen added (Ok done) = HaveChanged terms change tries n seen added
    ChangedSo n seen added (Err why) =
        (m : ℕ) × (m < n)
        × Then (λ s a. HaveChanged terms change tries m s a) (λ s a. ChangesObject terms change tries (suc m) s a (Err why)) seen
        added

    abbrev Each : ℕ → ChipHistory → ChipHistory → Written → Type 0
    Each n seen added told = Runs terms tries (change_each change n 1) seen added told

    abbrev later : ℕ → Written → Process Written
    later n end = unless_refused end (change_one change (suc n))

    of_later : (n : ℕ) (seen added : ChipHistory) (told : Written) → Each (suc n) seen added told
        → Follows terms tries (later n) (change_each change n 1) seen added told
    of_later n seen added told on =
        follows terms tries (later n) (change_each change n 1) seen added told
        (subst (λ p. Runs terms tries p seen added told) (last_of n 1 (suc n) (omega arith)) on)

    to_later : (n : ℕ) (seen added : ChipHistory) (told : Written)
        → Follows terms tries (later n) (change_each change n 1) seen added told → Each (suc n) seen added told
    to_later n seen added told h =
        subst (λ p. Runs terms tries p seen added told) (sym (last_of n 1 (suc n) (omega arith)))
        (follow terms tries (later n) (change_each change n 1) seen added told h)

    to_each : (n : ℕ) (seen added : ChipHistory) (told : Written) → ChangedSo n seen added told → Each n seen added told
    to_each zero seen added (Ok done) h = (h, refl)
    to_each zero seen added (Err why) (m, less, steps) = absurd (omega (arith, less))
    to_each (suc n) seen added (Ok done) h = to_later n seen added (Ok done) (
      Ok done,
      record {
        earlier = h.earlier;
        later = h.later;
        whole = h.whole;
        begins = to_each n seen h.earlier (Ok done) h.begins;
        ends = (changes_one (suc n) (h.earlier ++ seen) h.later (Ok done)).0 h.ends;
      },
    )
    to_each (suc n) seen added (Err why) (m, less, steps) = elim (cases_lt m n) [
      | inl under ↦ to_later n seen added (Err why) (
        Err why,
        record {
          earlier = added;
          later = [];
          whole = refl;
          begins = to_each n seen added (Err why) (m, under, steps);
          ends = (refl, refl);
        },
      )
      | inr above ↦
          let here : m ≡ n = omega (arith, less, above) in
          to_later n seen added (Err why) (
            Ok tt,
            record {
              earlier = steps.earlier;
              later = steps.later;
              whole = steps.whole;
              begins = to_each n seen steps.earlier (Ok tt)
                  (subst (λ k. HaveChanged terms change tries k seen steps.earlier) here steps.begins);
              ends = (changes_one (suc n) (steps.earlier ++ seen) steps.later (Err why)).0
                  (subst (λ k. ChangesObject terms change tries (suc k) (steps.earlier ++ seen) steps.later (Err why)) here
                  steps.ends);
            },
          )
    ]

    -- the objects before were changed, and then one more is, or its change is refused
    one_more : (n : ℕ) (seen added : ChipHistory) (told : Written)
        → Then (λ s a. HaveChanged terms change tries n s a) (λ s a. ChangesObject terms change tries (suc n) s a told) seen added
        → ChangedSo (suc n) seen added told
    one_more n seen added (Ok done) steps = steps
    one_more n seen added (Err why) steps = (n, omega arith, steps)

    after_none : (seen added : ChipHistory) (told : Written) → added ≡ [] → told ≡ Ok tt → ChangedSo 0 seen added told
    after_none seen added told none is = subst (λ t. ChangedSo 0 seen added t) (sym is) none

    by_middle : (n : ℕ) (seen added : ChipHistory) (told middle : Written) (earlier rest : ChipHistory)
        → added ≡ rest ++ earlier → ChangedSo n seen earlier middle
        → Runs terms tries (later n middle) (earlier ++ seen) rest told → ChangedSo (suc n) seen added told
    by_middle n seen added told (Ok done) earlier rest whole before on = one_more n seen added told (record {
      earlier = earlier;
      later = rest;
      whole = whole;
      begins = before;
      ends = (changes_one (suc n) (earlier ++ seen) rest told).1 on;
    })
    by_middle n seen added told (Err why) earlier rest whole (m, less, steps) (none, is) =
        subst (λ t. ChangedSo (suc n) seen added t) (sym is) (
          m,
          omega (arith, less),
          subst (λ es. Then
              (λ s a. HaveChanged terms change tries m s a) (λ s a. ChangesObject terms change tries (suc m) s a (Err why)) seen es)
              (only_first added earlier rest whole none) steps,
        )

    of_each : (n : ℕ) (seen added : ChipHistory) (told : Written) → Each n seen added told → ChangedSo n seen added told
    of_each zero seen added told on = after_none seen added told on.0 on.1
    of_each (suc n) seen added told on =
        let (middle, steps) = of_later n seen added told on in
        by_middle n seen added told middle steps.earlier steps.later steps.whole (of_each n seen steps.earlier middle steps.begins)
        steps.ends

    by_told : (seen added : ChipHistory) (told : Written)
        → ChangesObjects terms change tries seen added told ↔ ChangedSo (objects_in terms.profile) seen added told
    by_told seen added (Ok done) = (λ h. h, λ h. h)
    by_told seen added (Err why) = (λ h. h, λ h. h)

    pub changes_all : (seen added : ChipHistory) (told : Written)
        → ChangesObjects terms change tries seen added told ↔ Runs terms tries (change_all terms change) seen added told
    changes_all seen added told =
        let same = by_told seen added told in (
          λ h. to_each (objects_in terms.profile) seen added told (same.0 h),
          λ h. same.1 (of_each (objects_in terms.profile) seen added told h),
        )
