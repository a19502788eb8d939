-- What a process runs to, part by part.
use Rattle.std.proofs.Common.{ℕ, ◌≡◌, ◌↔◌, Bool, true, false, Option, Some, None, [], ◌++◌, refl, sym, ap, subst, ◌∙◌, append_assoc, if◌then◌else◌}
use Rattle.std.specs.Prelude.{MatchBool, MatchOption}
use Rattle.std.specs.Option.{option_map_or}
use Rattle.std.proofs.lemmas.List.{append-nil}
use Rattle.ccan_ram.specs.Terms.{Terms}
use Rattle.ccan_process.specs.Process.{Does, Ended, followed_by}
use Rattle.ccan_endless.specs.Chip.{ChipHistory}
use Rattle.ccan_registers.specs.ChipSteps.{Then}
use Rattle.ccan_calls.specs.Process.{Act, Out, Process, ending}
use Rattle.ccan_calls.specs.Runs.{Acted, Runs}

-- what was added is the earlier part of it, if there is no later one
pub only_first : (added earlier later : ChipHistory) → added ≡ later ++ earlier → later ≡ [] → earlier ≡ added
only_first added earlier later whole none = sym (whole ∙ ap (λ es. es ++ earlier) none)

-- what comes after nothing is all
pub after_none : (what : ChipHistory → ChipHistory → Type 0) (seen added earlier later : ChipHistory) → added ≡ later ++ earlier
    → earlier ≡ [] → what (earlier ++ seen) later → what seen added
after_none what seen added earlier later whole none so =
    let same : later ≡ added = sym (whole ∙ ap (λ es. later ++ es) none ∙ append-nil later) in
    subst (λ es. what seen es) same (subst (λ es. what (es ++ seen) later) none so)

module _ {A : Type 0} (terms : Terms) (tries : ℕ) where
  -- one act, which is all
  pub one_act : (act : Act) (end : Out act → A) (seen added : ChipHistory) (result : A)
      → Runs terms tries (Does act (λ out. Ended (end out))) seen added result
      ↔ ((out : Out act) × Acted terms tries act seen added out × (result ≡ end out))
  one_act act end seen added result = (
    λ h.
        let (out, steps) = h in (
          out,
          subst (λ es. Acted terms tries act seen es out)
              (only_first added steps.earlier steps.later steps.whole steps.ends.0) steps.begins,
          steps.ends.1,
        ),
    λ h.
        let (out, acted, is) = h in
        (out, record { earlier = added; later = []; whole = refl; begins = acted; ends = (refl, is) }),
  )

-- a process, and then another by what came of it
module _ {A B : Type 0} (terms : Terms) (tries : ℕ) (next : A → Process B) where
  abbrev pub Follows : Process A → ChipHistory → ChipHistory → B → Type 0
  Follows process seen added result =
      (middle : A)
      × Then (λ s a. Runs terms tries process s a middle) (λ s a. Runs terms tries (next middle) s a result) seen added

  pub follows : (process : Process A) (seen added : ChipHistory) (result : B)
      → Runs terms tries (followed_by process next) seen added result → Follows process seen added result
  follows (Ended end) seen added result on =
      (end, record { earlier = []; later = added; whole = sym (append-nil added); begins = (refl, refl); ends = on })
  follows (Does act on_from) seen added result (out, steps) =
      let (middle, rest) = follows (on_from out) (steps.earlier ++ seen) steps.later result steps.ends in (
        middle,
        record {
          earlier = rest.earlier ++ steps.earlier;
          later = rest.later;
          whole = steps.whole ∙ ap (λ es. es ++ steps.earlier) rest.whole ∙ append_assoc rest.later rest.earlier steps.earlier;
          begins = (
            out,
            record {
              earlier = steps.earlier;
              later = rest.earlier;
              whole = refl;
              begins = steps.begins;
              ends = rest.begins;
            },
          );
          ends = subst (λ es. Runs terms tries (next middle) es rest.later result)
              (sym (append_assoc rest.earlier steps.earlier seen)) rest.ends;
        },
      )

  pub follow : (process : Process A) (seen added : ChipHistory) (result : B) → Follows process seen added result
      → Runs terms tries (followed_by process next) seen added result
  follow (Ended end) seen added result (middle, steps) =
      let (none, is) = steps.begins in
      let same : steps.later ≡ added =
      sym (steps.whole ∙ ap (λ es. steps.later ++ es) none ∙ append-nil steps.later) in
      subst (λ es. Runs terms tries (next end) seen es result) same
      (subst (λ es. Runs terms tries (next end) (es ++ seen) steps.later result) none
      (subst (λ m. Runs terms tries (next m) (steps.earlier ++ seen) steps.later result) is steps.ends))
  follow (Does act on_from) seen added result (middle, steps) =
      let (out, first) = steps.begins in (
        out,
        record {
          earlier = first.earlier;
          later = steps.later ++ first.later;
          whole = steps.whole ∙ ap (λ es. steps.later ++ es) first.whole
              ∙ sym (append_assoc steps.later first.later first.earlier);
          begins = first.begins;
          ends = follow (on_from out) (first.earlier ++ seen) (steps.later ++ first.later) result (
            middle,
            record {
              earlier = first.later;
              later = steps.later;
              whole = refl;
              begins = first.ends;
              ends = subst (λ es. Runs terms tries (next middle) es steps.later result)
                  (ap (λ es. es ++ seen) first.whole ∙ append_assoc first.later first.earlier seen) steps.ends;
            },
          );
        },
      )

-- a process, and a result by what came of it
module _ {A B : Type 0} (terms : Terms) (tries : ℕ) (end : A → B) (process : Process A) (seen added : ChipHistory)
    (result : B) where
  pub ends_so : Runs terms tries (ending process end) seen added result
      ↔ ((middle : A) × Runs terms tries process seen added middle × (result ≡ end middle))
  ends_so = (
    λ h.
        let (middle, steps) = follows terms tries (λ m. Ended (end m)) process seen added result h in (
          middle,
          subst (λ es. Runs terms tries process seen es middle)
              (only_first added steps.earlier steps.later steps.whole steps.ends.0) steps.begins,
          steps.ends.1,
        ),
    λ h.
        let (middle, on, is) = h in
        follow terms tries (λ m. Ended (end m)) process seen added result
        (middle, record { earlier = added; later = []; whole = refl; begins = on; ends = (refl, is) }),
  )

-- by a case
module _ {A : Type 0} (terms : Terms) (tries : ℕ) (seen added : ChipHistory) (result : A) where
  pub chosen : (b : Bool) (P Q : Type 0) (one other : Process A) → P ↔ Runs terms tries one seen added result
      → Q ↔ Runs terms tries other seen added result
      → MatchBool b P Q ↔ Runs terms tries (if b then one else other) seen added result
  chosen true P Q one other p q = p
  chosen false P Q one other p q = q

  pub picked : {X : Type 0} (o : Option X) (P : Type 0) (Q : X → Type 0) (none : Process A) (some : X → Process A)
      → P ↔ Runs terms tries none seen added result → ((x : X) → Q x ↔ Runs terms tries (some x) seen added result)
      → MatchOption o P Q ↔ Runs terms tries (option_map_or some o none) seen added result
  picked None P Q none some p q = p
  picked (Some x) P Q none some p q = q x

-- ---- parts put together

pub ending_twice : {A B C : Type 0} (process : Process A) (one : A → B) (other : B → C)
    → ending (ending process one) other ≡ ending process (λ x. other (one x))
ending_twice (Ended result) one other = refl
ending_twice (Does act next) one other = λ i. Does act (λ out. ending_twice (next out) one other i)

pub follow_ending : {A B C : Type 0} (process : Process A) (one : A → B) (next : B → Process C)
    → followed_by (ending process one) next ≡ followed_by process (λ x. next (one x))
follow_ending (Ended result) one next = refl
follow_ending (Does act on_from) one next = λ i. Does act (λ out. follow_ending (on_from out) one next i)

pub ending_follow : {A B C : Type 0} (process : Process A) (next : A → Process B) (other : B → C)
    → ending (followed_by process next) other ≡ followed_by process (λ x. ending (next x) other)
ending_follow (Ended result) next other = refl
ending_follow (Does act on_from) next other = λ i. Does act (λ out. ending_follow (on_from out) next other i)

pub follow_twice : {A B C : Type 0} (process : Process A) (one : A → Process B) (other : B → Process C)
    → followed_by (followed_by process one) other ≡ followed_by process (λ x. followed_by (one x) other)
follow_twice (Ended result) one other = refl
follow_twice (Does act next) one other = λ i. Does act (λ out. follow_twice (next out) one other i)

pub ending_same : {A : Type 0} (process : Process A) → ending process (λ x. x) ≡ process
ending_same (Ended result) = refl
ending_same (Does act next) = λ i. Does act (λ out. ending_same (next out) i)
