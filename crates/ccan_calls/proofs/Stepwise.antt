-- Step by step a port comes to the end of a process in exactly the ways in which it runs it as a whole.
use Rattle.std.proofs.Common.{ℕ, ◌≡◌, ◌↔◌, ◌⊎◌, inl, inr, Bool, true, false, [], ◌∷◌, ◌++◌, refl, sym, ap, subst, ◌∙◌, append_assoc, if◌then◌else◌}
use Rattle.std.proofs.lemmas.List.{append-nil, append_cancel_right}
use Rattle.ccan_ram.specs.declared.port.PortName.{PortName}
use Rattle.ccan_ram.specs.Port.{same_port}
use Rattle.ccan_ram.specs.Terms.{Terms}
use Rattle.ccan_process.specs.Process.{Does, Ended}
use Rattle.ccan_endless.specs.declared.chip.ChipEvent.{ChipEvent}
use Rattle.ccan_endless.specs.Chip.{ChipHistory}
use Rattle.ccan_c.specs.Step.{own_of, port_of_event}
use Rattle.ccan_calls.specs.Process.{Act, Out, Process}
use Rattle.ccan_calls.specs.Runs.{Acted, Runs}
use Rattle.ccan_calls.specs.Stage.{AfterEnd, Began, ByEnd, ByEvent, HasDone, IsEventOf, Stage, StandsAt}
use Rattle.ccan_calls.proofs.Finding.{Has, has_second}
use Rattle.ccan_calls.proofs.OwnSteps.{cons_not_nil, steps_of_act}
use Rattle.ccan_calls.proofs.Parting.{nothing_of, same_first, same_rest}

-- ---- events of others

abbrev counted : Bool → PortName → ChipEvent → ChipHistory → ChipHistory
counted own port event rest = if own then event ∷ own_of port rest else own_of port rest

other_first : (own : Bool) (port : PortName) (event : ChipEvent) (rest : ChipHistory) → counted own port event rest ≡ []
    → (own ≡ false) × (own_of port rest ≡ [])
other_first true port event rest none = absurd (cons_not_nil event (own_of port rest) none)
other_first false port event rest none = (refl, none)

pub no_own_first : (port : PortName) (event : ChipEvent) (rest : ChipHistory) → own_of port (event ∷ rest) ≡ []
    → (same_port (port_of_event event) port ≡ false) × (own_of port rest ≡ [])
no_own_first port event rest none = other_first (same_port (port_of_event event) port) port event rest none

no_own_second : (port : PortName) (later rest : ChipHistory) → own_of port (later ++ rest) ≡ [] → own_of port rest ≡ []
no_own_second port [] rest none = none
no_own_second port (event ∷ later) rest none =
    no_own_second port later rest (no_own_first port event (later ++ rest) none).1

own_of_other : (port : PortName) (event : ChipEvent) (rest : ChipHistory) → same_port (port_of_event event) port ≡ false
    → own_of port (event ∷ rest) ≡ own_of port rest
own_of_other port event rest other = ap (λ own. counted own port event rest) other

-- ---- two splits of one list

-- the second part of one split is within the second part of the other, or goes beyond it
abbrev TwoSplits : ChipHistory → ChipHistory → ChipHistory → ChipHistory → Type 0
TwoSplits later part rest first =
    ((more : ChipHistory) × (first ≡ more ++ part))
    ⊎ ((more : ChipHistory) × (part ≡ more ++ first) × (rest ≡ later ++ more))

one_longer : (x y : ChipEvent) (later part rest first : ChipHistory) → x ∷ (later ++ part) ≡ y ∷ (rest ++ first)
    → TwoSplits later part rest first → TwoSplits (x ∷ later) part (y ∷ rest) first
one_longer x y later part rest first is (inl within) = inl within
one_longer x y later part rest first is (inr (more, longer, rest_is)) =
    inr (
      more,
      longer,
      ap (λ z. z ∷ rest) (sym (same_first x y (later ++ part) (rest ++ first) is))
          ∙ ap (λ (l : ChipHistory). x ∷ l) rest_is,
    )

two_splits : (later part rest first : ChipHistory) → later ++ part ≡ rest ++ first → TwoSplits later part rest first
two_splits [] part rest first is = inr (rest, is, refl)
two_splits (x ∷ later) part [] first is = inl (x ∷ later, sym is)
two_splits (x ∷ later) part (y ∷ rest) first is =
    one_longer x y later part rest first is
    (two_splits later part rest first (same_rest x y (later ++ part) (rest ++ first) is))

nothing_second : (later part : ChipHistory) → later ++ part ≡ [] → part ≡ []
nothing_second later part is = (nothing_of later part is).1

module _ {A : Type 0} (terms : Terms) (tries : ℕ) (process : Process A) (begun : ChipHistory) where
  abbrev Stands : ChipHistory → Stage A → Type 0
  Stands history stage = StandsAt terms tries process begun history stage

  abbrev stage_of : Process A → ChipHistory → Stage A
  stage_of left seen = record { left = left; seen = seen }

  -- ---- to the steps

  module _ (act : Act) (next : Out act → Process A) (seen added : ChipHistory) (out : Out act)
      (acted : Acted terms tries act seen added out) (start : Stands seen (stage_of (Does act next) seen)) where
    -- what came since the act began
    abbrev IsSoFar : ChipHistory → Type 0
    IsSoFar part = Stands (part ++ seen) (stage_of (Does act next) seen)

    its_event : (own : Bool) (event : ChipEvent) → same_port (port_of_event event) terms.port ≡ own → Has event added
        → IsEventOf terms.port act event
    its_event true event is has = inl (steps_of_act terms tries act seen added out acted event has is)
    its_event false event is has = inr is

    so_far : (part later : ChipHistory) → added ≡ later ++ part → IsSoFar part
    so_far [] later whole = start
    so_far (event ∷ part) later whole =
        ByEvent act next seen part event
        (so_far part (later ++ (event ∷ [])) (whole ∙ sym (append_assoc later (event ∷ []) part)))
        (its_event (same_port (port_of_event event) terms.port) event refl
        (subst (Has event) (sym whole) (has_second event later (event ∷ part) (inl refl))))
        (record { later = later; out = out; acted = subst (λ es. Acted terms tries act seen es out) whole acted })

    act_done : Stands (added ++ seen) (stage_of (next out) (added ++ seen))
    act_done = ByEnd act next seen added out (so_far added [] refl) acted

  goes_on : (left : Process A) (seen added : ChipHistory) (result : A) → Stands seen (stage_of left seen)
      → Runs terms tries left seen added result → Stands (added ++ seen) (stage_of (Ended result) (added ++ seen))
  goes_on (Ended end) seen added result stands (none, is) =
      subst (λ es. Stands (es ++ seen) (stage_of (Ended result) (es ++ seen))) (sym none)
      (subst (λ e. Stands seen (stage_of (Ended e) seen)) (sym is) stands)
  goes_on (Does act next) seen added result stands (out, steps) =
      let here = act_done act next seen steps.earlier out steps.begins stands in
      subst (λ es. Stands es (stage_of (Ended result) es))
      (sym (append_assoc steps.later steps.earlier seen) ∙ ap (λ es. es ++ seen) (sym steps.whole))
      (goes_on (next out) (steps.earlier ++ seen) steps.later result here steps.ends)

  to_end : (added : ChipHistory) (result : A) → Runs terms tries process begun added result
      → Stands (added ++ begun) (stage_of (Ended result) (added ++ begun))
  to_end added result on = goes_on process begun added result Began on

  -- and then others go on
  others_on : (result : A) (seen more : ChipHistory) → own_of terms.port more ≡ [] → Stands seen (stage_of (Ended result) seen)
      → Stands (more ++ seen) (stage_of (Ended result) seen)
  others_on result seen [] none stands = stands
  others_on result seen (event ∷ more) none stands =
      let (other, rest) = no_own_first terms.port event more none in
      AfterEnd result seen more event other (others_on result seen more rest stands)

  to_steps : (seen history : ChipHistory) (result : A) → HasDone terms tries process begun seen history result
      → Stands history (stage_of (Ended result) seen)
  to_steps seen history result h =
      subst (λ es. Stands es (stage_of (Ended result) seen)) (sym h.whole)
      (others_on result seen h.more h.others
      (subst (λ es. Stands es (stage_of (Ended result) es)) (sym h.is_seen) (to_end h.added result h.ran)))

  -- ---- and back

  -- the part of the history that is done, after which whatever runs what is left makes a run of the whole
  record Comes (stage : Stage A) : Type 0 where
    pub done : ChipHistory
    pub is : stage.seen ≡ done ++ begun
    pub onward : (later : ChipHistory) (result : A) → Runs terms tries stage.left stage.seen later result
        → Runs terms tries process begun (later ++ done) result

  act_comes : (act : Act) (next : Out act → Process A) (seen part : ChipHistory) (out : Out act)
      → Comes (stage_of (Does act next) seen) → Acted terms tries act seen part out
      → Comes (stage_of (next out) (part ++ seen))
  act_comes act next seen part out c acted = record {
    done = part ++ c.done;
    is = ap (λ es. part ++ es) c.is ∙ sym (append_assoc part c.done begun);
    onward = λ later result ran.
        subst (λ es. Runs terms tries process begun es result) (append_assoc later part c.done)
        (c.onward (later ++ part) result
        (out, record { earlier = part; later = later; whole = refl; begins = acted; ends = ran }));
  }

  comes : (history : ChipHistory) (stage : Stage A) → Stands history stage → Comes stage
  comes history stage Began = record {
    done = [];
    is = refl;
    onward = λ later result ran. subst (λ es. Runs terms tries process begun es result) (sym (append-nil later)) ran;
  }
  comes history stage (ByEvent act next seen part event stands is begins) =
      comes (part ++ seen) (stage_of (Does act next) seen) stands
  comes history stage (ByEnd act next seen part out stands acted) =
      act_comes act next seen part out (comes (part ++ seen) (stage_of (Does act next) seen) stands) acted
  comes history stage (AfterEnd end seen part event other stands) =
      comes (part ++ seen) (stage_of (Ended end) seen) stands

  -- what came after the end of the process, if it has ended
  record IsOver (seen history : ChipHistory) : Type 0 where
    pub more : ChipHistory
    pub whole : history ≡ more ++ seen
    pub others : own_of terms.port more ≡ []

  abbrev Over : Process A → ChipHistory → ChipHistory → Type 0
  Over (Ended result) seen history = IsOver seen history
  Over (Does act next) seen history = Unit {0}

  just_over : (left : Process A) (seen : ChipHistory) → Over left seen seen
  just_over (Ended result) seen = record { more = []; whole = refl; others = refl }
  just_over (Does act next) seen = tt

  one_more : (seen history : ChipHistory) (event : ChipEvent) → same_port (port_of_event event) terms.port ≡ false
      → IsOver seen history → IsOver seen (event ∷ history)
  one_more seen history event other over = record {
    more = event ∷ over.more;
    whole = ap (λ (es : ChipHistory). event ∷ es) over.whole;
    others = own_of_other terms.port event over.more other ∙ over.others;
  }

  over_at : (history : ChipHistory) (stage : Stage A) → Stands history stage → Over stage.left stage.seen history
  over_at history stage Began = just_over process begun
  over_at history stage (ByEvent act next seen part event stands is begins) = tt
  over_at history stage (ByEnd act next seen part out stands acted) = just_over (next out) (part ++ seen)
  over_at history stage (AfterEnd end seen part event other stands) =
      one_more seen (part ++ seen) event other (over_at (part ++ seen) (stage_of (Ended end) seen) stands)

  of_steps : (seen history : ChipHistory) (result : A) → Stands history (stage_of (Ended result) seen)
      → HasDone terms tries process begun seen history result
  of_steps seen history result stands =
      let c = comes history (stage_of (Ended result) seen) stands in
      let over = over_at history (stage_of (Ended result) seen) stands in
      record {
        added = c.done;
        is_seen = c.is;
        ran = c.onward [] result (refl, refl);
        more = over.more;
        whole = over.whole;
        others = over.others;
      }

  pub steps_are_all : (seen history : ChipHistory) (result : A) → HasDone terms tries process begun seen history result
      ↔ Stands history (stage_of (Ended result) seen)
  steps_are_all seen history result = (to_steps seen history result, of_steps seen history result)

  -- ---- at each moment

  -- after the part of a run that comes first the port stands somewhere
  abbrev StandsSomewhere : ChipHistory → Type 0
  StandsSomewhere history = (stage : Stage A) × Stands history stage

  at_moment : (left : Process A) (seen whole part later : ChipHistory) (result : A) → whole ≡ later ++ part
      → Stands seen (stage_of left seen) → Runs terms tries left seen whole result → StandsSomewhere (part ++ seen)
  at_moment (Ended end) seen whole part later result split stands (none, is) =
      let nothing = nothing_second later part (sym split ∙ none) in
      (stage_of (Ended end) seen, subst (λ es. Stands (es ++ seen) (stage_of (Ended end) seen)) (sym nothing) stands)
  at_moment (Does act next) seen whole part later result split stands (out, steps) =
      elim (two_splits later part steps.later steps.earlier (sym split ∙ steps.whole)) [
        | inl within ↦
            let (more, is) = within in
            (stage_of (Does act next) seen, so_far act next seen steps.earlier out steps.begins stands part more is)
        | inr beyond ↦
            let (more, is, rest) = beyond in
            let (stage, there) = at_moment (next out) (steps.earlier ++ seen) steps.later more later result rest
            (act_done act next seen steps.earlier out steps.begins stands) steps.ends in (
              stage,
              subst (λ es. Stands es stage)
                  (sym (append_assoc more steps.earlier seen) ∙ ap (λ es. es ++ seen) (sym is)) there,
            )
      ]

  pub stands_somewhere : (part later seen : ChipHistory) (result : A)
      → HasDone terms tries process begun seen (later ++ (part ++ begun)) result → StandsSomewhere (part ++ begun)
  stands_somewhere part later seen result h =
      let split : later ++ part ≡ h.more ++ h.added = append_cancel_right (later ++ part) (h.more ++ h.added) begun
      (append_assoc later part begun ∙ h.whole ∙ ap (λ es. h.more ++ es) h.is_seen ∙ sym (append_assoc h.more h.added begun)) in
      elim (two_splits later part h.more h.added split) [
        | inl within ↦ at_moment process begun h.added part within.0 result within.1 Began h.ran
        | inr beyond ↦
            let (rest, is, more_is) = beyond in
            let none = no_own_second terms.port later rest (ap (own_of terms.port) (sym more_is) ∙ h.others) in (
              stage_of (Ended result) (h.added ++ begun),
              subst (λ es. Stands es (stage_of (Ended result) (h.added ++ begun)))
                  (sym (append_assoc rest h.added begun) ∙ ap (λ es. es ++ begun) (sym is))
                  (others_on result (h.added ++ begun) rest none (to_end h.added result h.ran)),
            )
      ]
