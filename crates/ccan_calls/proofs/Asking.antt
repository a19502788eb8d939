-- The steps for which processes ask, one process after another, and of the calls of a thread.
use Rattle.std.proofs.Common.{◌≡◌, List, [], ◌∷◌, ◌++◌, refl, sym, ap, subst, ◌∙◌, append_assoc}
use Rattle.std.proofs.lemmas.List.{append-nil}
use Rattle.ccan_process.specs.Process.{Does, Ended, followed_by}
use Rattle.ccan_calls.specs.Answer.{Answer, CallProcess, Place}
use Rattle.ccan_calls.specs.DeviceSteps.{AsksFor, DeviceStep, device_steps}
use Rattle.ccan_calls.specs.Process.{Process, ending}
use Rattle.ccan_calls.specs.ThreadProcess.{AreAnswered, ThreadEnd, answered_first, thread_process}

abbrev Steps : Type 0
Steps = List DeviceStep

module _ {A B : Type 0} (next : A → Process B) where
  pub record InTurn (process : Process A) (steps : Steps) (result : B) : Type 0 where
    pub between : A
    pub first : Steps
    pub later : Steps
    pub whole : steps ≡ later ++ first
    pub begins : AsksFor process first between
    pub ends : AsksFor (next between) later result

  pub in_turn : (process : Process A) (steps : Steps) (result : B) → AsksFor (followed_by process next) steps result
      → InTurn process steps result
  in_turn (Ended end) steps result asks =
      record { between = end; first = []; later = steps; whole = sym (append-nil steps); begins = (refl, refl); ends = asks }
  in_turn (Does act goes) steps result (out, can, later, whole, asks) =
      let h = in_turn (goes out) later result asks in
      record {
        between = h.between;
        first = h.first ++ device_steps act out;
        later = h.later;
        whole = whole ∙ ap (λ (es : Steps). es ++ device_steps act out) h.whole
            ∙ append_assoc h.later h.first (device_steps act out);
        begins = (out, can, h.first, refl, h.begins);
        ends = h.ends;
      }

  pub of_turns : (process : Process A) (first later : Steps) (between : A) (result : B) → AsksFor process first between
      → AsksFor (next between) later result → AsksFor (followed_by process next) (later ++ first) result
  of_turns (Ended end) first later between result (none, is) ends =
      subst (λ es. AsksFor (next end) es result) (sym (append-nil later) ∙ ap (λ (es : Steps). later ++ es) (sym none))
      (subst (λ b. AsksFor (next b) later result) is ends)
  of_turns (Does act goes) first later between result (out, can, rest, whole, begins) ends = (
    out,
    can,
    later ++ rest,
    ap (λ (es : Steps). later ++ es) whole ∙ sym (append_assoc later rest (device_steps act out)),
    of_turns (goes out) rest later between result begins ends,
  )

-- with a result by what came of it
pub with_end : {A B : Type 0} (end : A → B) (process : Process A) (steps : Steps) (result : A) → AsksFor process steps result
    → AsksFor (ending process end) steps (end result)
with_end end process steps result asks =
    of_turns (λ r. Ended (end r)) process steps [] result (end result) asks (refl, refl)

pub of_end : {A B : Type 0} (end : A → B) (process : Process A) (steps : Steps) (last : B)
    → AsksFor (ending process end) steps last → (result : A) × AsksFor process steps result × (last ≡ end result)
of_end end process steps last asks =
    let h = in_turn (λ r. Ended (end r)) process steps last asks in
    let (none, is) = h.ends in (
      h.between,
      subst (λ es. AsksFor process es h.between) (sym (h.whole ∙ ap (λ (es : Steps). es ++ h.first) none)) h.begins,
      is,
    )

-- ---- the calls of a thread

module _ {Ask State : Type 0} (process : Ask → State → CallProcess State) where
  pub more_calls : (asks more : List Ask) (state between : State) (steps later : Steps) (answers others : List Answer)
      (end : State) → AsksFor (thread_process process asks state) steps (answers, between)
      → AsksFor (thread_process process more between) later (others, end)
      → AsksFor (thread_process process (asks ++ more) state) (later ++ steps) (answers ++ others, end)
  more_calls [] more state between steps later answers others end (none, is) next =
      subst (λ (r : List Answer). AsksFor (thread_process process more state) (later ++ steps) (r ++ others, end))
      (sym (ap (λ (e : ThreadEnd State). e.0) is))
      (subst (λ es. AsksFor (thread_process process more state) es (others, end))
      (sym (append-nil later) ∙ ap (λ (es : Steps). later ++ es) (sym none))
      (subst (λ s. AsksFor (thread_process process more s) later (others, end)) (ap (λ (e : ThreadEnd State). e.1) is) next))
  more_calls (ask ∷ asks) more state between steps later answers others end first next =
      let h = in_turn (λ one. ending (thread_process process asks one.1) (answered_first one.0)) (process ask state) steps
      (answers, between) first in
      let (rest, asks_rest, is) = of_end (answered_first h.between.0) (thread_process process asks h.between.1) h.later
      (answers, between) h.ends in
      let answers_are : answers ≡ h.between.0 ∷ rest.0 = ap (λ (e : ThreadEnd State). e.0) is in
      let state_is : rest.1 ≡ between = sym (ap (λ (e : ThreadEnd State). e.1) is) in
      let all = more_calls asks more h.between.1 between h.later later rest.0 others end
      (subst (λ s. AsksFor (thread_process process asks h.between.1) h.later (rest.0, s)) state_is asks_rest) next in
      subst (λ (r : List Answer). AsksFor (thread_process process (ask ∷ (asks ++ more)) state) (later ++ steps)
      (r ++ others, end)) (sym answers_are)
      (subst (λ es. AsksFor (thread_process process (ask ∷ (asks ++ more)) state) es (h.between.0 ∷ (rest.0 ++ others), end))
      (append_assoc later h.later h.first ∙ ap (λ (es : Steps). later ++ es) (sym h.whole))
      (of_turns (λ one. ending (thread_process process (asks ++ more) one.1) (answered_first one.0)) (process ask state)
      h.first (later ++ h.later) h.between (h.between.0 ∷ (rest.0 ++ others), end) h.begins
      (with_end (answered_first h.between.0) (thread_process process (asks ++ more) h.between.1) (later ++ h.later)
      (rest.0 ++ others, end) all)))

pub more_answered : {Call : Type 0} (code : Call → _) (place : Call → Place) (calls more : List Call) (answers others : List Answer)
    → AreAnswered code place calls answers → AreAnswered code place more others
    → AreAnswered code place (calls ++ more) (answers ++ others)
more_answered code place [] more [] others first second = second
more_answered code place [] more (answer ∷ answers) others first second = absurd first
more_answered code place (call ∷ calls) more [] others first second = absurd first
more_answered code place (call ∷ calls) more (answer ∷ answers) others (got, first) second =
    (got, more_answered code place calls more answers others first second)
