-- Lines, one after another.
use Rattle.std.proofs.Common.{ℕ, zero, suc, ◌≡◌, ◌≤◌, ◌+◌, Bool, true, List, [], ◌∷◌, ◌++◌, refl, sym, ap, subst, ◌∙◌}
use Rattle.std.proofs.Common.{append_assoc, arith, length, take}
use Rattle.std.specs.Prelude.{Option}
use Rattle.std.proofs.lemmas.List.{append-nil}
use Rattle.std.proofs.lemmas.Grind.{common_steps}
use Rattle.ccan_ram.specs.declared.port.PortName.{PortName}
use Rattle.ccan_ram.specs.declared.event.Event.{Event}
use Rattle.ccan_ram.specs.Terms.{Terms}
use Rattle.ccan_ram.specs.Access.{Passes, Goes}
use Rattle.ccan_ram.proofs.Calls.{Goes-then, Goes-weaker}
use Rattle.ccan_line.specs.Side.{GoesOn}
use Rattle.ccan_line.specs.declared.line_answer.LineAnswer.{LineAnswer}
use Rattle.ccan_line.specs.Gate.{LetsRun, ran}
use Rattle.ccan_line.specs.Lines.{LinesMean, Run}

module _ {Gate : Type 0} (enters : Gate → PortName → List LineAnswer → Bool → Gate → Type 0) (port : PortName)
    (answers : List LineAnswer) (answer : LineAnswer) where
  first_ones : (n : ℕ) → n ≤ length answers → take n (answers ++ answer ∷ []) ≡ take n answers
  first_ones n less = grind (arith, common_steps)

  -- with one more answer the gate was asked the same before
  lets_same : (n : ℕ) (old new : Gate) → n ≤ length answers → LetsRun enters port answers n old new
      → LetsRun enters port (answers ++ answer ∷ []) n old new
  lets_same zero old new less let_run = let_run
  lets_same (suc n) old new less (between, before, last) = (
    between,
    lets_same n old between (omega (arith, less)) before,
    subst (λ (shown : List LineAnswer). enters between port shown true new) (sym (first_ones n (omega (arith, less)))) last,
  )

  -- and it let one more line run
  pub LetsRun-more : (n : ℕ) (more shown : List LineAnswer) (said : Bool) (old between new : Gate) → length answers ≡ n
      → more ≡ answers ++ answer ∷ [] → LetsRun enters port answers n old between → shown ≡ answers → said ≡ true
      → enters between port shown said new → LetsRun enters port more (n + 1) old new
  LetsRun-more n more shown said old between new counted is before same so last =
      let all : take n (answers ++ answer ∷ []) ≡ answers = grind (arith, common_steps) in
      let entered = subst (λ (b : Bool). enters between port shown b new) so last in
      let there : LetsRun enters port (answers ++ answer ∷ []) (suc n) old new = (
        between,
        lets_same n old between (omega (arith, counted)) before,
        subst (λ (l : List LineAnswer). enters between port l true new) (same ∙ sym all) entered,
      ) in
      let next : suc n ≡ n + 1 = omega arith in
      subst (λ (k : ℕ). LetsRun enters port more k old new) next
      (subst (λ (l : List LineAnswer). LetsRun enters port l (suc n) old new) (sym is) there)

pub GoesOn-then : {State Value : Type 0} {led_to : State → Value → Type 0} {x y z : Value} {first second both : State → State
    → Type 0}
    → GoesOn led_to x y first → GoesOn led_to y z second
    → ((state between left : State) → first state between → second between left → both state left)
    → GoesOn led_to x z both
GoesOn-then f g join =
    record { each = λ state led. let a = f.each state led in let b = g.each a.0 a.1 in (b.0, b.1, join state a.0 b.0 a.2 b.2) }

module _ {Line State Answer : Type 0} (means : Line → State → List Event → List Event → Answer → State → Type 0) where
  -- a line after others
  pub LinesMean-push : (lines : List Line) (line : Line) (state between left : State) (seen xs ys : List Event)
      (answers : List Answer) (answer : Answer)
      → LinesMean means lines state seen xs answers between → means line between (xs ++ seen) ys answer left
      → LinesMean means (lines ++ line ∷ []) state seen (ys ++ xs) (answers ++ answer ∷ []) left
  LinesMean-push [] line state between left seen xs ys answers answer r m =
      let here = subst (λ zs. means line between zs ys answer left) (ap (λ zs. zs ++ seen) r.0) m in (
        [],
        ys,
        answer,
        [],
        left,
        ap (λ zs. ys ++ zs) r.0 ∙ append-nil ys,
        ap (λ zs. zs ++ answer ∷ []) r.1,
        subst (λ (b : State). means line b seen ys answer left) r.2 here,
        (refl, refl, refl),
      )
  LinesMean-push (l ∷ ls) line state between left seen xs ys answers answer
      (later, first, a, more, mid, whole, all, told, rest) m =
      let here = subst (λ zs. means line between zs ys answer left)
      (ap (λ zs. zs ++ seen) whole ∙ append_assoc later first seen) m in (
        ys ++ later,
        first,
        a,
        more ++ answer ∷ [],
        mid,
        ap (λ zs. ys ++ zs) whole ∙ sym (append_assoc ys later first),
        ap (λ zs. zs ++ answer ∷ []) all,
        told,
        LinesMean-push ls line mid between left (first ++ seen) later ys more answer rest here,
      )

module _ {Line State Answer Value : Type 0} (led_to : State → Value → Type 0)
    (means : Terms → Line → State → List Event → List Event → Answer → State → Type 0) where
  -- one more line of a run
  pub runs_more : {x y z : Passes} {a b c : Value} (lines : List Line) (line : Line) (answers answers' : List Answer)
      (answer : Answer) (lines' : List Line)
      → lines' ≡ lines ++ line ∷ [] → answers' ≡ answers ++ answer ∷ []
      → Goes x y (λ terms seen added. GoesOn led_to a b
      (λ state left. LinesMean (means terms) lines state seen added answers left))
      → Goes y z (λ terms seen added. GoesOn led_to b c (λ state left. means terms line state seen added answer left))
      → Goes x z (λ terms seen added. GoesOn led_to a c
      (λ state left. LinesMean (means terms) lines' state seen added answers' left))
  runs_more {x} lines line answers answers' answer lines' all told runs more =
      rw (all, told) (Goes-then runs more (λ seen xs ys f g. GoesOn-then f g
      (λ state between left r m. LinesMean-push (means x.terms) lines line state between left seen xs ys answers answer r m)))

  -- the lines from this state on
  pub runs_from : {x y : Passes} {a b : Value} (lines : List Line) (answers : List Answer) (start : State) → led_to start a
      → Goes x y (λ terms seen added. GoesOn led_to a b
      (λ state left. LinesMean (means terms) lines state seen added answers left))
      → Goes x y (λ terms seen added. Run (means terms) start lines seen added answers)
  runs_from lines answers start led runs = Goes-weaker runs (λ seen added _ _ f. let r = f.each start led in (r.0, r.2))

-- a value that is its own state goes on to the value that it is then
pub of_equal : {Value : Type 0} {old new : Value} {what : Value → Value → Type 0} → what old new
    → GoesOn (λ state value. state ≡ value) old new what
of_equal {new = new} {what = what} h = record { each = λ state is. (new, refl, subst (λ s. what s new) (sym is) h) }

-- the same lines, under another name, as far as they ran
pub same_lines : {Line State Answer : Type 0} {x y : Passes}
    (means : Terms → Line → State → List Event → List Event → Answer → State → Type 0)
    (start : State) (stop : Option ℕ) (lines lines' : List Line) (answers : List Answer) → lines ≡ lines'
    → Goes x y (λ terms seen added. Run (means terms) start (ran stop lines) seen added answers)
    → Goes x y (λ terms seen added. Run (means terms) start (ran stop lines') seen added answers)
same_lines {x = x} {y = y} means start stop lines lines' answers is h =
    subst (λ zs. Goes x y (λ terms seen added. Run (means terms) start (ran stop zs) seen added answers)) is h
