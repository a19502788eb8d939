-- What the acts of a line add, one after another.
use Rattle.std.proofs.Common.{ℕ, ◌≡◌, List, [], ◌++◌, Result, refl, sym, subst, append_assoc}
use Rattle.std.proofs.lemmas.List.{append-nil}
use Rattle.ccan_object.specs.declared.record.Record.{Record}
use Rattle.ccan_ram.specs.declared.change.Change.{Change}
use Rattle.ccan_ram.specs.declared.change.Changed.{Changed}
use Rattle.ccan_ram.specs.declared.change.Refused.{Refused}
use Rattle.ccan_ram.specs.declared.event.Event.{Event}
use Rattle.ccan_ram.specs.Attempt.{IsLook, Attempt}
use Rattle.ccan_ram.specs.Terms.{Terms}
use Rattle.ccan_line.specs.declared.next_act.NextAct.TheVariants as kind
use Rattle.ccan_line.specs.declared.course.Course.{Course}
use Rattle.ccan_line.specs.declared.course.Course.TheVariants as at
use Rattle.ccan_process.specs.Process.{Ended, Does}
use Rattle.ccan_process.specs.Act.{Process, Runs, Looks, Attempts, DecidesRound, attempted}
use Rattle.ccan_line.specs.Engine.{Asks, CourseIs, course_rest, DecidesTo, Leads, after_look, after_attempt}

module _ {A : Type 0} (terms : Terms) (tries : ℕ) where
  pub leads_none : (process left : Process A) (seen : List Event) → process ≡ left → Leads terms tries process left seen []
  leads_none process left seen is later result on =
      subst (λ es. Runs terms tries process seen es result) (sym (append-nil later))
      (subst (λ p. Runs terms tries p seen later result) (sym is) on)

  pub leads_both : (process between left : Process A) (seen xs ys : List Event)
      → Leads terms tries process between seen xs → Leads terms tries between left (xs ++ seen) ys
      → Leads terms tries process left seen (ys ++ xs)
  leads_both process between left seen xs ys one other later result on =
      subst (λ es. Runs terms tries process seen es result) (append_assoc later ys xs)
      (one (later ++ ys) result
      (other later result (subst (λ es. Runs terms tries left es later result) (append_assoc ys xs seen) on)))

  -- a process that leads to its end runs to it
  pub leads_ended : (process : Process A) (end : A) (seen added : List Event) → Leads terms tries process (Ended end) seen added
      → Runs terms tries process seen added end
  leads_ended process end seen added leads = leads [] end (refl, refl)

  pub leads_look : (process left : Process A) (object : ℕ) (shown : Record) (seen looked : List Event)
      → Asks process (kind.Look object) → after_look shown process ≡ left → IsLook terms object shown looked
      → Leads terms tries process left seen looked
  leads_look (Ended end) left object shown seen looked asks is look = absurd asks
  leads_look (Does (Attempts at change) next) left object shown seen looked asks is look = absurd asks
  leads_look (Does (DecidesRound line past) next) left object shown seen looked asks is look = absurd asks
  leads_look (Does (Looks at) next) left object shown seen looked asks is look = λ later result on. (
    shown,
    looked,
    later,
    refl,
    subst (λ (k : ℕ). IsLook terms k shown looked) (sym asks) look,
    subst (λ p. Runs terms tries p (looked ++ seen) later result) (sym is) on,
  )

  pub leads_attempt : (process left : Process A) (object : ℕ) (change : Change) (outcome : Result Changed Refused)
      (seen tried : List Event)
      → Asks process (kind.Attempt object change) → after_attempt (attempted outcome) process ≡ left
      → Attempt terms object change tries seen tried outcome → Leads terms tries process left seen tried
  leads_attempt (Ended end) left object change outcome seen tried asks is attempt = absurd asks
  leads_attempt (Does (Looks at) next) left object change outcome seen tried asks is attempt = absurd asks
  leads_attempt (Does (DecidesRound line past) next) left object change outcome seen tried asks is attempt = absurd asks
  leads_attempt (Does (Attempts at made) next) left object change outcome seen tried (same, made_is) is attempt =
      λ later result on. (
        attempted outcome,
        tried,
        later,
        refl,
        (
          outcome,
          subst (λ (k : ℕ). Attempt terms k made tries seen tried outcome) (sym same)
              (subst (λ (m : Change). Attempt terms object m tries seen tried outcome) (sym made_is) attempt),
          refl,
        ),
        subst (λ p. Runs terms tries p (tried ++ seen) later result) (sym is) on,
      )

  pub leads_decision : (process left : Process A) (seen : List Event) → DecidesTo process left
      → Leads terms tries process left seen []
  leads_decision (Ended end) left seen decides = absurd decides
  leads_decision (Does (Looks at) next) left seen decides = absurd decides
  leads_decision (Does (Attempts at change) next) left seen decides = absurd decides
  leads_decision (Does (DecidesRound line past) next) left seen (after, decision, decides, is) = λ later result on. (
    (after, decision),
    [],
    later,
    refl,
    (refl, decides),
    subst (λ p. Runs terms tries p seen later result) is on,
  )

-- a process that begins with a look asks for it
pub asks_first : {A : Type 0} (process : Process A) (at object : ℕ) (next : Record → Process A) → process ≡ Does (Looks at) next
    → at ≡ object → Asks process (kind.Look object)
asks_first process at object next is same =
    subst (λ p. Asks p (kind.Look object)) (sym is) same

-- what stands of a line's course stands with less
pub course_weaker : {Point End : Type 0} (one other : Point → Type 0) (course : Course Point End)
    → ((point : Point) → one point → other point) → CourseIs one course → CourseIs other course
course_weaker one other (at.Ended end) less is = tt
course_weaker one other (at.At point) less is = less point is

module _ {State Point End : Type 0} (terms : Terms) (tries : ℕ) (rest : State → Point → Process (End × State))
    (process : Process (End × State)) (seen : List Event) where
  -- one act more
  pub leads_on : (between left : State) (point : Point) (course next : Course Point End) (xs ys : List Event)
      → course ≡ at.At point → Leads terms tries process (course_rest rest between course) seen xs
      → Leads terms tries (rest between point) (course_rest rest left next) (xs ++ seen) ys
      → Leads terms tries process (course_rest rest left next) seen (ys ++ xs)
  leads_on between left point course next xs ys is one other =
      leads_both terms tries process (rest between point) (course_rest rest left next) seen xs ys
      (subst (λ (c : Course Point End). Leads terms tries process (course_rest rest between c) seen xs) is one) other

  -- the last
  pub leads_to_end : (left : State) (course : Course Point End) (end : End) (added : List Event)
      → course ≡ at.Ended end → Leads terms tries process (course_rest rest left course) seen added
      → Runs terms tries process seen added (end, left)
  leads_to_end left course end added is leads =
      leads_ended terms tries process (end, left) seen added
      (subst (λ (c : Course Point End). Leads terms tries process (course_rest rest left c) seen added) is leads)
