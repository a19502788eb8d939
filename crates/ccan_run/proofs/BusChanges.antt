-- What a port changes in a part of the history, by how many changes it makes there, and how many the calls of the bus make.
use Rattle.std.proofs.Common.{◌≡◌, ◌+◌, ◌&&◌, ℕ, Bool, true, false, List, [], ◌∷◌, ◌++◌, inl, inr, Some, None, Ok, Err}
use Rattle.std.proofs.Common.{ap, arith, cond, length, refl, subst, sym}
use Rattle.std.specs.Prelude.{Contains}
use Rattle.std.proofs.lemmas.List.Elements.{Contains-append_cases, Contains-append_left, Contains-append_right}
use Rattle.std.proofs.lemmas.List.Elements.{Contains-push, Contains-push_cases}
use Rattle.ccan_object.specs.declared.record.Record.{Record}
use Rattle.ccan_ram.specs.declared.port.PortName.{PortName}
use Rattle.ccan_ram.specs.declared.change.Change.{Change}
use Rattle.ccan_ram.specs.declared.change.Change.TheVariants.{Start}
use Rattle.ccan_ram.specs.declared.event.Event.{Event}
use Rattle.ccan_ram.specs.declared.event.Operation.{Operation}
use Rattle.ccan_ram.specs.declared.event.Operation.TheVariants.{Look, Make}
use Rattle.ccan_ram.specs.Port.{same_port}
use Rattle.ccan_ram.specs.History.{changes_by, is_making}
use Rattle.ccan_ram.specs.Terms.{Terms}
use Rattle.ccan_handler.specs.Scan.{Nowhere, MadeAt, RefusedAt}
use Rattle.ccan_handler.specs.Moment.{Chosen}
use Rattle.ccan_handler.proofs.Own.{its_own, bounds_law}
use Rattle.ccan_bus.specs.declared.choice.Choice.TheVariants.{InTurn}
use Rattle.ccan_bus.specs.Choice.{Chooses}
use Rattle.ccan_run.specs.Answered.{HasStep, changes_in, with_change}

-- ---- the list of changes, and its length

count_more : (mine : Bool) (operation : Operation) (object n : ℕ) (made : List (ℕ × Change)) → length made ≡ n
    → length (cond mine (with_change operation object made) made) ≡ cond (is_making operation && mine) (n + 1) n
count_more true Look object n made h = h
count_more false Look object n made h = h
count_more true (Make change) object n made h = omega (arith, h)
count_more false (Make change) object n made h = h

counted : (port : PortName) (events : List Event) → length (changes_in port events) ≡ changes_by port events
counted port [] = refl
counted port (event ∷ events) = count_more (same_port event.port port) event.operation event.object _ _ (counted port events)

empty : (made : List (ℕ × Change)) → length made ≡ 0 → made ≡ []
empty [] h = refl
empty (first ∷ made) h = absurd (omega (arith, h))

pub changes_in-none : (port : PortName) (events : List Event) → changes_by port events ≡ 0 → changes_in port events ≡ []
changes_in-none port events none = empty (changes_in port events) (omega (arith, counted port events, none))

append_more : (mine : Bool) (operation : Operation) (object : ℕ) (all newest earlier : List (ℕ × Change))
    → all ≡ newest ++ earlier
    → cond mine (with_change operation object all) all ≡ cond mine (with_change operation object newest) newest ++ earlier
append_more true Look object all newest earlier h = h
append_more false Look object all newest earlier h = h
append_more true (Make change) object all newest earlier h = ap (λ (l : List (ℕ × Change)). (object, change) ∷ l) h
append_more false (Make change) object all newest earlier h = h

pub changes_in-append : (port : PortName) (xs ys : List Event)
    → changes_in port (xs ++ ys) ≡ changes_in port xs ++ changes_in port ys
changes_in-append port [] ys = refl
changes_in-append port (event ∷ xs) ys =
    append_more (same_port event.port port) event.operation event.object _ _ _ (changes_in-append port xs ys)

-- a change among the events is among the changes
rest_more : (mine : Bool) (operation : Operation) (at : ℕ) (rest : List (ℕ × Change)) (x : ℕ × Change) → Contains rest x
    → Contains (cond mine (with_change operation at rest) rest) x
rest_more true Look at rest x h = h
rest_more false Look at rest x h = h
rest_more true (Make change) at rest x h = Contains-append_right ((at, change) ∷ []) rest x h
rest_more false (Make change) at rest x h = h

same_event : (first event : Event) → Contains (first ∷ []) event → first ≡ event
same_event first event there = elim (Contains-push_cases [] first event there) [
  | inl none ↦ absurd (omega (arith, none.1))
  | inr same ↦ same
]

module _ (port : PortName) (object : ℕ) (change : Change) (before left : Record) where
  abbrev event : Event
  event = record { port = port; object = object; operation = Make change; before = before; after = left }

  among : (events : List Event) → Contains events event → Contains (changes_in port events) (object, change)
  among [] there = absurd (omega (arith, there.1))
  among (first ∷ events) there =
      let rest = changes_in port events in
      let own : Contains (changes_in port (event ∷ events)) (object, change) =
      rw (its_own port) (Contains-append_left ((object, change) ∷ []) rest (object, change)
      (Contains-push [] (object, change))) in
      elim (Contains-append_cases (first ∷ []) events event there) [
        | inl here ↦ subst (λ (e : Event). Contains (changes_in port (e ∷ events)) (object, change))
            (sym (same_event first event here)) own
        | inr later ↦
            rest_more (same_port first.port port) first.operation first.object rest (object, change) (among events later)
      ]

single : (made : List (ℕ × Change)) (x : ℕ × Change) → length made ≡ 1 → Contains made x → made ≡ x ∷ []
single [] x one there = absurd (omega (arith, one))
single (first ∷ []) x one there = elim (Contains-push_cases [] first x there) [
  | inl none ↦ absurd (omega (arith, none.1))
  | inr same ↦ ap (λ (y : ℕ × Change). y ∷ []) same
]
single (first ∷ second ∷ made) x one there = absurd (omega (arith, one))

-- where a port makes one change, it is that of its step
pub changes_in-one : (port : PortName) (object : ℕ) (change : Change) (before left : Record) (events : List Event)
    → changes_by port events ≡ 1 → HasStep port object (Make change) before left events
    → changes_in port events ≡ (object, change) ∷ []
changes_in-one port object change before left events one step =
    single (changes_in port events) (object, change) (omega (arith, counted port events, one))
    (among port object change before left events step)

-- ---- how many changes a choice makes, object after object

abbrev pub made_by : Chosen → ℕ
made_by (Ok None) = 0
made_by (Ok (Some chosen)) = 1
made_by (Err why) = 0

pub changes_by-choice : (terms : Terms) (tries : ℕ) (seen added : List Event) (answer : Chosen)
    → Chooses InTurn terms tries seen added answer → changes_by terms.port added ≡ made_by answer
changes_by-choice terms tries seen added (Ok None) h = (bounds_law terms Start tries 1 seen added Nowhere h).1
changes_by-choice terms tries seen added (Ok (Some chosen)) (before, number, h) =
    (bounds_law terms Start tries 1 seen added (MadeAt chosen.0 before chosen.1 number) h).1
changes_by-choice terms tries seen added (Err refused) h =
    (bounds_law terms Start tries 1 seen added (RefusedAt refused.at refused.why) h).1
