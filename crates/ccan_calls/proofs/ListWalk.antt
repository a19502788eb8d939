-- Steps of three threads that are placed in one history are moves of their tables, one after another.
use Rattle.std.proofs.Common.{ℕ, zero, suc, ◌≡◌, ◌⊎◌, inl, inr, Bool, true, false, List, [], ◌∷◌, ◌++◌, Contains, length, Some, slice_get, slice_set, refl, sym, ap, subst, if◌then◌else◌, ◌∙◌, arith}
use Rattle.std.specs.Global.{Vec}
use Rattle.std.proofs.lemmas.Bool.{true≢false}
use Rattle.std.proofs.lemmas.List.{append_cancel_right}
use Rattle.ccan_confine.specs.declared.controller_change.ControllerChange.{ControllerChange}
use Rattle.ccan_confine.specs.declared.controller_change.ControllerChange.TheVariants.{Join}
use Rattle.ccan_ram.specs.declared.port.PortName.{PortName}
use Rattle.ccan_ram.specs.declared.port.PortName.TheVariants.{Bus, If1, If2}
use Rattle.ccan_ram.specs.Port.{same_port}
use Rattle.ccan_ram.specs.SharedRam.{Memory, terms_of}
use Rattle.ccan_ram.specs.Terms.{Terms}
use Rattle.ccan_endless.specs.declared.chip.ChipEvent.{ChipEvent}
use Rattle.ccan_endless.specs.Chip.{ChipHistory}
use Rattle.ccan_endless.specs.Layout.{same_object}
use Rattle.ccan_c.specs.Step.{port_of_event}
use Rattle.ccan_every.specs.declared.situation.Situation.TheVariants.{At}
use Rattle.ccan_every.specs.declared.table.Entry.TheVariants.{Acts}
use Rattle.ccan_every.specs.declared.table.Goes.{Goes}
use Rattle.ccan_every.specs.Outcome.{CanCome}
use Rattle.ccan_every.specs.Tables.{comes_to, goes_on}
use Rattle.ccan_device.specs.declared.answer.ChipAnswer.{ChipAnswer}
use Rattle.ccan_device.specs.declared.answer.ChipAnswer.TheVariants as answer
use Rattle.ccan_device.specs.declared.memory.ChipMemory.{ChipMemory}
use Rattle.ccan_device.specs.declared.operation.ChipOperation.{ChipOperation}
use Rattle.ccan_device.specs.declared.operation.ChipOperation.TheVariants as operation
use Rattle.ccan_device.specs.ChipSteps.{ChipStep, attempt_steps, can_make, change_step, chip_steps, is_join, record_in, refusals, step_to}
use Rattle.ccan_calls.specs.DeviceSteps.{DeviceStep, NoneRefused}
use Rattle.ccan_calls.specs.InTheList.{ChipActs, ChipTable, ComesBy, chip_after}
use Rattle.ccan_calls.proofs.Placed.{Begins, IsStepTo, Makes, MayPass, Passes, Placed, Stays, chip}

-- ---- a chip that refuses nothing

-- steps on a chip that may refuse a change, or on one that refuses none but a join
abbrev pub AreOn : Bool → List DeviceStep → Type 0
AreOn true steps = Unit {0}
AreOn false steps = NoneRefused steps

in_first : {A : Type 0} (xs ys : List A) (x : A) → Contains xs x → Contains (xs ++ ys) x
in_first [] ys x (k, less, is) = absurd (omega (arith, less))
in_first (y ∷ xs) ys x (zero, less, is) = (zero, omega arith, is)
in_first (y ∷ xs) ys x (suc k, less, is) =
    let (j, small, at) = in_first xs ys x (k, omega (arith, less), is) in (suc j, omega (arith, small), at)

not_last : {A : Type 0} (xs : List A) (last x : A) → (last ≡ x → ⊥) → Contains (xs ++ last ∷ []) x → Contains xs x
not_last [] last x other (zero, less, is) = absurd (other is)
not_last [] last x other (suc k, less, is) = absurd (omega (arith, less))
not_last (y ∷ xs) last x other (zero, less, is) = (zero, omega arith, is)
not_last (y ∷ xs) last x other (suc k, less, is) =
    let (j, small, at) = not_last xs last x other (k, omega (arith, less), is) in (suc j, omega (arith, small), at)

module _ (from to : ChipMemory) (shown : ChipAnswer) where
  its_answer : step_to from answer.Refused ≡ step_to to shown → shown ≡ answer.Refused
  its_answer is = sym (ap (λ (s : ChipStep). s.answer) is)

  none_last : (steps : List ChipStep) → (shown ≡ answer.Refused → ⊥) → Contains (steps ++ refusals true from) (step_to to shown)
      → Contains (steps ++ refusals false from) (step_to to shown)
  none_last steps granted is =
      in_first steps [] (step_to to shown)
      (not_last steps (step_to from answer.Refused) (step_to to shown) (λ same. granted (its_answer same)) is)

  -- a change that is no join is refused only by a chip that refuses changes
  by_join : (change : ControllerChange) (steps : List ChipStep) (joins : Bool) → is_join change ≡ joins
      → (shown ≡ answer.Refused → operation.ChangeController change ≡ operation.ChangeController Join)
      → Contains (steps ++ refusals true from) (step_to to shown) → Contains (steps ++ refusals joins from) (step_to to shown)
  by_join change steps true joins granted is = is
  by_join change steps false joins granted is =
      none_last steps (λ refused. true≢false (sym (ap is_join (ap held (granted refused))) ∙ joins)) is
    where
      held : ChipOperation → ControllerChange
      held (operation.ChangeController one) = one
      held other = change

  granted_step : (asked : ChipOperation) → (shown ≡ answer.Refused → asked ≡ operation.ChangeController Join)
      → Contains (chip_steps true asked from) (step_to to shown) → Contains (chip_steps false asked from) (step_to to shown)
  granted_step (operation.Look object) granted is = is
  granted_step (operation.Attempt object change) granted is =
      none_last (attempt_steps from object change (record_in from object))
      (λ refused. true≢false (sym (ap is_at_object (granted refused)))) is
    where
      is_at_object : ChipOperation → Bool
      is_at_object (operation.Attempt at one) = false
      is_at_object other = true
  granted_step operation.Picture granted is = is
  granted_step operation.LookAtController granted is = is
  granted_step (operation.ChangeController change) granted is =
      by_join change (if can_make change then change_step from change ∷ [] else []) (is_join change) refl granted is

on_chip : (refuses : Bool) (made : DeviceStep) (earlier : List DeviceStep) (from to : ChipMemory)
    → AreOn refuses (made ∷ earlier) → IsStepTo from made to → Contains (chip_steps refuses made.operation from) (step_to to made.answer)
on_chip true made earlier from to on is = is
on_chip false made earlier from to (granted, on) is = granted_step from to made.answer made.operation granted is

on_earlier : (refuses : Bool) (made : DeviceStep) (earlier : List DeviceStep) → AreOn refuses (made ∷ earlier)
    → AreOn refuses earlier
on_earlier true made earlier on = tt
on_earlier false made earlier (granted, on) = on

-- ---- placed steps, event by event

module _ (terms : Terms) (base : ChipHistory) where
  abbrev AllStay : ChipMemory → List DeviceStep → Type 0
  AllStay memory [] = Unit {0}
  AllStay memory (made ∷ steps) = IsStepTo memory made memory × AllStay memory steps

  -- the event is no step of the port, or its newest one
  abbrev AtEvent : (List DeviceStep → Type 0) → ChipEvent → ChipHistory → List DeviceStep → Type 0
  AtEvent before event history steps =
      (MayPass terms event history × before steps)
      ⊎ ((same_port (port_of_event event) terms.port ≡ true) × (made : DeviceStep) × (earlier : List DeviceStep)
      × (steps ≡ made ∷ earlier) × IsStepTo (chip terms history) made (chip terms (event ∷ history)) × before earlier)

  abbrev pub InEvents : ChipHistory → List DeviceStep → Type 0
  InEvents [] steps = AllStay (chip terms base) steps
  InEvents (event ∷ part) steps =
      (reads : List DeviceStep) × (earlier : List DeviceStep) × (steps ≡ reads ++ earlier)
      × AllStay (chip terms (event ∷ (part ++ base))) reads × AtEvent (InEvents part) event (part ++ base) earlier

  one_more : (part : ChipHistory) (made : DeviceStep) (steps : List DeviceStep)
      → IsStepTo (chip terms (part ++ base)) made (chip terms (part ++ base)) → InEvents part steps
      → InEvents part (made ∷ steps)
  one_more [] made steps is all = (is, all)
  one_more (event ∷ part) made steps is (reads, earlier, whole, all, before) =
      (made ∷ reads, earlier, ap (λ (l : List DeviceStep). made ∷ l) whole, (is, all), before)

  pub in_events : (history : ChipHistory) (steps : List DeviceStep) → Placed terms base history steps
      → (part : ChipHistory) × (history ≡ part ++ base) × InEvents part steps
  in_events history steps Begins = ([], refl, tt)
  in_events history steps (Stays at made earlier placed is) =
      let (part, whole, all) = in_events at earlier placed in (
        part,
        whole,
        one_more part made earlier (subst (λ h. IsStepTo (chip terms h) made (chip terms h)) whole is) all,
      )
  in_events history steps (Passes event at earlier placed may) =
      let (part, whole, all) = in_events at earlier placed in (
        event ∷ part,
        ap (λ (h : ChipHistory). event ∷ h) whole,
        ([], earlier, refl, tt, inl (subst (MayPass terms event) whole may, all)),
      )
  in_events history steps (Makes event at made earlier placed own is) =
      let (part, whole, all) = in_events at earlier placed in (
        event ∷ part,
        ap (λ (h : ChipHistory). event ∷ h) whole,
        (
          [],
          made ∷ earlier,
          refl,
          tt,
          inr (
            own,
            made,
            earlier,
            refl,
            subst (λ (h : ChipHistory). IsStepTo (chip terms h) made (chip terms (event ∷ h))) whole is,
            all,
          ),
        ),
      )

-- ---- moves of the tables

-- an event is a step of one port, so if each port but its own passes it, and its own finds the chip as it was, it stays
kept_by_all : {Kept : Type 0} (port : PortName) → (same_port port If1 ≡ false) ⊎ Kept → (same_port port If2 ≡ false) ⊎ Kept
    → (same_port port Bus ≡ false) ⊎ Kept → Kept
kept_by_all If1 (inl other) second third = absurd (true≢false other)
kept_by_all If1 (inr kept) second third = kept
kept_by_all If2 first (inl other) third = absurd (true≢false other)
kept_by_all If2 first (inr kept) third = kept
kept_by_all Bus first second (inl other) = absurd (true≢false other)
kept_by_all Bus first second (inr kept) = kept

not_both : (port one other : PortName) → (same_port one other ≡ true → ⊥) → same_port port one ≡ true
    → same_port port other ≡ true → ⊥
not_both If1 If1 other apart first second = apart second
not_both If1 If2 other apart first second = true≢false (sym first)
not_both If1 Bus other apart first second = true≢false (sym first)
not_both If2 If1 other apart first second = true≢false (sym first)
not_both If2 If2 other apart first second = apart second
not_both If2 Bus other apart first second = true≢false (sym first)
not_both Bus If1 other apart first second = true≢false (sym first)
not_both Bus If2 other apart first second = true≢false (sym first)
not_both Bus Bus other apart first second = apart second

-- what an operation does on the chip
abbrev pub acts_on : Bool → ChipActs
acts_on refuses thread operation from to answer = Contains (chip_steps refuses operation from) (step_to to answer)

module _ (refuses : Bool) (eq : ChipAnswer → ChipAnswer → Bool) (tables : List ChipTable) (first : ChipMemory) where
  abbrev Come : ChipMemory → List ℕ → Type 0
  Come memory places = CanCome (acts_on refuses) eq tables first (At memory places)

  moves : (thread : ℕ) (places : List ℕ) (from to : ChipMemory) (table : ChipTable) (made : DeviceStep) (before place : ℕ)
      (goes : Vec (Goes ChipAnswer)) → slice_get places thread ≡ Some before → slice_get tables thread ≡ Some table
      → slice_get table.entries.items before ≡ Some (Acts made.operation goes)
      → goes_on eq (length table.entries.items) goes.items made.answer ≡ Some place
      → Contains (chip_steps refuses made.operation from) (step_to to made.answer)
      → Come from places → Come to (slice_set places thread place)
  moves thread places from to table made before place goes there has entry on is (count, walk) = (
    suc count,
    (
      At from places,
      walk,
      (
        thread,
        record {
          place = before;
          table = table;
          operation = made.operation;
          goes = goes;
          step = step_to to made.answer;
          is_there = there;
          has_table = has;
          has_entry = entry;
          makes_step = is;
          comes_there = sym (ap (comes_to places thread before (step_to to made.answer)) on);
        },
      ),
    ),
  )

  -- one thread, whose place is among those of all
  module _ (terms : Terms) (base : ChipHistory) (thread : ℕ) (table : ChipTable) (has : slice_get tables thread ≡ Some table)
      (all : ℕ → List ℕ) (its : (place : ℕ) → slice_get (all place) thread ≡ Some place)
      (put : (place next : ℕ) → slice_set (all place) thread next ≡ all next) where
    one_move : (made : DeviceStep) (earlier : List DeviceStep) (from to : ChipMemory) (place : ℕ)
        → AreOn refuses (made ∷ earlier) → IsStepTo from made to → ComesBy eq table (made ∷ earlier) place
        → ((before : ℕ) → ComesBy eq table earlier before → Come from (all before)) → Come to (all place)
    one_move made earlier from to place on is (before, goes, comes, entry, next) come =
        subst (Come to) (put before place)
        (moves thread (all before) from to table made before place goes (its before) has entry next
        (on_chip refuses made earlier from to on is) (come before comes))

    -- steps that leave the chip as it is
    stay : (reads earlier : List DeviceStep) (memory : ChipMemory) (place : ℕ) → AllStay terms base memory reads
        → AreOn refuses (reads ++ earlier) → ComesBy eq table (reads ++ earlier) place
        → ((before : ℕ) → ComesBy eq table earlier before → Come memory (all before)) → Come memory (all place)
    stay [] earlier memory place looks on comes come = come place comes
    stay (made ∷ reads) earlier memory place (is, looks) on comes come =
        one_move made (reads ++ earlier) memory memory place on is comes
        (λ before comes_before.
        stay reads earlier memory before looks (on_earlier refuses made (reads ++ earlier) on) comes_before come)

on_rest : (refuses : Bool) (reads earlier : List DeviceStep) → AreOn refuses (reads ++ earlier) → AreOn refuses earlier
on_rest refuses [] earlier on = on
on_rest refuses (made ∷ reads) earlier on = on_rest refuses reads earlier (on_earlier refuses made (reads ++ earlier) on)

-- steps alone, all of which leave the chip as it is
no_more : (steps : List DeviceStep) → steps ≡ steps ++ []
no_more [] = refl
no_more (made ∷ steps) = ap (λ (l : List DeviceStep). made ∷ l) (no_more steps)

module _ (memory : Memory) (base : ChipHistory) (refuses : Bool) (eq : ChipAnswer → ChipAnswer → Bool)
    (if1 if2 bus : ChipTable) where
  abbrev its : PortName → Terms
  its port = terms_of same_object memory port

  abbrev at : ChipHistory → ChipMemory
  at history = chip_after memory.profile history

  abbrev tables : List ChipTable
  tables = if1 ∷ if2 ∷ bus ∷ []

  abbrev AllCome : ChipMemory → ℕ → ℕ → ℕ → Type 0
  AllCome now place1 place2 place3 = Come refuses eq tables (at base) now (place1 ∷ place2 ∷ place3 ∷ [])

  -- where the three are, after the steps of each
  record AreAt (steps1 steps2 steps3 : List DeviceStep) (place1 place2 place3 : ℕ) : Type 0 where
    pub on1 : AreOn refuses steps1
    pub on2 : AreOn refuses steps2
    pub on3 : AreOn refuses steps3
    pub by1 : ComesBy eq if1 steps1 place1
    pub by2 : ComesBy eq if2 steps2 place2
    pub by3 : ComesBy eq bus steps3 place3

  -- the steps of all three that leave the chip as it is
  all_stay : (now : ChipMemory) (reads1 reads2 reads3 earlier1 earlier2 earlier3 : List DeviceStep)
      (place1 place2 place3 : ℕ) → AllStay (its If1) base now reads1 → AllStay (its If2) base now reads2
      → AllStay (its Bus) base now reads3
      → AreAt (reads1 ++ earlier1) (reads2 ++ earlier2) (reads3 ++ earlier3) place1 place2 place3
      → ((before1 before2 before3 : ℕ) → AreAt earlier1 earlier2 earlier3 before1 before2 before3
      → AllCome now before1 before2 before3)
      → AllCome now place1 place2 place3
  all_stay now reads1 reads2 reads3 earlier1 earlier2 earlier3 place1 place2 place3 stay1 stay2 stay3 here come =
      stay refuses eq tables (at base) (its If1) base 0 if1 refl (λ place. place ∷ place2 ∷ place3 ∷ []) (λ place. refl)
      (λ place next. refl) reads1 earlier1 now place1 stay1 here.on1 here.by1 (λ before1 by1.
      stay refuses eq tables (at base) (its If2) base 1 if2 refl (λ place. before1 ∷ place ∷ place3 ∷ []) (λ place. refl)
      (λ place next. refl) reads2 earlier2 now place2 stay2 here.on2 here.by2 (λ before2 by2.
      stay refuses eq tables (at base) (its Bus) base 2 bus refl (λ place. before1 ∷ before2 ∷ place ∷ []) (λ place. refl)
      (λ place next. refl) reads3 earlier3 now place3 stay3 here.on3 here.by3 (λ before3 by3.
      come before1 before2 before3 (record {
        on1 = on_rest refuses reads1 earlier1 here.on1;
        on2 = on_rest refuses reads2 earlier2 here.on2;
        on3 = on_rest refuses reads3 earlier3 here.on3;
        by1 = by1;
        by2 = by2;
        by3 = by3;
      }))))

  module _ (event : ChipEvent) (history : ChipHistory) (before1 before2 before3 : List DeviceStep → Type 0)
      (onward : (steps1 steps2 steps3 : List DeviceStep) (place1 place2 place3 : ℕ) → before1 steps1 → before2 steps2
      → before3 steps3 → AreAt steps1 steps2 steps3 place1 place2 place3 → AllCome (at history) place1 place2 place3) where
    at_event : (steps1 steps2 steps3 : List DeviceStep) (place1 place2 place3 : ℕ)
        → AtEvent (its If1) base before1 event history steps1 → AtEvent (its If2) base before2 event history steps2
        → AtEvent (its Bus) base before3 event history steps3 → AreAt steps1 steps2 steps3 place1 place2 place3
        → AllCome (at (event ∷ history)) place1 place2 place3
    at_event steps1 steps2 steps3 place1 place2 place3 (inl (may1, first)) (inl (may2, second)) (inl (may3, third)) here =
        subst (λ now. AllCome now place1 place2 place3) (sym (kept_by_all (port_of_event event) may1 may2 may3))
        (onward steps1 steps2 steps3 place1 place2 place3 first second third here)
    at_event steps1 steps2 steps3 place1 place2 place3 (inr (own, made, earlier, whole, is, first)) (inl (may2, second))
        (inl (may3, third)) here =
        one_move refuses eq tables (at base) (its If1) base 0 if1 refl (λ place. place ∷ place2 ∷ place3 ∷ [])
        (λ place. refl) (λ place next. refl) made earlier (at history) (at (event ∷ history)) place1
        (subst (AreOn refuses) whole here.on1) is (subst (λ l. ComesBy eq if1 l place1) whole here.by1) (λ before by1.
        onward earlier steps2 steps3 before place2 place3 first second third (record {
          on1 = on_earlier refuses made earlier (subst (AreOn refuses) whole here.on1);
          on2 = here.on2;
          on3 = here.on3;
          by1 = by1;
          by2 = here.by2;
          by3 = here.by3;
        }))
    at_event steps1 steps2 steps3 place1 place2 place3 (inl (may1, first)) (inr (own, made, earlier, whole, is, second))
        (inl (may3, third)) here =
        one_move refuses eq tables (at base) (its If2) base 1 if2 refl (λ place. place1 ∷ place ∷ place3 ∷ [])
        (λ place. refl) (λ place next. refl) made earlier (at history) (at (event ∷ history)) place2
        (subst (AreOn refuses) whole here.on2) is (subst (λ l. ComesBy eq if2 l place2) whole here.by2) (λ before by2.
        onward steps1 earlier steps3 place1 before place3 first second third (record {
          on1 = here.on1;
          on2 = on_earlier refuses made earlier (subst (AreOn refuses) whole here.on2);
          on3 = here.on3;
          by1 = here.by1;
          by2 = by2;
          by3 = here.by3;
        }))
    at_event steps1 steps2 steps3 place1 place2 place3 (inl (may1, first)) (inl (may2, second))
        (inr (own, made, earlier, whole, is, third)) here =
        one_move refuses eq tables (at base) (its Bus) base 2 bus refl (λ place. place1 ∷ place2 ∷ place ∷ [])
        (λ place. refl) (λ place next. refl) made earlier (at history) (at (event ∷ history)) place3
        (subst (AreOn refuses) whole here.on3) is (subst (λ l. ComesBy eq bus l place3) whole here.by3) (λ before by3.
        onward steps1 steps2 earlier place1 place2 before first second third (record {
          on1 = here.on1;
          on2 = here.on2;
          on3 = on_earlier refuses made earlier (subst (AreOn refuses) whole here.on3);
          by1 = here.by1;
          by2 = here.by2;
          by3 = by3;
        }))
    at_event steps1 steps2 steps3 place1 place2 place3 (inr first) (inr second) third here =
        absurd (not_both (port_of_event event) If1 If2 (λ same. true≢false (sym same)) first.0 second.0)
    at_event steps1 steps2 steps3 place1 place2 place3 (inr first) (inl second) (inr third) here =
        absurd (not_both (port_of_event event) If1 Bus (λ same. true≢false (sym same)) first.0 third.0)
    at_event steps1 steps2 steps3 place1 place2 place3 (inl first) (inr second) (inr third) here =
        absurd (not_both (port_of_event event) If2 Bus (λ same. true≢false (sym same)) second.0 third.0)

  walk : (part : ChipHistory) (steps1 steps2 steps3 : List DeviceStep) (place1 place2 place3 : ℕ)
      → InEvents (its If1) base part steps1 → InEvents (its If2) base part steps2 → InEvents (its Bus) base part steps3
      → AreAt steps1 steps2 steps3 place1 place2 place3 → AllCome (at (part ++ base)) place1 place2 place3
  walk [] steps1 steps2 steps3 place1 place2 place3 stay1 stay2 stay3 here =
      all_stay (at base) steps1 steps2 steps3 [] [] [] place1 place2 place3 stay1 stay2 stay3
      (record {
        on1 = subst (AreOn refuses) (no_more steps1) here.on1;
        on2 = subst (AreOn refuses) (no_more steps2) here.on2;
        on3 = subst (AreOn refuses) (no_more steps3) here.on3;
        by1 = subst (λ l. ComesBy eq if1 l place1) (no_more steps1) here.by1;
        by2 = subst (λ l. ComesBy eq if2 l place2) (no_more steps2) here.by2;
        by3 = subst (λ l. ComesBy eq bus l place3) (no_more steps3) here.by3;
      }) (λ before1 before2 before3 none.
      (0, λ i. At (at base) (none.by1 i ∷ none.by2 i ∷ none.by3 i ∷ [])))
  walk (event ∷ part) steps1 steps2 steps3 place1 place2 place3 (reads1, earlier1, whole1, stay1, event1)
      (reads2, earlier2, whole2, stay2, event2) (reads3, earlier3, whole3, stay3, event3) here =
      all_stay (at (event ∷ (part ++ base))) reads1 reads2 reads3 earlier1 earlier2 earlier3 place1 place2 place3 stay1 stay2
      stay3 (record {
        on1 = subst (AreOn refuses) whole1 here.on1;
        on2 = subst (AreOn refuses) whole2 here.on2;
        on3 = subst (AreOn refuses) whole3 here.on3;
        by1 = subst (λ l. ComesBy eq if1 l place1) whole1 here.by1;
        by2 = subst (λ l. ComesBy eq if2 l place2) whole2 here.by2;
        by3 = subst (λ l. ComesBy eq bus l place3) whole3 here.by3;
      }) (λ before1 before2 before3 there.
      at_event event (part ++ base) (InEvents (its If1) base part) (InEvents (its If2) base part) (InEvents (its Bus) base part)
      (walk part) earlier1 earlier2 earlier3 before1 before2 before3 event1 event2 event3 there)

  -- steps of the three that are placed in one history
  pub all_come : (history : ChipHistory) (steps1 steps2 steps3 : List DeviceStep) (place1 place2 place3 : ℕ)
      → Placed (its If1) base history steps1 → Placed (its If2) base history steps2 → Placed (its Bus) base history steps3
      → AreOn refuses steps1 → AreOn refuses steps2 → AreOn refuses steps3 → ComesBy eq if1 steps1 place1
      → ComesBy eq if2 steps2 place2 → ComesBy eq bus steps3 place3
      → CanCome (acts_on refuses) eq tables (at base) (At (at history) (place1 ∷ place2 ∷ place3 ∷ []))
  all_come history steps1 steps2 steps3 place1 place2 place3 placed1 placed2 placed3 on1 on2 on3 by1 by2 by3 =
      let (part, whole, first) = in_events (its If1) base history steps1 placed1 in
      let (part2, whole2, second) = in_events (its If2) base history steps2 placed2 in
      let (part3, whole3, third) = in_events (its Bus) base history steps3 placed3 in
      let same2 : part2 ≡ part = append_cancel_right part2 part base (sym whole2 ∙ whole) in
      let same3 : part3 ≡ part = append_cancel_right part3 part base (sym whole3 ∙ whole) in
      subst (λ h. AllCome (at h) place1 place2 place3) (sym whole)
      (walk part steps1 steps2 steps3 place1 place2 place3 first
      (subst (λ p. InEvents (its If2) base p steps2) same2 second)
      (subst (λ p. InEvents (its Bus) base p steps3) same3 third)
      (record { on1 = on1; on2 = on2; on3 = on3; by1 = by1; by2 = by2; by3 = by3 }))
