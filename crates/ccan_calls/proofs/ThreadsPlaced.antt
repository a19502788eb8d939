-- The steps for which the calls of a thread ask, placed in the one history of the chip's threads.
use Rattle.std.proofs.Common.{ℕ, ◌≡◌, List, [], ◌∷◌, ◌++◌, map, refl, sym, ap, subst, ◌∙◌, append_assoc}
use Rattle.std.proofs.lemmas.List.{append-nil, map-append}
use Rattle.ccan_ram.specs.declared.port.PortName.{PortName}
use Rattle.ccan_ram.specs.declared.port.PortName.TheVariants.{Bus, If1, If2}
use Rattle.ccan_ram.specs.Terms.{Terms}
use Rattle.ccan_bus.specs.declared.choice.Choice.TheVariants.{AtOnce}
use Rattle.ccan_process.specs.Process.{Does, Ended}
use Rattle.ccan_endless.specs.Chip.{ChipHistory, GoesFrom}
use Rattle.ccan_registers.specs.declared.interface_set.InterfaceSet.{InterfaceSet}
use Rattle.ccan_c.specs.FrameCall.{BusState, CallOnBus, CallOnBusMeans}
use Rattle.ccan_c.specs.HostCall.{HostCall, code_got}
use Rattle.ccan_c.specs.Opening.{Set}
use Rattle.ccan_c.specs.Step.{CallsMean, Place as HandlePlace, own_of}
use Rattle.ccan_c.specs.Threads.{MeetsAll, Part, PartsMean, Places, at_once, meeting, resetting, saving}
use Rattle.ccan_c.proofs.KeepsChoice.{calls_on_bus_keep}
use Rattle.ccan_calls.specs.Answer.{Answer, CallProcess, Place}
use Rattle.ccan_calls.specs.DeviceSteps.{AsksFor, CanComeOf, DeviceStep, device_steps}
use Rattle.ccan_calls.specs.HostAsk.{asked_by, place_of}
use Rattle.ccan_calls.specs.HostCallProcess.{host_process}
use Rattle.ccan_calls.specs.InTheList.{OnlyMeet, calls_of_bus, calls_of_if1, calls_of_if2}
use Rattle.ccan_calls.specs.Process.{Act, Attempts, ChangesController, Decides, Heeds, InsistsOnChange, LetsOthersAct, Looks, LooksAtController, Notes, Offers, Out, Pauses, Pictures, Process, Recalls}
use Rattle.ccan_calls.specs.Runs.{Acted, Runs}
use Rattle.ccan_calls.specs.ThreadProcess.{AreAnswered, ThreadComes, asked, code_of_call, on_bus_process, place_of_call, thread_process}
use Rattle.ccan_calls.proofs.ActsPlaced.{act_placed}
use Rattle.ccan_calls.proofs.Asking.{more_answered, more_calls}
use Rattle.ccan_calls.proofs.Placed.{IsLegalHere, Placed, legal_older, nothing_passes, others_pass}
use Rattle.ccan_calls.proofs.ThreadsRun.{bus_threads, host_threads}
use Rattle.ccan_calls.proofs.ThreadsStand.{others_only}

-- ---- a process

module _ (terms : Terms) (tries : ℕ) (base : ChipHistory) where
  can_come : (act : Act) (seen added : ChipHistory) (out : Out act) → Acted terms tries act seen added out → CanComeOf act out
  can_come (Looks object) seen added out on = tt
  can_come (Attempts object change) seen added out on = tt
  can_come Pictures seen added out on = tt
  can_come LooksAtController seen added out on = tt
  can_come (ChangesController change) seen added out on = tt
  can_come (InsistsOnChange change) seen added out on = tt
  can_come Recalls seen added out on = tt
  can_come Pauses seen added out on = tt
  can_come LetsOthersAct seen added out on = tt
  can_come (Offers sends fault) seen added out on = on.1
  can_come (Decides line past) seen added out on = on.1
  can_come Notes seen added out on = tt
  can_come (Heeds told) seen added out on = tt

  abbrev Comes : {A : Type 0} → Process A → ChipHistory → List DeviceStep → A → Type 0
  Comes process history steps result =
      (more : List DeviceStep) × AsksFor process more result × Placed terms base history (more ++ steps)

  runs_placed : {A : Type 0} (process : Process A) (seen added : ChipHistory) (result : A) (steps : List DeviceStep)
      → IsLegalHere terms (added ++ seen) → Runs terms tries process seen added result → Placed terms base seen steps
      → Comes process (added ++ seen) steps result
  runs_placed (Ended end) seen added result steps legal (none, is) placed =
      ([], (refl, is), nothing_passes terms base added seen steps none placed)
  runs_placed (Does act next) seen added result steps legal (out, h) placed =
      let all : added ++ seen ≡ h.later ++ (h.earlier ++ seen) =
      ap (λ (es : ChipHistory). es ++ seen) h.whole ∙ append_assoc h.later h.earlier seen in
      let legal_there = subst (IsLegalHere terms) all legal in
      let here = act_placed terms base seen h.earlier steps
      (legal_older terms h.later (h.earlier ++ seen) legal_there) placed tries act out h.begins in
      let (more, asks, there) = runs_placed (next out) (h.earlier ++ seen) h.later result (device_steps act out ++ steps)
      legal_there h.ends here in (
        more ++ device_steps act out,
        (out, can_come act seen h.earlier out h.begins, more, refl, asks),
        subst (λ es. Placed terms base es ((more ++ device_steps act out) ++ steps)) (sym all)
            (subst (Placed terms base (h.later ++ (h.earlier ++ seen)))
            (sym (append_assoc more (device_steps act out) steps)) there),
      )

-- ---- a handle

-- at a meeting a handle has seen more, of which nothing is its own
pub record IsMet {State : Type 0} (port : PortName) (old new : HandlePlace State) : Type 0 where
  pub keeps : new.state ≡ old.state
  pub begins : GoesFrom new.seen old.seen
  pub own : own_of port new.seen ≡ own_of port old.seen

goes_through : (newest newer older : ChipHistory) → GoesFrom newest newer → GoesFrom newer older → GoesFrom newest older
goes_through newest newer older (more, is) (less, was) =
    (more ++ less, is ∙ ap (λ (es : ChipHistory). more ++ es) was ∙ sym (append_assoc more less older))

module _ {Call Ask State : Type 0} (terms : Terms) (tries : ℕ) (process : Ask → State → CallProcess State)
    (asks_of : Call → Ask) (code : Call → ℕ) (place : Call → Place) where
  -- calls, and meetings between them
  pub data Through : List Call → HandlePlace State → HandlePlace State → Type 0 where
    Nothing : (at : HandlePlace State) → Through [] at at
    CallsThen : (calls more : List Call) → (old between new : HandlePlace State)
        → ThreadComes terms tries code place calls (thread_process process (map asks_of calls) old.state) old between
        → Through more between new → Through (calls ++ more) old new
    MeetsThen : (more : List Call) → (old between new : HandlePlace State) → IsMet terms.port old between
        → Through more between new → Through more old new

  seen_more : (calls : List Call) (old new : HandlePlace State) → Through calls old new → GoesFrom new.seen old.seen
  seen_more calls old new (Nothing at) = ([], refl)
  seen_more calls old new (CallsThen first more from between to comes next) =
      goes_through new.seen between.seen old.seen (seen_more more between new next) (comes.added, comes.seen)
  seen_more calls old new (MeetsThen more from between to met next) =
      goes_through new.seen between.seen old.seen (seen_more more between new next) met.begins

  module _ (base : ChipHistory) (begun : State) where
    -- calls asked for these steps, which are placed in what the handle has seen since
    pub record HaveAsked (calls : List Call) (last : HandlePlace State) : Type 0 where
      pub answers : List Answer
      pub steps : List DeviceStep
      pub answered : AreAnswered code place calls answers
      pub asks : AsksFor (thread_process process (map asks_of calls) begun) steps (answers, last.state)
      pub placed : Placed terms base last.seen steps

    by_calls : (calls more : List Call) (old new : HandlePlace State) → IsLegalHere terms new.seen
        → ThreadComes terms tries code place more (thread_process process (map asks_of more) old.state) old new
        → HaveAsked calls old → HaveAsked (calls ++ more) new
    by_calls calls more old new legal comes h =
        let (later, asks, placed) = runs_placed terms tries base (thread_process process (map asks_of more) old.state) old.seen
        comes.added (comes.answers, new.state) h.steps (subst (IsLegalHere terms) comes.seen legal) comes.runs h.placed in
        record {
          answers = h.answers ++ comes.answers;
          steps = later ++ h.steps;
          answered = more_answered code place calls more h.answers comes.answers h.answered comes.answered;
          asks = subst (λ (all : List Ask). AsksFor (thread_process process all begun) (later ++ h.steps)
              (h.answers ++ comes.answers, new.state)) (sym (map-append asks_of calls more))
              (more_calls process (map asks_of calls) (map asks_of more) begun old.state h.steps later h.answers comes.answers
              new.state h.asks asks);
          placed = subst (λ es. Placed terms base es (later ++ h.steps)) (sym comes.seen) placed;
        }

    by_meeting : (calls : List Call) (old new : HandlePlace State) → IsMet terms.port old new → HaveAsked calls old
        → HaveAsked calls new
    by_meeting calls old new met h =
        let (more, is) = met.begins in
        record {
          answers = h.answers;
          steps = h.steps;
          answered = h.answered;
          asks = subst (λ s. AsksFor (thread_process process (map asks_of calls) begun) h.steps (h.answers, s)) (sym met.keeps)
              h.asks;
          placed = subst (λ es. Placed terms base es h.steps) (sym is)
              (others_pass terms base more old.seen h.steps (others_only terms.port new.seen old.seen more is met.own) h.placed);
        }

    have_asked : (calls more : List Call) (old new : HandlePlace State) (history : ChipHistory)
        → IsLegalHere terms history → GoesFrom history new.seen → Through more old new → HaveAsked calls old
        → HaveAsked (calls ++ more) new
    have_asked calls more old new history legal goes (Nothing at) h =
        subst (λ (all : List Call). HaveAsked all new) (sym (append-nil calls)) h
    have_asked calls more old new history legal goes (CallsThen first others from between to comes next) h =
        let (rest, is) = goes_through history new.seen between.seen goes (seen_more others between new next) in
        subst (λ (all : List Call). HaveAsked all new) (append_assoc calls first others)
        (have_asked (calls ++ first) others between new history legal goes next
        (by_calls calls first old between (legal_older terms rest between.seen (subst (IsLegalHere terms) is legal)) comes h))
    have_asked calls more old new history legal goes (MeetsThen others from between to met next) h =
        have_asked calls others between new history legal goes next (by_meeting calls old between met h)

    -- and so in a history that has no other event of the port
    pub in_history : (calls : List Call) (old new : HandlePlace State) (history : ChipHistory) → IsLegalHere terms history
        → GoesFrom history new.seen → own_of terms.port history ≡ own_of terms.port new.seen → Through calls old new
        → old.seen ≡ base → old.state ≡ begun
        → (h : HaveAsked calls new) × Placed terms base history h.steps
    in_history calls old new history legal goes own through is_base is_begun =
        let none : HaveAsked [] old =
        record {
          answers = [];
          steps = [];
          answered = tt;
          asks = (refl, ap (λ (s : State). ([], s)) is_begun);
          placed = subst (λ es. Placed terms base es []) (sym is_base) (Placed.Begins);
        } in
        let h = have_asked [] calls old new history legal goes through none in
        let (more, is) = goes in (
          h,
          subst (λ es. Placed terms base es h.steps) (sym is)
              (others_pass terms base more new.seen h.steps (others_only terms.port history new.seen more is own) h.placed),
        )

-- ---- the three handles

its_meeting : {State : Type 0} (name port : PortName) → port ≡ name → (all : Places) (old new : HandlePlace State)
    → MeetsAll name all old new → GoesFrom new.seen old.seen → IsMet port old new
its_meeting name port is all old new met goes =
    subst (λ p. IsMet p old new) (sym is) (record { keeps = met.keeps; begins = goes; own = met.own })

module _ (terms : PortName → Terms) (set : Set) where
  abbrev HostThrough : PortName → List HostCall → HandlePlace InterfaceSet → HandlePlace InterfaceSet → Type 0
  HostThrough port = Through (terms port) set.tries (host_process (terms port) set.map) asked_by code_got place_of

  abbrev BusThrough : List CallOnBus → HandlePlace BusState → HandlePlace BusState → Type 0
  BusThrough = Through (terms Bus) set.tries (on_bus_process (terms Bus) set.map set.nodes) asked code_of_call place_of_call

  pub if1_through : (parts : List Part) (old new : Places) → OnlyMeet parts → PartsMean terms set parts old new
      → (terms If1).port ≡ If1 → HostThrough If1 (calls_of_if1 parts) old.if1 new.if1
  if1_through [] old new only same is =
      subst (λ (place : HandlePlace InterfaceSet). HostThrough If1 [] old.if1 place) (sym (ap (λ (p : Places). p.if1) same))
      (Nothing old.if1)
  if1_through (at_once if1 if2 bus ∷ parts) old new only (between, part, rest) is =
      CallsThen if1 (calls_of_if1 parts) old.if1 between.if1 new.if1
      ((host_threads (terms If1) set.tries set.map if1 old.if1 between.if1).0 part.if1_means)
      (if1_through parts between new only rest is)
  if1_through (meeting ∷ parts) old new only (between, met, rest) is =
      MeetsThen (calls_of_if1 parts) old.if1 between.if1 new.if1
      (its_meeting If1 (terms If1).port is old old.if1 between.if1 met.if1_meets met.if1_meets.begins_if1)
      (if1_through parts between new only rest is)
  if1_through (saving text ∷ parts) old new only rest is = absurd only
  if1_through (resetting code ∷ parts) old new only rest is = absurd only

  pub if2_through : (parts : List Part) (old new : Places) → OnlyMeet parts → PartsMean terms set parts old new
      → (terms If2).port ≡ If2 → HostThrough If2 (calls_of_if2 parts) old.if2 new.if2
  if2_through [] old new only same is =
      subst (λ (place : HandlePlace InterfaceSet). HostThrough If2 [] old.if2 place) (sym (ap (λ (p : Places). p.if2) same))
      (Nothing old.if2)
  if2_through (at_once if1 if2 bus ∷ parts) old new only (between, part, rest) is =
      CallsThen if2 (calls_of_if2 parts) old.if2 between.if2 new.if2
      ((host_threads (terms If2) set.tries set.map if2 old.if2 between.if2).0 part.if2_means)
      (if2_through parts between new only rest is)
  if2_through (meeting ∷ parts) old new only (between, met, rest) is =
      MeetsThen (calls_of_if2 parts) old.if2 between.if2 new.if2
      (its_meeting If2 (terms If2).port is old old.if2 between.if2 met.if2_meets met.if2_meets.begins_if2)
      (if2_through parts between new only rest is)
  if2_through (saving text ∷ parts) old new only rest is = absurd only
  if2_through (resetting code ∷ parts) old new only rest is = absurd only

  -- calls keep how the bus chooses
  keeps_choice : (calls : List CallOnBus) (old new : HandlePlace BusState)
      → CallsMean (CallOnBusMeans (terms Bus) set.tries set.nodes set.map) calls old new
      → old.state.past.choice ≡ AtOnce → new.state.past.choice ≡ AtOnce
  keeps_choice [] old new same chooses = ap (λ (p : HandlePlace BusState). p.state.past.choice) same ∙ chooses
  keeps_choice (call ∷ calls) old new (added, left, means, rest) chooses =
      keeps_choice calls (record { state = left; seen = added ++ old.seen }) new rest
      (calls_on_bus_keep (terms Bus) set.tries set.nodes set.map call old.state left old.seen added means ∙ chooses)

  pub bus_through : (parts : List Part) (old new : Places) → OnlyMeet parts → PartsMean terms set parts old new
      → (terms Bus).port ≡ Bus → old.bus.state.past.choice ≡ AtOnce → BusThrough (calls_of_bus parts) old.bus new.bus
  bus_through [] old new only same is at =
      subst (λ (place : HandlePlace BusState). BusThrough [] old.bus place) (sym (ap (λ (p : Places). p.bus) same))
      (Nothing old.bus)
  bus_through (at_once if1 if2 bus ∷ parts) old new only (between, part, rest) is at =
      CallsThen bus (calls_of_bus parts) old.bus between.bus new.bus
      ((bus_threads (terms Bus) set.tries set.nodes set.map bus old.bus between.bus is at).0 part.bus_means)
      (bus_through parts between new only rest is (keeps_choice bus old.bus between.bus part.bus_means at))
  bus_through (meeting ∷ parts) old new only (between, met, rest) is at =
      MeetsThen (calls_of_bus parts) old.bus between.bus new.bus
      (its_meeting Bus (terms Bus).port is old old.bus between.bus met.bus_meets met.bus_meets.begins_bus)
      (bus_through parts between new only rest is
      (ap (λ (s : BusState). s.past.choice) met.bus_meets.keeps ∙ at))
  bus_through (saving text ∷ parts) old new only rest is at = absurd only
  bus_through (resetting code ∷ parts) old new only rest is at = absurd only
