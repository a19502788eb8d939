-- What the answers of the bus tell, as steps of the history, and what the bus changes in them. What is loaded was started.
use Rattle.std.proofs.Common.{◌≡◌, ℕ, Bool, true, false, List, [], ◌∷◌, ◌++◌, inl, inr, Option, Some, None, Ok, Err}
use Rattle.std.proofs.Common.{refl, sym, ap, subst, ◌∙◌, append_assoc}
use Rattle.std.specs.Prelude.{All, Contains}
use Rattle.std.proofs.lemmas.List.{append-nil}
use Rattle.std.proofs.lemmas.List.Elements.{All-append, All-cons, All-contains_itself, All-filter, All-get_or, All-nil, All-weaker}
use Rattle.ccan_object.specs.declared.record.Record.{Record}
use Rattle.ccan_accept.specs.declared.frame.Frame.{Frame}
use Rattle.ccan_accept.specs.Send.{frame_of}
use Rattle.ccan_ram.specs.declared.port.PortName.{PortName}
use Rattle.ccan_ram.specs.declared.port.PortName.TheVariants.{Bus}
use Rattle.ccan_ram.specs.declared.change.Change.{Change}
use Rattle.ccan_ram.specs.declared.change.Change.TheVariants.{Start, Store, Finish}
use Rattle.ccan_ram.specs.declared.change.Changed.TheVariants.{Done}
use Rattle.ccan_ram.specs.declared.change.Refused.TheVariants as refused
use Rattle.ccan_ram.specs.declared.event.Event.{Event}
use Rattle.ccan_ram.specs.declared.event.Operation.TheVariants.{Make}
use Rattle.ccan_ram.specs.declared.flag.Flag.{Flag}
use Rattle.ccan_ram.specs.declared.flag.Flag.TheVariants.{IntPnd}
use Rattle.ccan_ram.specs.History.{changes_by, events_of}
use Rattle.ccan_ram.specs.Terms.{Terms}
use Rattle.ccan_ram.specs.Attempt.{Attempt}
use Rattle.ccan_handler.specs.Watch.{Interrupts, ReadsFlags}
use Rattle.ccan_handler.specs.Moment.{Chosen}
use Rattle.ccan_handler.specs.Scan.{Scan, Nowhere, MadeAt, RefusedAt}
use Rattle.ccan_handler.proofs.Own.{bounds_law}
use Rattle.ccan_bus.specs.declared.answer.LoadAnswer.{LoadAnswer}
use Rattle.ccan_bus.specs.declared.answer.LoadAnswer.TheVariants as load
use Rattle.ccan_bus.specs.declared.answer.RoundAnswer.{RoundAnswer}
use Rattle.ccan_bus.specs.declared.answer.RoundAnswer.TheVariants as round
use Rattle.ccan_bus.specs.declared.round_line.RoundLine.{RoundLine}
use Rattle.ccan_bus.specs.Past.{BusPast, hears_itself, is_on, opened}
use Rattle.ccan_bus.specs.Contenders.{IsWonBy, contenders, own_frame}
use Rattle.ccan_bus.specs.declared.choice.Choice.{Choice}
use Rattle.ccan_bus.specs.declared.choice.Choice.TheVariants.{InTurn}
use Rattle.ccan_bus.specs.Choice.{Chooses}
use Rattle.ccan_bus.specs.Load.{Loads}
use Rattle.ccan_bus.specs.LoopBack.{AtFinish, AtScan, LoopsBack}
use Rattle.ccan_bus.specs.Round.{Round, RefusedFinish, RefusedScan, Contends, Transfers, Continues, refusal_of_round}
use Rattle.ccan_bus.proofs.AfterRounds.{nothing_after}
use Rattle.ccan_line.specs.declared.bus_line.BusLine.{BusLine}
use Rattle.ccan_line.specs.declared.bus_line.BusLine.TheVariants as line
use Rattle.ccan_line.specs.declared.line_answer.LineAnswer.{LineAnswer}
use Rattle.ccan_line.specs.declared.line_answer.LineAnswer.TheVariants as answer
use Rattle.ccan_line.specs.Lines.{LinesMean}
use Rattle.ccan_line.specs.BusPort.{BusLineAdds, BusLineMeans}
use Rattle.ccan_line.proofs.BusLinesRun.{bus_adds}
use Rattle.ccan_run.specs.Answered.{HasStep, NamesPending, WordWasShown, WasChanged, WasSent, WasStored, RoundShownBy}
use Rattle.ccan_run.proofs.ControllerAnswers.{quiet_part}
use Rattle.ccan_run.specs.Answered.{BusShownBy, IsBusReplyTo, IsBusPart, BusInOrder, BusMakes, RoundMakes, IsAtMost, changes_in}
use Rattle.ccan_line.proofs.InTurn.{ChoosesInTurn, line_keeps, still_stays}
use Rattle.ccan_run.proofs.HostChanges.{changes_by-attempt, changes_by-number, changes_by-flags}
use Rattle.ccan_run.proofs.BusChanges.{changes_in-none, changes_in-one, changes_in-append, changes_by-choice, made_by}
use Rattle.ccan_run.proofs.StepsShown.{in_newest, in_earlier, done_at, number_shown, word_shown}

-- ---- what stands in a part of the history stands in it

abbrev event_of : ℕ → Change → Record → Record → Event
event_of object change before left =
    record { port = Bus; object = object; operation = Make change; before = before; after = left }

module _ (added newest earlier : List Event) (whole : added ≡ newest ++ earlier) where
  newest_changed : (object : ℕ) (change : Change) (left : Record) → WasChanged object change left newest
      → WasChanged object change left added
  newest_changed object change left (before, step) =
      (before, in_newest (event_of object change before left) added newest earlier whole step)

  earlier_changed : (object : ℕ) (change : Change) (left : Record) → WasChanged object change left earlier
      → WasChanged object change left added
  earlier_changed object change left (before, step) =
      (before, in_earlier (event_of object change before left) added newest earlier whole step)

  newest_sent : (seen : List Event) (object : ℕ) (started left : Record) → WasSent object started left (earlier ++ seen) newest
      → WasSent object started left seen added
  newest_sent seen object started left sent =
      let all : newest ++ (earlier ++ seen) ≡ added ++ seen =
      sym (append_assoc newest earlier seen) ∙ ap (λ (es : List Event). es ++ seen) (sym whole) in
      record {
        start = subst (λ (es : List Event). WasChanged object Start started es) all sent.start;
        finish = newest_changed object Finish left sent.finish;
      }

  newest_shows : (sends : List (ℕ × Frame)) (seen : List Event) (ended : RoundAnswer)
      → RoundShownBy sends ended (earlier ++ seen) newest → RoundShownBy sends ended seen added
  newest_shows sends seen (round.Sent object left) (started, h) = (started, newest_sent seen object started left h)
  newest_shows sends seen (round.Received None) h = tt
  newest_shows sends seen (round.Received (Some found)) (sent, among, h) =
      (sent, among, newest_changed found.0 (Store sent.1) found.1 h)
  newest_shows sends seen (round.Looped object left None) (started, h) = (started, newest_sent seen object started left h)
  newest_shows sends seen (round.Looped object left (Some found)) (started, h, stored) =
      (started, newest_sent seen object started left h, newest_changed found.0 (Store (frame_of started)) found.1 stored)
  newest_shows sends seen round.Idle h = tt
  newest_shows sends seen round.Passed h = tt
  newest_shows sends seen round.Collision h = tt
  newest_shows sends seen round.NoAck h = tt
  newest_shows sends seen round.Fault h = tt
  newest_shows sends seen (round.Busy object) h = tt
  newest_shows sends seen (round.Spent object) h = tt

  two_parts : (later first : List (ℕ × Change)) → changes_in Bus newest ≡ later → changes_in Bus earlier ≡ first
      → changes_in Bus added ≡ later ++ first
  two_parts later first is_later is_first =
      ap (changes_in Bus) whole ∙ (changes_in-append Bus newest earlier
      ∙ (ap (λ (l : List (ℕ × Change)). l ++ changes_in Bus earlier) is_later
      ∙ ap (λ (l : List (ℕ × Change)). later ++ l) is_first))

-- ---- what is loaded, and what others send

-- what is loaded was started, and stands in the history as it was then
abbrev Carries : BusPast → List Event → Type 0
Carries past seen = (loaded : ℕ × Record) → past.loaded ≡ Some loaded → WasChanged loaded.0 Start loaded.1 seen

carries_nothing : (past : BusPast) (seen : List Event) → past.loaded ≡ None → Carries past seen
carries_nothing past seen none loaded is = absurd (let e = sym none ∙ is in cc)

carries_same : (past after : BusPast) (seen added : List Event) → after.loaded ≡ past.loaded → Carries past seen
    → Carries after (added ++ seen)
carries_same past after seen added same carries loaded is =
    earlier_changed (added ++ seen) added seen refl loaded.0 Start loaded.1 (carries loaded (sym same ∙ is))

-- whoever wins but the controller sends a frame of the line
abbrev IsOfLine : List (ℕ × Frame) → ℕ × Frame → Type 0
IsOfLine sends sent = (sent.0 ≡ 0 → ⊥) → Contains sends sent

own_excluded : (loaded : Option (ℕ × Record)) (sends : List (ℕ × Frame)) → All (IsOfLine sends) (own_frame loaded)
own_excluded None sends = All-nil (IsOfLine sends)
own_excluded (Some started) sends =
    All-cons (IsOfLine sends) (0, frame_of started.1) [] (λ other. absurd (other refl)) (All-nil (IsOfLine sends))

sent_by_line : (on : ℕ → Bool) (loaded : Option (ℕ × Record)) (sends : List (ℕ × Frame)) (winner : ℕ) (frame : Frame)
    → IsWonBy (contenders on loaded sends) winner frame → (winner ≡ 0 → ⊥) → Contains sends (winner, frame)
unfolding contenders
sent_by_line on loaded sends winner frame won another =
    let line = All-weaker (Contains sends) (IsOfLine sends) (λ sent among other. among) sends (All-contains_itself sends) in
    let all = All-append (IsOfLine sends) (own_frame loaded) sends (own_excluded loaded sends) line in
    let kept = All-filter (λ (c : ℕ × Frame). on c.0) (IsOfLine sends) (own_frame loaded ++ sends) all in
    let at = All-get_or (IsOfLine sends) (contenders on loaded sends) won.place (winner, frame) won.within kept in
    subst (λ (c : ℕ × Frame). IsOfLine sends c) (sym won.sent) at another

module _ (terms : Terms) (bus : terms.port ≡ Bus) (tries : ℕ) where
  made : (object : ℕ) (change : Change) (seen added : List Event) (before after : Record) (number : ℕ)
      → Attempt terms object change tries seen added (Ok (Done before after number)) → WasChanged object change after added
  made object change seen added before after number attempt = (
    before,
    subst (λ (port : PortName). HasStep port object (Make change) before after added) bus
        (done_at terms object change tries seen added before after number attempt),
  )

  scanned : (object from : ℕ) (change : Change) (seen added : List Event) (before after : Record) (number : ℕ)
      → Scan terms change from tries seen added (MadeAt object before after number) → WasChanged object change after added
  scanned object from change seen added before after number h =
      let t = h.try in
      newest_changed added h.last h.passed h.whole object change after
      (newest_changed h.last t.tried t.looked t.whole object change after
      (made object change (t.looked ++ (h.passed ++ seen)) t.tried before after number t.attempt))

  -- what a bus that chooses object after object has chosen
  chooses : (past : BusPast) (seen added : List Event) (answer : Chosen) → ChoosesInTurn past
      → Chooses past.choice terms tries seen added answer → Chooses InTurn terms tries seen added answer
  chooses past seen added answer in_turn h =
      subst (λ (choice : Choice). Chooses choice terms tries seen added answer) in_turn h

  chosen : (past : BusPast) (object : ℕ) (seen added : List Event) (started : Record) → ChoosesInTurn past
      → Chooses past.choice terms tries seen added (Ok (Some (object, started))) → WasChanged object Start started added
  chosen past object seen added started in_turn h =
      let (before, number, scan) = chooses past seen added (Ok (Some (object, started))) in_turn h in
      scanned object 1 Start seen added before started number scan

  -- ---- changes

  counted : (past : BusPast) (seen added : List Event) (answer : Chosen) → ChoosesInTurn past
      → Chooses past.choice terms tries seen added answer → changes_by terms.port added ≡ made_by answer
  counted past seen added answer in_turn h =
      changes_by-choice terms tries seen added answer (chooses past seen added answer in_turn h)

  none : (added : List Event) → changes_by terms.port added ≡ 0 → changes_in Bus added ≡ []
  none added is = changes_in-none Bus added (subst (λ (port : PortName). changes_by port added ≡ 0) bus is)

  one : (object : ℕ) (change : Change) (left : Record) (added : List Event) → changes_by terms.port added ≡ 1
      → WasChanged object change left added → changes_in Bus added ≡ (object, change) ∷ []
  one object change left added is (before, step) =
      changes_in-one Bus object change before left added (subst (λ (port : PortName). changes_by port added ≡ 1) bus is) step

  one_made : (object : ℕ) (change : Change) (seen added : List Event) (before after : Record) (number : ℕ)
      → Attempt terms object change tries seen added (Ok (Done before after number))
      → changes_in Bus added ≡ (object, change) ∷ []
  one_made object change seen added before after number h =
      one object change after added (changes_by-attempt terms object change tries seen added (Ok (Done before after number)) h)
      (made object change seen added before after number h)

  one_scanned : (object : ℕ) (change : Change) (seen added : List Event) (before after : Record) (number : ℕ)
      → Scan terms change 1 tries seen added (MadeAt object before after number) → changes_in Bus added ≡ (object, change) ∷ []
  one_scanned object change seen added before after number h =
      one object change after added (bounds_law terms change tries 1 seen added (MadeAt object before after number) h).1
      (scanned object 1 change seen added before after number h)

  none_found : (change : Change) (seen added : List Event) → Scan terms change 1 tries seen added Nowhere
      → changes_in Bus added ≡ []
  none_found change seen added h = none added (bounds_law terms change tries 1 seen added Nowhere h).1

  -- ---- loads and rounds

  loads : (seen added : List Event) (past after : BusPast) (loading : LoadAnswer) → ChoosesInTurn past
      → Loads terms tries seen added past after loading
      → BusShownBy terms.profile line.Load (answer.Load loading) seen added
  loads seen added past after (load.Loaded object started) in_turn h =
      chosen past object seen added started in_turn h.choice.chooses
  loads seen added past after (load.Held object) in_turn h = tt
  loads seen added past after load.Nothing in_turn h = tt
  loads seen added past after (load.Busy object) in_turn h = tt
  loads seen added past after (load.Spent object) in_turn h = tt

  load_makes : (seen added : List Event) (past after : BusPast) (loading : LoadAnswer) → ChoosesInTurn past
      → Loads terms tries seen added past after loading
      → BusMakes (answer.Load loading) (changes_in Bus added)
  load_makes seen added past after (load.Loaded object started) in_turn h =
      one object Start started added (counted past seen added (Ok (Some (object, started))) in_turn h.choice.chooses)
      (chosen past object seen added started in_turn h.choice.chooses)
  load_makes seen added past after (load.Held object) in_turn h = ap (changes_in Bus) h.quiet
  load_makes seen added past after load.Nothing in_turn (inl h) = ap (changes_in Bus) h.quiet
  load_makes seen added past after load.Nothing in_turn (inr h) =
      none added (counted past seen added (Ok None) in_turn h.choice.chooses)
  load_makes seen added past after (load.Busy object) in_turn (told, now, h) =
      none added (counted past seen added (Err (record { at = object; why = refused.Busy told now })) in_turn h.choice.chooses)
  load_makes seen added past after (load.Spent object) in_turn h =
      none added (counted past seen added (Err (record { at = object; why = refused.Spent })) in_turn h.choice.chooses)

  load_starts : (seen added : List Event) (past after : BusPast) (loading : LoadAnswer) → ChoosesInTurn past
      → Loads terms tries seen added past after loading
      → IsAtMost Start (changes_in Bus added)
  load_starts seen added past after (load.Loaded object started) in_turn h =
      inr (object, load_makes seen added past after (load.Loaded object started) in_turn h)
  load_starts seen added past after (load.Held object) in_turn h =
      inl (load_makes seen added past after (load.Held object) in_turn h)
  load_starts seen added past after load.Nothing in_turn h =
      inl (load_makes seen added past after load.Nothing in_turn h)
  load_starts seen added past after (load.Busy object) in_turn h =
      inl (load_makes seen added past after (load.Busy object) in_turn h)
  load_starts seen added past after (load.Spent object) in_turn h =
      inl (load_makes seen added past after (load.Spent object) in_turn h)

  load_carries : (seen added : List Event) (past after : BusPast) (loading : LoadAnswer) → ChoosesInTurn past
      → Loads terms tries seen added past after loading
      → Carries past seen → Carries after (added ++ seen)
  load_carries seen added past after (load.Loaded object started) in_turn h carries loaded is =
      let same : (object, started) ≡ loaded = let e = sym (ap (λ (p : BusPast). p.loaded) h.now_loaded) ∙ is in cc in
      subst (λ (l : ℕ × Record). WasChanged l.0 Start l.1 (added ++ seen)) same
      (newest_changed (added ++ seen) added seen refl object Start started
      (chosen past object seen added started in_turn h.choice.chooses))
  load_carries seen added past after (load.Held object) in_turn h carries loaded is =
      carries_same past after seen added (ap (λ (p : BusPast). p.loaded) h.same) carries loaded is
  load_carries seen added past after load.Nothing in_turn (inl h) carries loaded is =
      carries_same past after seen added (ap (λ (p : BusPast). p.loaded) h.same) carries loaded is
  load_carries seen added past after load.Nothing in_turn (inr h) carries loaded is =
      carries_same past after seen added (ap (λ (p : BusPast). p.loaded) h.same) carries loaded is
  load_carries seen added past after (load.Busy object) in_turn (told, now, h) carries loaded is =
      carries_same past after seen added (ap (λ (p : BusPast). p.loaded) h.same) carries loaded is
  load_carries seen added past after (load.Spent object) in_turn h carries loaded is =
      carries_same past after seen added (ap (λ (p : BusPast). p.loaded) h.same) carries loaded is

  -- what is finished was loaded, and so started
  sent : (seen added : List Event) (past : BusPast) (object : ℕ) (started before left : Record) (number : ℕ) → Carries past seen
      → past.loaded ≡ Some (object, started) → Attempt terms object Finish tries seen added (Ok (Done before left number))
      → WasSent object started left seen added
  sent seen added past object started before left number carries is finish =
      record {
        start = earlier_changed (added ++ seen) added seen refl object Start started (carries (object, started) is);
        finish = made object Finish seen added before left number finish;
      }

  contends : (sends : RoundLine) (seen added : List Event) (past after : BusPast) (ended : RoundAnswer) → Carries past seen
      → Contends terms sends tries seen added past after ended → RoundShownBy sends.send.items ended seen added
  contends sends seen added past after (round.Sent object finished) carries h =
      let f = h.finish in
      (f.started, sent seen added past object f.started h.before finished h.number carries f.sent f.finish)
  contends sends seen added past after (round.Received None) carries h = tt
  contends sends seen added past after (round.Received (Some found)) carries (before, number, h) = (
    (h.winner, h.frame),
    sent_by_line (is_on past) past.loaded sends.send.items h.winner h.frame h.success.won h.another,
    scanned found.0 1 (Store h.frame) seen added before found.1 number h.scan,
  )
  contends sends seen added past after (round.Looped object left found) carries h = absurd h
  contends sends seen added past after round.Idle carries h = tt
  contends sends seen added past after round.Passed carries h = tt
  contends sends seen added past after round.Collision carries h = tt
  contends sends seen added past after round.NoAck carries h = tt
  contends sends seen added past after round.Fault carries h = tt
  contends sends seen added past after (round.Busy object) carries h = tt
  contends sends seen added past after (round.Spent object) carries h = tt

  contend_makes : (sends : RoundLine) (seen added : List Event) (past after : BusPast) (ended : RoundAnswer)
      → Contends terms sends tries seen added past after ended → RoundMakes ended (changes_in Bus added)
  contend_makes sends seen added past after (round.Sent object finished) h =
      one_made object Finish seen added h.before finished h.number h.finish.finish
  contend_makes sends seen added past after (round.Received None) h = none_found (Store h.frame) seen added h.scan
  contend_makes sends seen added past after (round.Received (Some found)) (before, number, h) =
      (h.frame, one_scanned found.0 (Store h.frame) seen added before found.1 number h.scan)
  contend_makes sends seen added past after (round.Looped object left found) h = absurd h
  contend_makes sends seen added past after round.Idle h = ap (changes_in Bus) h.quiet
  contend_makes sends seen added past after round.Passed h = ap (changes_in Bus) h.quiet
  contend_makes sends seen added past after round.Collision h = ap (changes_in Bus) h.quiet
  contend_makes sends seen added past after round.NoAck h = ap (changes_in Bus) h.quiet
  contend_makes sends seen added past after round.Fault h = ap (changes_in Bus) h.quiet
  contend_makes sends seen added past after (round.Busy object) (told, now, RefusedFinish h) =
      inl (none added (changes_by-attempt terms object Finish tries seen added (Err (refused.Busy told now)) h.finish))
  contend_makes sends seen added past after (round.Busy object) (told, now, RefusedScan h) =
      inl (none added (bounds_law terms (Store h.frame) tries 1 seen added (RefusedAt object (refused.Busy told now)) h.scan).1)
  contend_makes sends seen added past after (round.Spent object) (RefusedFinish h) =
      inl (none added (changes_by-attempt terms object Finish tries seen added (Err refused.Spent) h.finish))
  contend_makes sends seen added past after (round.Spent object) (RefusedScan h) =
      inl (none added (bounds_law terms (Store h.frame) tries 1 seen added (RefusedAt object refused.Spent) h.scan).1)

  -- what is sent in loop back mode, and then a scan
  looped_sent : (seen added last first : List Event) (past : BusPast) (object : ℕ) (started before left : Record) (number : ℕ)
      → added ≡ last ++ first → Carries past seen → past.loaded ≡ Some (object, started)
      → Attempt terms object Finish tries seen first (Ok (Done before left number))
      → WasSent object started left seen added
  looped_sent seen added last first past object started before left number whole carries is finish =
      record {
        start = earlier_changed (added ++ seen) added seen refl object Start started (carries (object, started) is);
        finish = earlier_changed added last first whole object Finish left
            (made object Finish seen first before left number finish);
      }

  loops : (sends : List (ℕ × Frame)) (seen added : List Event) (past after : BusPast) (ended : RoundAnswer) → Carries past seen
      → LoopsBack terms tries seen added past after ended → RoundShownBy sends ended seen added
  loops sends seen added past after (round.Looped object left None) carries h =
      let f = h.finish in (
        f.started,
        looped_sent seen added h.last h.first past object f.started h.before left h.number h.whole carries f.loaded f.finish,
      )
  loops sends seen added past after (round.Looped object left (Some found)) carries (before, number, h) =
      let f = h.finish in
      let stored : WasChanged found.0 (Store h.frame) found.1 added =
      newest_changed added h.last h.first h.whole found.0 (Store h.frame) found.1
      (scanned found.0 1 (Store h.frame) (h.first ++ seen) h.last before found.1 number h.scan) in (
        f.started,
        looped_sent seen added h.last h.first past object f.started h.before left h.number h.whole carries f.loaded f.finish,
        subst (λ (frame : Frame). WasStored frame found added) f.frame_is stored,
      )
  loops sends seen added past after (round.Sent object left) carries h = absurd h
  loops sends seen added past after (round.Received found) carries h = absurd h
  loops sends seen added past after round.Idle carries h = tt
  loops sends seen added past after round.Passed carries h = tt
  loops sends seen added past after round.Collision carries h = tt
  loops sends seen added past after round.NoAck carries h = tt
  loops sends seen added past after round.Fault carries h = tt
  loops sends seen added past after (round.Busy object) carries h = tt
  loops sends seen added past after (round.Spent object) carries h = tt

  loop_makes : (seen added : List Event) (past after : BusPast) (ended : RoundAnswer)
      → LoopsBack terms tries seen added past after ended → RoundMakes ended (changes_in Bus added)
  loop_makes seen added past after (round.Looped object left None) h =
      two_parts added h.last h.first h.whole [] ((object, Finish) ∷ [])
      (none_found (Store h.frame) (h.first ++ seen) h.last h.scan)
      (one_made object Finish seen h.first h.before left h.number h.finish.finish)
  loop_makes seen added past after (round.Looped object left (Some found)) (before, number, h) = (
    h.frame,
    two_parts added h.last h.first h.whole ((found.0, Store h.frame) ∷ []) ((object, Finish) ∷ [])
        (one_scanned found.0 (Store h.frame) (h.first ++ seen) h.last before found.1 number h.scan)
        (one_made object Finish seen h.first h.before left h.number h.finish.finish),
  )
  loop_makes seen added past after (round.Sent object left) h = absurd h
  loop_makes seen added past after (round.Received found) h = absurd h
  loop_makes seen added past after round.Idle h = ap (changes_in Bus) h.quiet
  loop_makes seen added past after round.Passed h = absurd h
  loop_makes seen added past after round.Collision h = absurd h
  loop_makes seen added past after round.NoAck h = absurd h
  loop_makes seen added past after round.Fault h = absurd h
  loop_makes seen added past after (round.Busy at) (told, now, AtFinish frame h) =
      inl (none added (changes_by-attempt terms at Finish tries seen added (Err (refused.Busy told now)) h.finish))
  loop_makes seen added past after (round.Busy at) (told, now, AtScan object finished h) = inr (
    object,
    two_parts added h.last h.first h.whole [] ((object, Finish) ∷ [])
        (none h.last (bounds_law terms (Store h.frame) tries 1 (h.first ++ seen) h.last
        (RefusedAt at (refused.Busy told now)) h.scan).1)
        (one_made object Finish seen h.first h.before finished h.number h.finish.finish),
  )
  loop_makes seen added past after (round.Spent at) (AtFinish frame h) =
      inl (none added (changes_by-attempt terms at Finish tries seen added (Err refused.Spent) h.finish))
  loop_makes seen added past after (round.Spent at) (AtScan object finished h) = inr (
    object,
    two_parts added h.last h.first h.whole [] ((object, Finish) ∷ [])
        (none h.last (bounds_law terms (Store h.frame) tries 1 (h.first ++ seen) h.last (RefusedAt at refused.Spent) h.scan).1)
        (one_made object Finish seen h.first h.before finished h.number h.finish.finish),
  )

  -- what follows a load: what it shows, and what it changes
  abbrev Follows : RoundLine → List Event → List Event → RoundAnswer → Type 0
  Follows sends seen added ended = RoundShownBy sends.send.items ended seen added × RoundMakes ended (changes_in Bus added)

  transfers : (back : Bool) (sends : RoundLine) (seen added : List Event) (past after : BusPast) (ended : RoundAnswer)
      → Carries past seen → Transfers back terms sends tries seen added past after ended → Follows sends seen added ended
  transfers true sends seen added past after ended carries h =
      (loops sends.send.items seen added past after ended carries h, loop_makes seen added past after ended h)
  transfers false sends seen added past after ended carries h =
      (contends sends seen added past after ended carries h, contend_makes sends seen added past after ended h)

  continues : (loading : LoadAnswer) (sends : RoundLine) (seen added : List Event) (past after : BusPast) (ended : RoundAnswer)
      → Carries past seen → Continues (refusal_of_round loading) terms sends tries seen added past after ended
      → Follows sends seen added ended
  continues (load.Loaded object started) sends seen added past after ended carries h =
      transfers (hears_itself past) sends seen added past after ended carries h
  continues (load.Held object) sends seen added past after ended carries h =
      transfers (hears_itself past) sends seen added past after ended carries h
  continues load.Nothing sends seen added past after ended carries h =
      transfers (hears_itself past) sends seen added past after ended carries h
  continues (load.Busy object) sends seen added past after ended carries h = rw h.told (tt, inl (ap (changes_in Bus) h.quiet))
  continues (load.Spent object) sends seen added past after ended carries h = rw h.told (tt, inl (ap (changes_in Bus) h.quiet))

  rounds : (sends : RoundLine) (seen added : List Event) (past after : BusPast) (ended : RoundAnswer) → ChoosesInTurn past
      → Carries past seen → Round terms sends tries seen added past after ended
      → IsBusPart terms.profile (line.Round sends) (answer.Round ended) seen added
  rounds sends seen added past after ended in_turn carries h =
      let loaded = load_carries seen h.first past h.between h.loading in_turn h.loads carries in
      let follows = continues h.loading sends (h.first ++ seen) h.last h.between after ended loaded h.continues in
      record {
        shown = newest_shows added h.last h.first h.whole sends.send.items seen ended follows.0;
        changes = (
          changes_in Bus h.last,
          changes_in Bus h.first,
          ap (changes_in Bus) h.whole ∙ changes_in-append Bus h.last h.first,
          load_starts seen h.first past h.between h.loading in_turn h.loads,
          follows.1,
        );
      }

  -- a round that is idle leaves what is loaded, and others leave nothing loaded
  idle_transfer : (back : Bool) (sends : RoundLine) (seen added : List Event) (past after : BusPast)
      → Transfers back terms sends tries seen added past after round.Idle → after ≡ past
  idle_transfer true sends seen added past after h = h.same
  idle_transfer false sends seen added past after h = h.same

  idle_same : (loading : LoadAnswer) (sends : RoundLine) (seen added : List Event) (past after : BusPast)
      → Continues (refusal_of_round loading) terms sends tries seen added past after round.Idle → after ≡ past
  idle_same (load.Loaded object started) sends seen added past after h =
      idle_transfer (hears_itself past) sends seen added past after h
  idle_same (load.Held object) sends seen added past after h = idle_transfer (hears_itself past) sends seen added past after h
  idle_same load.Nothing sends seen added past after h = idle_transfer (hears_itself past) sends seen added past after h
  idle_same (load.Busy object) sends seen added past after h = h.same
  idle_same (load.Spent object) sends seen added past after h = h.same

  module _ (sends : RoundLine) (seen added : List Event) (past after : BusPast) (in_turn : ChoosesInTurn past) where
    abbrev Keeps : RoundAnswer → Type 0
    Keeps ended = Round terms sends tries seen added past after ended → Carries past seen → Carries after (added ++ seen)

    not_idle : (ended : RoundAnswer) → (ended ≡ round.Idle → ⊥) → Keeps ended
    not_idle ended other h carries =
        carries_nothing after (added ++ seen) (nothing_after terms sends tries seen added past after ended h other)

    round_carries : (ended : RoundAnswer) → Keeps ended
    round_carries round.Idle h carries =
        let same = idle_same h.loading sends (h.first ++ seen) h.last h.between after h.continues in
        let there = carries_same h.between after (h.first ++ seen) h.last (ap (λ (p : BusPast). p.loaded) same)
        (load_carries seen h.first past h.between h.loading in_turn h.loads carries) in
        let all : h.last ++ (h.first ++ seen) ≡ added ++ seen =
        sym (append_assoc h.last h.first seen) ∙ ap (λ (es : List Event). es ++ seen) (sym h.whole) in
        subst (λ (es : List Event). Carries after es) all there
    round_carries (round.Sent object left) h carries = not_idle (round.Sent object left) (λ e. cc) h carries
    round_carries (round.Received found) h carries = not_idle (round.Received found) (λ e. cc) h carries
    round_carries (round.Looped object left found) h carries = not_idle (round.Looped object left found) (λ e. cc) h carries
    round_carries round.Passed h carries = not_idle round.Passed (λ e. cc) h carries
    round_carries round.Collision h carries = not_idle round.Collision (λ e. cc) h carries
    round_carries round.NoAck h carries = not_idle round.NoAck (λ e. cc) h carries
    round_carries round.Fault h carries = not_idle round.Fault (λ e. cc) h carries
    round_carries (round.Busy object) h carries = not_idle (round.Busy object) (λ e. cc) h carries
    round_carries (round.Spent object) h carries = not_idle (round.Spent object) (λ e. cc) h carries

  -- ---- the other lines

  interrupts : (pending : Bool) (value : ℕ) (seen added : List Event) → Interrupts terms pending added value
      → IsBusPart terms.profile line.Interrupt (answer.Interrupt value) seen added
  interrupts true value seen added h = record { shown = inl h.0; changes = ap (changes_in Bus) h.1 }
  interrupts false value seen added h =
      record {
        shown =
            inr (subst (λ (port : PortName). NamesPending port terms.profile value added) bus
            (number_shown terms IntPnd value added h));
        changes = none added (changes_by-number terms IntPnd value added h);
      }

  flags : (flag : Flag) (word : ℕ) (seen added : List Event) → ReadsFlags terms flag added word
      → IsBusPart terms.profile (line.Flags flag) (answer.Flags flag word terms.profile) seen added
  flags flag word seen added h =
      record {
        shown = subst (λ (port : PortName). WordWasShown port terms.profile flag word added) bus
            (word_shown terms flag word added h);
        changes = none added (changes_by-flags terms flag added word h);
      }

  bus_line : (line : BusLine) (past : BusPast) (seen added : List Event) (reply : LineAnswer) (after : BusPast)
      → ChoosesInTurn past → Carries past seen → BusLineAdds terms tries line past seen added reply after
      → IsBusPart terms.profile line reply seen added
  bus_line line.Load past seen added reply after in_turn carries (loading, is, h) =
      rw is (record {
        shown = loads seen added past after loading in_turn h;
        changes = load_makes seen added past after loading in_turn h;
      })
  bus_line (line.Round sends) past seen added reply after in_turn carries (ended, is, h) =
      rw is (rounds sends seen added past after ended in_turn carries h)
  bus_line line.Interrupt past seen added reply after in_turn carries h =
      rw h.answer_is (interrupts h.pending h.value seen added h.reads)
  bus_line (line.Flags flag) past seen added reply after in_turn carries h = rw h.answer_is (flags flag h.word seen added h.reads)
  bus_line (line.Controller at) past seen added reply after in_turn carries h =
      rw h.answer_is
      (quiet_part terms.profile (line.Controller at) seen added (ap (changes_in Bus) h.quiet) at past)

  line_carries : (line : BusLine) (past : BusPast) (seen added : List Event) (reply : LineAnswer) (after : BusPast)
      → ChoosesInTurn past → BusLineMeans terms tries line past seen added reply after
      → BusLineAdds terms tries line past seen added reply after → Carries past seen
      → Carries after (added ++ seen)
  line_carries line.Load past seen added reply after in_turn means (loading, is, h) carries =
      load_carries seen added past after loading in_turn h carries
  line_carries (line.Round sends) past seen added reply after in_turn means (ended, is, h) carries =
      round_carries sends seen added past after in_turn ended h carries
  line_carries other past seen added reply after in_turn means adds carries =
      carries_same past after seen added (still_stays terms tries other past after seen added reply refl means).loaded carries

  -- ---- what a line is answered

  replies_to : (line : BusLine) (past : BusPast) (seen added : List Event) (reply : LineAnswer) (after : BusPast)
      → BusLineAdds terms tries line past seen added reply after → IsBusReplyTo terms.profile line reply
  replies_to line.Load past seen added reply after means = rw means.1 tt
  replies_to (line.Round sends) past seen added reply after means = rw means.1 tt
  replies_to line.Interrupt past seen added reply after means = rw means.answer_is tt
  replies_to (line.Flags flag) past seen added reply after means = rw means.answer_is (refl, refl)
  replies_to (line.Controller at) past seen added reply after means = (past, means.answer_is)

  -- the lines of the bus, whatever comes after them
  bus_lines : (lines : List BusLine) (past : BusPast) (seen added : List Event) (answers : List LineAnswer) (left : BusPast)
      → ChoosesInTurn past → Carries past seen → LinesMean (BusLineMeans terms tries) lines past seen added answers left
      → (more : List Event)
      → events_of Bus more ≡ [] → BusInOrder terms.profile lines answers seen (more ++ added)
  bus_lines [] past seen added answers left in_turn carries (none, empty, same) more foreign =
      let last : events_of Bus (more ++ added) ≡ [] = rw none (ap (events_of Bus) (append-nil more) ∙ foreign) in
      subst (λ (l : List LineAnswer). BusInOrder terms.profile [] l seen (more ++ added)) (sym empty) last
  bus_lines (line ∷ lines) past seen added answers left in_turn carries
      (later, first, reply, replies, between, whole, all, means, rest) more foreign =
      let adds = (bus_adds terms tries line past between seen first reply).0 means in
      let kept = line_carries line past seen first reply between in_turn means adds carries in
      let still = line_keeps terms tries line past between seen first reply in_turn means in
      let there : BusInOrder terms.profile (line ∷ lines) (reply ∷ replies) seen (more ++ added) = (
        more ++ later,
        first,
        ap (λ (es : List Event). more ++ es) whole ∙ sym (append_assoc more later first),
        replies_to line past seen first reply between adds,
        bus_line line past seen first reply between in_turn carries adds,
        bus_lines lines between (first ++ seen) later replies left still kept rest more foreign,
      ) in
      subst (λ (l : List LineAnswer). BusInOrder terms.profile (line ∷ lines) l seen (more ++ added)) (sym all) there

  -- from a bus as it opens
  pub opened_lines : (lines : List BusLine) (nodes : ℕ) (added : List Event) (answers : List LineAnswer) (left : BusPast)
      → LinesMean (BusLineMeans terms tries) lines (opened nodes) [] added answers left → (more : List Event)
      → events_of Bus more ≡ [] → BusInOrder terms.profile lines answers [] (more ++ added)
  opened_lines lines nodes added answers left means more foreign =
      bus_lines lines (opened nodes) [] added answers left refl (carries_nothing (opened nodes) [] refl) means more foreign
