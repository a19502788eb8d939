-- Turns of the three handles of a chip, with a meeting before each. The handle that had the last turn is in front. Where the
-- history that its port has seen has just the events that the three ports know to be theirs, all calls so far ran over a chip
-- of one thread; and the end of the chip shows that it has no others.
use Rattle.std.proofs.Common.{◌≡◌, ◌≢◌, ◌≤◌, ℕ, List, [], ◌∷◌, ◌++◌, map, inl, inr, refl, sym, ap, ap₂, subst, ◌∙◌}
use Rattle.std.proofs.Common.{append_assoc, append-nil}
use Rattle.ccan_object.specs.declared.profile.Profile.{Profile}
use Rattle.ccan_ram.specs.declared.port.PortName.{PortName}
use Rattle.ccan_ram.specs.declared.port.PortName.TheVariants.{If1, If2, Bus}
use Rattle.ccan_ram.specs.SharedRam.{Memory, IsMemoryOf, terms_of}
use Rattle.ccan_ram.specs.Terms.{Terms, one_thread_terms}
use Rattle.ccan_endless.specs.Chip.{ChipHistory, GoesFrom}
use Rattle.ccan_endless.specs.Layout.{most, same_object}
use Rattle.ccan_line.proofs.Apart.{same_or_not}
use Rattle.ccan_registers.specs.declared.interface_set.InterfaceSet.{InterfaceSet}
use Rattle.ccan_c.specs.declared.shown_final.ShownFinal.{ShownFinal}
use Rattle.ccan_c.specs.FrameCall.{BusState, CallOnBus, CallOnBusMeans}
use Rattle.ccan_c.specs.HostCall.{HostCall, HostCallMeans}
use Rattle.ccan_c.specs.OneThread.{Turn, on_if1, on_if2, on_bus, turn_alone, met_turns, in_turns, calls_of_turn, calls_of}
use Rattle.ccan_c.specs.OneThread.{PortCall, of_if1, of_if2, of_bus, PortCallMeans, Three, opening_three, single_terms}
use Rattle.ccan_c.specs.OneThread.{RunInOrder, TurnsRunInOrder}
use Rattle.ccan_c.specs.Opening.{Set}
use Rattle.ccan_c.specs.Step.{Place, CallsMean, own_of}
use Rattle.ccan_c.specs.Threads.{Places, opened_with, opening, PartMeans, PartsMean, MeetsAll, HaveMetAll, FitOneHistory}
use Rattle.ccan_c.proofs.CallsApart.{host_call_apart, call_on_bus_apart}
use Rattle.ccan_c.proofs.OwnEvents.{ActsAlone, alone_in_parts, both_empty, no_others, none_of_all, own_of-append}
use Rattle.ccan_c.proofs.ThreadsFit.{fit_one_history}

-- the calls of a turn of a port start from this history: it has all that any port had seen, and of the port itself no other
-- events. The others make none in the turn
record StartsFrom (port : PortName) (before after : PortName → ChipHistory) (start : ChipHistory) : Type 0 where
  begins : (name : PortName) → GoesFrom start (before name)
  own : own_of port start ≡ own_of port (before port)
  others : (name : PortName) → name ≢ port → own_of name (after name) ≡ own_of name (before name)

-- ---- calls, one after another

-- calls during which nobody else acts, where each is one under other terms
module _ {Call State : Type 0} (port : PortName) (means alone_means : Call → State → ChipHistory → ChipHistory → State → Type 0)
    (apart : (call : Call) (state : State) (seen added : ChipHistory) (left : State) → ActsAlone port added
    → means call state seen added left → alone_means call state seen added left) where
  calls_apart : (calls : List Call) (old new : Place State) → CallsMean means calls old new
      → (added : ChipHistory) × (new.seen ≡ added ++ old.seen) × (ActsAlone port added → CallsMean alone_means calls old new)
  calls_apart [] old new is = ([], ap (λ (p : Place State). p.seen) is, λ alone. is)
  calls_apart (call ∷ calls) old new (first, left, m, rest) =
      let r = calls_apart calls (record { state = left; seen = first ++ old.seen }) new rest in (
        r.0 ++ first,
        r.1 ∙ sym (append_assoc r.0 first old.seen),
        λ alone. (
            let parts = alone_in_parts port r.0 first (r.0 ++ first) refl alone in
            (first, left, apart call old.state old.seen first left parts.1 m, r.2 parts.0)
            ),
      )

-- calls of one handle among those of all
module _ {Call Other State Whole : Type 0} (means : Call → State → ChipHistory → ChipHistory → State → Type 0)
    (whole_means : Other → Whole → ChipHistory → ChipHistory → Whole → Type 0) (name : Call → Other) (in_whole : State → Whole)
    (each : (call : Call) (state : State) (seen added : ChipHistory) (left : State) → means call state seen added left
    → whole_means (name call) (in_whole state) seen added (in_whole left)) where
  calls_among : (calls : List Call) (old new : Place State) → CallsMean means calls old new
      → CallsMean whole_means (map name calls) (record { state = in_whole old.state; seen = old.seen })
      (record { state = in_whole new.state; seen = new.seen })
  calls_among [] old new is =
      ap (λ (p : Place State). (let q : Place Whole = record { state = in_whole p.state; seen = p.seen } in q)) is
  calls_among (call ∷ calls) old new (first, left, m, rest) = (
    first,
    in_whole left,
    each call old.state old.seen first left m,
    calls_among calls (record { state = left; seen = first ++ old.seen }) new rest,
  )

calls_then : {Call State : Type 0} (means : Call → State → ChipHistory → ChipHistory → State → Type 0) (xs ys : List Call)
    (a b d : Place State) → CallsMean means xs a b → CallsMean means ys b d → CallsMean means (xs ++ ys) a d
calls_then means [] ys a b d is h = subst (λ (p : Place _). CallsMean means ys p d) is h
calls_then means (x ∷ xs) ys a b d (first, left, m, rest) h =
    (first, left, m, calls_then means xs ys (record { state = left; seen = first ++ a.seen }) b d rest h)

-- ---- the three handles

abbrev seen_in : Places → PortName → ChipHistory
seen_in places If1 = places.if1.seen
seen_in places If2 = places.if2.seen
seen_in places Bus = places.bus.seen

abbrev three_in : Places → Three
three_in places = record { first = places.if1.state; second = places.if2.state; bus = places.bus.state }

-- a history has just the events that its ports know to be theirs
abbrev IsTheirs : (PortName → ChipHistory) → ChipHistory → Type 0
IsTheirs seen history = (name : PortName) → own_of name history ≡ own_of name (seen name)

module _ (profile : Profile) (set : Set) where
  abbrev Means : PortCall → Three → ChipHistory → ChipHistory → Three → Type 0
  Means = PortCallMeans (single_terms profile) set

  abbrev Runs : List PortCall → Three → ChipHistory → Three → ChipHistory → Type 0
  Runs calls three seen left history =
      CallsMean Means calls (record { state = three; seen = seen }) (record { state = left; seen = history })

  -- what a turn of a port comes to, with the meeting before it
  record Turned (old new : Places) (port : PortName) (calls : List PortCall) : Type 0 where
    start : ChipHistory
    starts : StartsFrom port (seen_in old) (seen_in new) start
    added : ChipHistory
    after_is : seen_in new port ≡ added ++ start
    runs : ActsAlone port added → Runs calls (three_in old) start (three_in new) (seen_in new port)

  -- one port is in front: what it has seen has at least the events that each port knows to be its own. If it has no others,
  -- then the calls so far ran over a chip of one thread, with what that port has seen as the whole history
  record SoFar (now : Places) (calls : List PortCall) : Type 0 where
    front : PortName
    holds : (name : PortName) → GoesFrom (own_of name (seen_in now front)) (own_of name (seen_in now name))
    ran : IsTheirs (seen_in now) (seen_in now front)
        → Runs calls (opening_three set) set.opening.begun (three_in now) (seen_in now front)

  so_far_none : SoFar (opening set) []
  so_far_none = record {
    front = If1;
    holds = elim [ If1 ↦ ([], refl) | If2 ↦ ([], refl) | Bus ↦ ([], refl) ];
    ran = λ theirs. refl;
  }

  -- ---- one more turn

  module _ (old new : Places) (port : PortName) (done calls : List PortCall) (s : SoFar old done)
      (turn : Turned old new port calls) where
    abbrev before : PortName → ChipHistory
    before = seen_in old

    abbrev after : PortName → ChipHistory
    after = seen_in new

    abbrev front : ChipHistory
    front = before s.front

    -- what the port saw for the first time as its turn began
    abbrev gap : ChipHistory
    gap = (turn.starts.begins s.front).0

    start_is : turn.start ≡ gap ++ front
    start_is = (turn.starts.begins s.front).1

    after_is : after port ≡ (turn.added ++ gap) ++ front
    after_is = turn.after_is ∙ ap (λ es. turn.added ++ es) start_is ∙ sym (append_assoc turn.added gap front)

    holds_more : (name : PortName) → GoesFrom (own_of name (after port)) (own_of name (after name))
    holds_more name = elim (same_or_not name port) [
      | inl is ↦ subst (λ (p : PortName). GoesFrom (own_of p (after port)) (own_of p (after p))) (sym is) ([], refl)
      | inr apart ↦
          let last = own_of name (turn.added ++ gap) in
          let more = (s.holds name).0 in
          let own = own_of name (before name) in (
            last ++ more,
            ap (own_of name) after_is ∙ own_of-append name (turn.added ++ gap) front
                ∙ ap (λ es. last ++ es) (s.holds name).1 ∙ sym (append_assoc last more own)
                ∙ ap (λ es. (last ++ more) ++ es) (sym (turn.starts.others name apart)),
          )
    ]

    module _ (theirs : IsTheirs after (after port)) where
      of_another : (name : PortName) → name ≢ port
          → (own_of name turn.added ≡ []) × (own_of name gap ≡ []) × (own_of name front ≡ own_of name (before name))
      of_another name apart =
          let all = ap (own_of name) (sym after_is) ∙ theirs name ∙ turn.starts.others name apart in
          let none = no_others name (turn.added ++ gap) front (own_of name (before name)) (s.holds name) all in
          let parts = both_empty (own_of name turn.added) (own_of name gap)
          (sym (own_of-append name turn.added gap) ∙ none.0) in
          (parts.0, parts.1, none.1)

      of_own : (own_of port gap ≡ []) × (own_of port front ≡ own_of port (before port))
      of_own =
          no_others port gap front (own_of port (before port)) (s.holds port)
          (ap (own_of port) (sym start_is) ∙ turn.starts.own)

      of_any : (name : PortName) → (own_of name gap ≡ []) × (own_of name front ≡ own_of name (before name))
      of_any name = elim (same_or_not name port) [
        | inl is ↦
            subst (λ (p : PortName). (own_of p gap ≡ []) × (own_of p front ≡ own_of p (before p))) (sym is) of_own
        | inr apart ↦ let one = of_another name apart in (one.1, one.2)
      ]

      start_is_front : turn.start ≡ front
      start_is_front = start_is ∙ ap (λ es. es ++ front) (none_of_all gap (λ name. (of_any name).0))

      -- then nobody else acted during the turn, which began where the calls before it ended
      ran_more : Runs (done ++ calls) (opening_three set) set.opening.begun (three_in new) (after port)
      ran_more =
          let here = subst (λ (es : ChipHistory). Runs calls (three_in old) es (three_in new) (after port)) start_is_front
          (turn.runs (λ other apart. (of_another other apart).0)) in
          let earlier = s.ran (λ name. (of_any name).1) in
          calls_then Means done calls (record { state = opening_three set; seen = set.opening.begun })
          (record { state = three_in old; seen = front }) (record { state = three_in new; seen = after port }) earlier here

    so_far_more : SoFar new (done ++ calls)
    so_far_more = record { front = port; holds = holds_more; ran = ran_more }

  -- ---- a turn of each handle

  module _ (memory : Memory) (same : IsMemoryOf profile most memory) (some : 1 ≤ set.tries) where
    abbrev shared : PortName → Terms
    shared port = terms_of same_object memory port

    single_is : (port : PortName) → one_thread_terms memory.profile port memory.quota ≡ single_terms profile port
    single_is port = ap₂ (λ (p : Profile) (quota : ℕ). one_thread_terms p port quota) same.profile_is same.quota_is

    host_apart_at : (port : PortName) (call : HostCall) (own : InterfaceSet) (seen added : ChipHistory) (left : InterfaceSet)
        → ActsAlone port added → HostCallMeans (shared port) set.tries set.map call own seen added left
        → HostCallMeans (single_terms profile port) set.tries set.map call own seen added left
    host_apart_at port call own seen added left alone h =
        subst (λ (t : Terms). HostCallMeans t set.tries set.map call own seen added left) (single_is port)
        (host_call_apart (shared port) set.tries some set.map seen added alone call own left h)

    bus_apart_at : (call : CallOnBus) (past : BusState) (seen added : ChipHistory) (left : BusState) → ActsAlone Bus added
        → CallOnBusMeans (shared Bus) set.tries set.nodes set.map call past seen added left
        → CallOnBusMeans (single_terms profile Bus) set.tries set.nodes set.map call past seen added left
    bus_apart_at call past seen added left alone h =
        subst (λ (t : Terms). CallOnBusMeans t set.tries set.nodes set.map call past seen added left) (single_is Bus)
        (call_on_bus_apart (shared Bus) set.tries some set.map seen added alone set.nodes call past left h)

    -- a handle that made no call after the meeting
    quiet : {State : Type 0} (port : PortName) (all : Places) (old met new : Place State) → MeetsAll port all old met → new ≡ met
        → (new.state ≡ old.state) × (own_of port new.seen ≡ own_of port old.seen)
    quiet port all old met new meets is = (
      ap (λ (p : Place _). p.state) is ∙ meets.keeps,
      ap (λ (p : Place _). own_of port p.seen) is ∙ meets.own,
    )

    begins_all : {State : Type 0} (port : PortName) (all : Places) (old met : Place State) → MeetsAll port all old met
        → (name : PortName) → GoesFrom met.seen (seen_in all name)
    begins_all port all old met meets If1 = meets.begins_if1
    begins_all port all old met meets If2 = meets.begins_if2
    begins_all port all old met meets Bus = meets.begins_bus

    -- the handle of the turn starts from what it had seen after the meeting, and adds the events of its calls; the two others
    -- stay as the meeting left them, in which they made no event
    turned : (turn : Turn) (old met new : Places) → HaveMetAll old met
        → PartMeans shared set (turn_alone turn) met new
        → (port : PortName) × Turned old new port (calls_of_turn turn)
    turned (on_if1 calls) old met new m h =
        let second = quiet If2 old old.if2 met.if2 new.if2 m.if2_meets h.if2_means in
        let third = quiet Bus old old.bus met.bus new.bus m.bus_meets h.bus_means in
        let r = calls_apart If1 (HostCallMeans (shared If1) set.tries set.map)
        (HostCallMeans (single_terms profile If1) set.tries set.map)
        (host_apart_at If1) calls met.if1 new.if1 h.if1_means in
        let among : InterfaceSet → Three = λ own. record (three_in old) { first = own } in
        let old_is : among met.if1.state ≡ three_in old = ap among m.if1_meets.keeps in
        let new_is : among new.if1.state ≡ three_in new =
        λ i. record { first = new.if1.state; second = sym second.0 i; bus = sym third.0 i } in (
          If1,
          record {
            start = met.if1.seen;
            starts = record {
              begins = begins_all If1 old old.if1 met.if1 m.if1_meets;
              own = m.if1_meets.own;
              others = elim [ If1 ↦ λ other. absurd (other refl) | If2 ↦ λ other. second.1 | Bus ↦ λ other. third.1 ];
            };
            added = r.0;
            after_is = r.1;
            runs = λ alone.
                subst (λ (t : Three). Runs (map of_if1 calls) t met.if1.seen (three_in new) new.if1.seen) old_is
                (subst (λ (t : Three). Runs (map of_if1 calls) (among met.if1.state) met.if1.seen t new.if1.seen) new_is
                (calls_among (HostCallMeans (single_terms profile If1) set.tries set.map) Means of_if1 among
                (λ call state seen added left k. (left, k, refl)) calls met.if1 new.if1 (r.2 alone)));
          },
        )
    turned (on_if2 calls) old met new m h =
        let first = quiet If1 old old.if1 met.if1 new.if1 m.if1_meets h.if1_means in
        let third = quiet Bus old old.bus met.bus new.bus m.bus_meets h.bus_means in
        let r = calls_apart If2 (HostCallMeans (shared If2) set.tries set.map)
        (HostCallMeans (single_terms profile If2) set.tries set.map)
        (host_apart_at If2) calls met.if2 new.if2 h.if2_means in
        let among : InterfaceSet → Three = λ own. record (three_in old) { second = own } in
        let old_is : among met.if2.state ≡ three_in old = ap among m.if2_meets.keeps in
        let new_is : among new.if2.state ≡ three_in new =
        λ i. record { first = sym first.0 i; second = new.if2.state; bus = sym third.0 i } in (
          If2,
          record {
            start = met.if2.seen;
            starts = record {
              begins = begins_all If2 old old.if2 met.if2 m.if2_meets;
              own = m.if2_meets.own;
              others = elim [ If1 ↦ λ other. first.1 | If2 ↦ λ other. absurd (other refl) | Bus ↦ λ other. third.1 ];
            };
            added = r.0;
            after_is = r.1;
            runs = λ alone.
                subst (λ (t : Three). Runs (map of_if2 calls) t met.if2.seen (three_in new) new.if2.seen) old_is
                (subst (λ (t : Three). Runs (map of_if2 calls) (among met.if2.state) met.if2.seen t new.if2.seen) new_is
                (calls_among (HostCallMeans (single_terms profile If2) set.tries set.map) Means of_if2 among
                (λ call state seen added left k. (left, k, refl)) calls met.if2 new.if2 (r.2 alone)));
          },
        )
    turned (on_bus calls) old met new m h =
        let first = quiet If1 old old.if1 met.if1 new.if1 m.if1_meets h.if1_means in
        let second = quiet If2 old old.if2 met.if2 new.if2 m.if2_meets h.if2_means in
        let r = calls_apart Bus (CallOnBusMeans (shared Bus) set.tries set.nodes set.map)
        (CallOnBusMeans (single_terms profile Bus) set.tries set.nodes set.map)
        bus_apart_at calls met.bus new.bus h.bus_means in
        let among : BusState → Three = λ past. record (three_in old) { bus = past } in
        let old_is : among met.bus.state ≡ three_in old = ap among m.bus_meets.keeps in
        let new_is : among new.bus.state ≡ three_in new =
        λ i. record { first = sym first.0 i; second = sym second.0 i; bus = new.bus.state } in (
          Bus,
          record {
            start = met.bus.seen;
            starts = record {
              begins = begins_all Bus old old.bus met.bus m.bus_meets;
              own = m.bus_meets.own;
              others = elim [ If1 ↦ λ other. first.1 | If2 ↦ λ other. second.1 | Bus ↦ λ other. absurd (other refl) ];
            };
            added = r.0;
            after_is = r.1;
            runs = λ alone.
                subst (λ (t : Three). Runs (map of_bus calls) t met.bus.seen (three_in new) new.bus.seen) old_is
                (subst (λ (t : Three). Runs (map of_bus calls) (among met.bus.state) met.bus.seen t new.bus.seen) new_is
                (calls_among (CallOnBusMeans (single_terms profile Bus) set.tries set.nodes set.map) Means of_bus among
                (λ call state seen added left k. (left, k, refl)) calls met.bus new.bus (r.2 alone)));
          },
        )

    all_turned : (turns : List Turn) (old last : Places) (done : List PortCall) → SoFar old done
        → PartsMean shared set (met_turns turns) old last → SoFar last (done ++ calls_of turns)
    all_turned [] old last done s is =
        subst (λ (calls : List PortCall). SoFar last calls) (sym (append-nil done))
        (subst (λ (p : Places). SoFar p done) (sym is) s)
    all_turned (turn ∷ turns) old last done s (met, meets, (between, means, rest)) =
        let t = turned turn old met between meets means in
        let more = so_far_more old between t.0 done (calls_of_turn turn) s t.1 in
        subst (λ (calls : List PortCall). SoFar last calls) (append_assoc done (calls_of_turn turn) (calls_of turns))
        (all_turned turns between last (done ++ calls_of_turn turn) more rest)

    -- handles that have just opened have met
    met_opening : HaveMetAll (opening set) (opening set)
    met_opening = record {
      if1_meets = record { keeps = refl; begins_if1 = ([], refl); begins_if2 = ([], refl); begins_bus = ([], refl); own = refl };
      if2_meets = record { keeps = refl; begins_if1 = ([], refl); begins_if2 = ([], refl); begins_bus = ([], refl); own = refl };
      bus_meets = record { keeps = refl; begins_if1 = ([], refl); begins_if2 = ([], refl); begins_bus = ([], refl); own = refl };
    }

    first_met : (turns : List Turn) (last : Places) → PartsMean shared set (in_turns turns) (opening set) last
        → PartsMean shared set (met_turns turns) (opening set) last
    first_met [] last is = is
    first_met (turn ∷ turns) last (between, means, rest) = (opening set, met_opening, (between, means, rest))

  -- ---- the end

  in_order : (turns : List Turn) (out : ShownFinal) → 1 ≤ set.tries → FitOneHistory profile (opened_with set) (in_turns turns) out
      → RunInOrder profile set (calls_of turns) out
  in_order turns out some fit =
      let s = all_turned fit.memory fit.memory_is some turns (opening set) fit.last [] so_far_none
      (first_met fit.memory fit.memory_is some turns fit.last
      (subst (λ (p : Places). PartsMean (terms_of same_object fit.memory) set (in_turns turns) p fit.last) fit.begins
      fit.means)) in
      let theirs : IsTheirs (seen_in fit.last) fit.history
      = elim [ If1 ↦ fit.if1.own | If2 ↦ fit.if2.own | Bus ↦ fit.bus.own ] in
      let begins : (name : PortName) → GoesFrom fit.history (seen_in fit.last name)
      = elim [ If1 ↦ fit.if1.begins | If2 ↦ fit.if2.begins | Bus ↦ fit.bus.begins ] in
      let front = seen_in fit.last s.front in
      let more = begins s.front in
      let none : (name : PortName)
      → (own_of name more.0 ≡ []) × (own_of name front ≡ own_of name (seen_in fit.last name))
      = λ name. no_others name more.0 front (own_of name (seen_in fit.last name)) (s.holds name)
      (ap (own_of name) (sym more.1) ∙ theirs name) in
      let whole : fit.history ≡ front = more.1 ∙ ap (λ es. es ++ front) (none_of_all more.0 (λ name. (none name).0)) in
      record {
        history = fit.history;
        legal = fit.legal;
        steps_legal = fit.steps_legal;
        left = three_in fit.last;
        means =
            subst (λ (es : ChipHistory). Runs (calls_of turns) (opening_three set) set.opening.begun (three_in fit.last) es)
            (sym whole) (s.ran (λ name. (none name).1));
        shows = fit.shows;
      }

pub turns_in_order : TurnsRunInOrder
turns_in_order profile set turns chip last out some opens does ends =
    in_order profile set turns out some
    (fit_one_history profile (opened_with set) (in_turns turns) chip last out opens does ends)
