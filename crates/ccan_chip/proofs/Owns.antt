-- What a round is to the controller's registers, by what was decided and the last error code that is left: the events and the
-- steps of the Status register that the decision adds, case by case.
use Rattle.std.proofs.Common.{ℕ, ◌≡◌, ◌≢◌, ◌==◌, Bool, true, false, ◌&&◌, List, ◌∷◌, cond, refl, sym, ap, subst, ◌∙◌, true≢false, inl, inr, arith}
use Rattle.std.proofs.lemmas.Bool.{cases_eq}
use Rattle.std.proofs.lemmas.Bool.Decides.{nat_tests}
use Rattle.std.specs.Prelude.{Some, None}
use Rattle.ccan_confine.specs.declared.bus_event.BusEvent.{BusEvent}
use Rattle.ccan_confine.specs.declared.bus_event.BusEvent.TheVariants as event
use Rattle.ccan_confine.specs.declared.status_event.StatusEvent.{StatusEvent}
use Rattle.ccan_confine.specs.declared.status_event.StatusEvent.TheVariants as status
use Rattle.ccan_confine.specs.Counters.{Bus, Levels}
use Rattle.ccan_confine.specs.Status.{StatusStep, Happened, code_given, lec_of}
use Rattle.ccan_confine.proofs.StatusCalls.{newest-more}
use Rattle.ccan_bus.specs.declared.decision.Decision.{Decision}
use Rattle.ccan_bus.specs.declared.decision.Decision.TheVariants as decision
use Rattle.ccan_bus.specs.declared.round_line.Fault.{Fault}
use Rattle.ccan_bus.specs.declared.round_line.Fault.TheVariants as fault
use Rattle.ccan_bus.specs.declared.round_line.RoundLine.{RoundLine}
use Rattle.ccan_bus.specs.Contenders.{contenders_of, sends_least}
use Rattle.ccan_bus.specs.Controller.{WasTo}
use Rattle.ccan_bus.specs.Decide.{Decides, DecidesBack, DecidesBetween}
use Rattle.ccan_bus.specs.Past.{BusPast, events_after, happens, is_on, levels_at, sends_to_itself, steps_after, with_own}
use Rattle.ccan_bus.specs.Round.{shared, is_node}
use Rattle.ccan_bus.specs.RoundLine.{code_of}
use Rattle.ccan_chip.specs.Round.{fault_of, faulted, own_of}

-- a transfer or its fault was one event to a controller that is on
pub record Has (each : BusEvent) (noted : StatusEvent) (past after : BusPast) : Type 0 where
  pub events : after.events 0 ≡ Bus each ∷ past.events 0
  pub steps : after.steps ≡ Happened noted (levels_at after 0) ∷ past.steps

happens_on : (each : ℕ → BusEvent) (noted : StatusEvent) (past : BusPast) → is_on past 0 ≡ true
    → Has (each 0) noted past (happens each noted past)
unfolding events_after steps_after
happens_on each noted past on = record { events = rw on refl; steps = rw on refl }

pub has : (each : ℕ → BusEvent) (noted : StatusEvent) (past after : BusPast) → after ≡ happens each noted past
    → is_on past 0 ≡ true → Has (each 0) noted past after
has each noted past after is on = subst (Has (each 0) noted past) (sym is) (happens_on each noted past on)

happens_off : (each : ℕ → BusEvent) (noted : StatusEvent) (past : BusPast) → is_on past 0 ≡ false
    → WasTo None past (happens each noted past)
unfolding events_after steps_after
happens_off each noted past off = (rw off refl, rw off refl)

-- and nothing to one that is off
pub has_none : (each : ℕ → BusEvent) (noted : StatusEvent) (past after : BusPast) → after ≡ happens each noted past
    → is_on past 0 ≡ false → WasTo None past after
has_none each noted past after is off = subst (WasTo None past) (sym is) (happens_off each noted past off)

-- in loop back mode it sent, and received what it sent
looped : (past : BusPast) → WasTo (Some (event.Sent, status.Looped)) past (sends_to_itself past)
unfolding with_own
looped past = (refl, refl)

-- the code of a fault is the last one
last_code : (code : ℕ) (levels : Levels) (steps : List StatusStep) → lec_of (Happened (status.Fault code) levels ∷ steps) ≡ code
last_code code levels steps = newest-more code_given 0 (Happened (status.Fault code) levels) steps

pub code_left : (each : BusEvent) (code lec : ℕ) (past after : BusPast) → Has each (status.Fault code) past after
    → lec ≡ lec_of after.steps → lec ≡ code
code_left each code lec past after h is = is ∙ ap lec_of h.steps ∙ last_code code (levels_at after 0) past.steps

-- a fault has a code
has_code : (f : Fault) (code : ℕ) → code_of f ≡ Some code → (code == 0) ≡ false
has_code fault.Quiet code is = absurd cc
has_code fault.Stuff code is = let e : 1 ≡ code = cc in rw (sym e) refl
has_code fault.Form code is = let e : 2 ≡ code = cc in rw (sym e) refl
has_code fault.Bit1 code is = let e : 4 ≡ code = cc in rw (sym e) refl
has_code fault.Bit0 code is = let e : 5 ≡ code = cc in rw (sym e) refl
has_code fault.Crc code is = let e : 6 ≡ code = cc in rw (sym e) refl

-- a fault with this code was this to the controller
faulty : (sends : Bool) (each : BusEvent) (code lec : ℕ) (past after : BusPast) → Has each (status.Fault code) past after
    → lec ≡ code → (code == 0) ≡ false → each ≡ fault_of sends → WasTo (faulted sends lec) past after
faulty sends each code lec past after h left some is =
    rw left (rw some (h.events ∙ ap (λ e. Bus e ∷ past.events 0) is, h.steps))

-- so was a collision, which leaves another code to those who sent
collided : (sent : Bool) (lec : ℕ) (past after : BusPast) → Has (fault_of sent) (status.Fault (cond sent 4 1)) past after
    → lec ≡ cond sent 4 1 → WasTo (faulted (lec == 4) lec) past after
collided true lec past after h left = rw left (h.events, h.steps)
collided false lec past after h left = rw left (h.events, h.steps)

other_way : (node : ℕ) → (0 == node) ≡ (node == 0)
other_way node = grind (arith, nat_tests)

not_own : (node : ℕ) → node ≢ 0 → (node == 0) ≡ false
not_own node other = elim (cases_eq node 0) [
  | inl is ↦ absurd (other is)
  | inr not ↦ grind (arith, nat_tests)
]

-- nothing happened
pub stays : (past after : BusPast) → after ≡ past → WasTo None past after
stays past after same = (ap (λ (p : BusPast). p.events 0) same, ap (λ (p : BusPast). p.steps) same)

module _ (line : RoundLine) (past after : BusPast) where
  between_off : is_on past 0 ≡ false → (decided : Decision) → DecidesBetween line past after decided → WasTo None past after
  between_off off decision.Idle h = stays past after h.same
  between_off off decision.Collision h = has_none _ _ past after h.happened off
  between_off off (decision.Fault winner frame) h = has_none _ _ past after h.fault.happened off
  between_off off (decision.NoAck winner frame) h = has_none _ _ past after h.no_ack.happened off
  between_off off (decision.Finish object frame) h = has_none _ _ past after h.success.happened off
  between_off off (decision.Receipt winner frame) h = has_none _ _ past after h.success.happened off
  between_off off (decision.Passed winner frame) h = has_none _ _ past after h.success.happened off
  between_off off (decision.LoopBack object frame) h = absurd h

  module _ (lec : ℕ) (left : lec ≡ lec_of after.steps) where
    between_on : is_on past 0 ≡ true → (decided : Decision) → DecidesBetween line past after decided
        → WasTo (own_of decided lec) past after
    between_on on decision.Idle h = stays past after h.same
    between_on on decision.Collision h =
        let sent = sends_least (contenders_of past line) 0 in
        let g = has _ _ past after h.happened on in
        collided sent lec past after g (code_left (fault_of sent) (cond sent 4 1) lec past after g left)
    between_on on (decision.Fault winner frame) h =
        let f = h.fault in
        let g = has _ _ past after f.happened on in
        faulty (winner == 0) (shared (is_node f.winner) event.SendFault event.ReceiveFault 0) f.code lec past after g
        (code_left _ f.code lec past after g left) (has_code line.fault f.code f.fault)
        (ap fault_of (other_way f.winner ∙ ap (λ n. n == 0) (sym h.winner_is)))
    between_on on (decision.NoAck winner frame) h =
        let g = has _ _ past after h.no_ack.happened on in (g.events, g.steps)
    between_on on (decision.Finish object frame) h =
        let g = has _ _ past after h.success.happened on in (g.events, g.steps)
    between_on on (decision.Receipt winner frame) h =
        let g = has _ _ past after h.success.happened on in
        let not = not_own winner h.another in (
          g.events ∙ ap (λ b. Bus (cond b event.Sent event.Received) ∷ past.events 0) (other_way winner ∙ not),
          g.steps ∙ ap (λ b. Happened (cond b status.Sent status.Received) (levels_at after 0) ∷ past.steps) not,
        )
    between_on on (decision.Passed winner frame) h = absurd (true≢false (sym on ∙ h.off))
    between_on on (decision.LoopBack object frame) h = absurd h

    back_on : (decided : Decision) → DecidesBack past after decided → WasTo (own_of decided lec) past after
    back_on decision.Idle h = stays past after h.same
    back_on (decision.LoopBack object frame) h =
        subst (WasTo (Some (event.Sent, status.Looped)) past) (sym h.happened) (looped past)
    back_on decision.Collision h = absurd h
    back_on (decision.Fault winner frame) h = absurd h
    back_on (decision.NoAck winner frame) h = absurd h
    back_on (decision.Finish object frame) h = absurd h
    back_on (decision.Receipt winner frame) h = absurd h
    back_on (decision.Passed winner frame) h = absurd h

    pub decides_on : (loops : Bool) → is_on past 0 ≡ true → (decided : Decision) → Decides loops line past after decided
        → WasTo (own_of decided lec) past after
    decides_on true on decided h = back_on decided h
    decides_on false on decided h = between_on on decided h

  pub decides_off : (loops on : Bool) → is_on past 0 ≡ false → on ≡ false → (decided : Decision)
      → Decides (loops && on) line past after decided → WasTo None past after
  decides_off true true off is decided h = absurd (true≢false is)
  decides_off true false off is decided h = between_off off decided h
  decides_off false on off is decided h = between_off off decided h
