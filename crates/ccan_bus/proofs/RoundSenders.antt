-- The laws of who sends in a round: each case shares out the events as the one before it says.
use Rattle.std.proofs.Common.{ℕ, ◌≡◌, ◌==◌, Bool, true, false, List, ◌∷◌, length, refl, sym, ap, subst, ◌∙◌, inl, inr, Option, Some, None, arith}
use Rattle.ccan_object.specs.declared.record.Record.{Record}
use Rattle.ccan_ram.specs.declared.event.Event.{Event}
use Rattle.ccan_ram.specs.Terms.{Terms}
use Rattle.ccan_confine.specs.declared.bus_event.BusEvent.TheVariants.{Sent, SendFault, SendNoAck, ReceiveFault}
use Rattle.ccan_confine.specs.Counters.{NodeEvent, Bus as BusEventOf}
use Rattle.ccan_bus.specs.declared.answer.LoadAnswer.{LoadAnswer}
use Rattle.ccan_bus.specs.declared.answer.LoadAnswer.TheVariants as load
use Rattle.ccan_bus.specs.declared.round_line.RoundLine.{RoundLine}
use Rattle.ccan_bus.specs.declared.answer.RoundAnswer.{RoundAnswer}
use Rattle.ccan_bus.specs.declared.answer.RoundAnswer.TheVariants as answer
use Rattle.ccan_bus.specs.Past.{BusPast, is_on, hears_itself}
use Rattle.ccan_bus.specs.Contenders.{contenders_of, sends_least}
use Rattle.ccan_bus.specs.Load.{Loads}
use Rattle.ccan_bus.specs.LoopBack.{AtFinish, AtScan, LoopsBack}
use Rattle.ccan_bus.specs.Round.{RefusedFinish, RefusedScan, shared, is_node, Contends, Transfers, Continues, Round, refusal_of_round}
use Rattle.ccan_bus.specs.Laws.{HasEvent, AtMostOneSends, SomeoneSends, ends_well, sends_well, OneSendsExactlyOnSuccess, OffNodesHaveNoEvent}
use Rattle.ccan_bus.proofs.AfterLoads.{and_second}
use Rattle.ccan_bus.proofs.NodeEvents.{Shares, quiet, failed, faulty, success, looped}

module _ (terms : Terms) (line : RoundLine) (tries : ℕ) (seen added : List Event) (past after : BusPast) where
  contended : (reply : RoundAnswer) → Contends terms line tries seen added past after reply → Shares past after (ends_well reply)
  contended answer.Idle h = quiet past after h.same
  contended (answer.Sent object finished) h = success line past after 0 _ h.finish.success
  contended (answer.Received None) h = success line past after h.winner _ h.success
  contended (answer.Received (Some found)) h = success line past after h.2.winner _ h.2.success
  contended answer.Passed h = success line past after h.winner _ h.success
  contended answer.Collision h =
      failed (shared (sends_least (contenders_of past line)) SendFault ReceiveFault) _ past after
      (λ node. faulty (sends_least (contenders_of past line) node)) h.happened
  contended answer.NoAck h = failed (λ node. SendNoAck) _ past after (λ node e. absurd cc) h.happened
  contended answer.Fault h =
      failed (shared (is_node h.winner) SendFault ReceiveFault) _ past after (λ node. faulty (node == h.winner)) h.happened
  contended (answer.Busy object) (told, now, RefusedFinish h) = success line past after 0 _ h.success
  contended (answer.Busy object) (told, now, RefusedScan h) = success line past after h.winner _ h.success
  contended (answer.Spent object) (RefusedFinish h) = success line past after 0 _ h.success
  contended (answer.Spent object) (RefusedScan h) = success line past after h.winner _ h.success
  contended (answer.Looped object finished found) h = absurd h

  module _ (on : is_on past 0 ≡ true) where
    looped_back : (reply : RoundAnswer) → LoopsBack terms tries seen added past after reply → Shares past after (ends_well reply)
    looped_back answer.Idle h = quiet past after h.same
    looped_back (answer.Looped object finished None) h = looped past after on h.finish.happened
    looped_back (answer.Looped object finished (Some found)) h = looped past after on h.2.finish.happened
    looped_back (answer.Busy object) (told, now, AtFinish frame h) = looped past after on h.happened
    looped_back (answer.Busy object) (told, now, AtScan sent finished h) = looped past after on h.finish.happened
    looped_back (answer.Spent object) (AtFinish frame h) = looped past after on h.happened
    looped_back (answer.Spent object) (AtScan sent finished h) = looped past after on h.finish.happened
    looped_back (answer.Sent object finished) h = absurd h
    looped_back (answer.Received found) h = absurd h
    looped_back answer.Passed h = absurd h
    looped_back answer.Collision h = absurd h
    looped_back answer.NoAck h = absurd h
    looped_back answer.Fault h = absurd h

  transferred : (loops : Bool) → hears_itself past ≡ loops → (reply : RoundAnswer)
      → Transfers loops terms line tries seen added past after reply → Shares past after (ends_well reply)
  transferred true is reply h = looped_back (and_second past.loops_back (is_on past 0) is) reply h
  transferred false is reply h = contended reply h

  continued : (refusal : Option RoundAnswer) (reply : RoundAnswer)
      → Continues refusal terms line tries seen added past after reply
      → Shares past after (sends_well refusal reply)
  continued (Some refusal) reply h = quiet past after h.same
  continued None reply h = transferred (hears_itself past) refl reply h

-- what is loaded doesn't matter
unload : (past after : BusPast) (now : Option (ℕ × Record)) (well : Bool) → Shares (record past { loaded = now }) after well
    → Shares past after well
unfolding is_on
unload past after now well h =
    record { event = h.event; winner = h.winner; one = h.one; given = h.given; sends = h.sends; sends_not = h.sends_not }

before : (past between after : BusPast) (well : Bool) → between ≡ past → Shares between after well → Shares past after well
before past between after well same h = subst (λ b. Shares b after well) same h

module _ (terms : Terms) (tries : ℕ) (seen added : List Event) (past between after : BusPast) (well : Bool) where
  before_load : (loading : LoadAnswer) → Loads terms tries seen added past between loading → Shares between after well
      → Shares past after well
  before_load (load.Loaded object started) l h = unload past after _ well (subst (λ b. Shares b after well) l.now_loaded h)
  before_load (load.Held object) l h = before past between after well l.same h
  before_load load.Nothing (inl l) h = before past between after well l.same h
  before_load load.Nothing (inr l) h = before past between after well l.same h
  before_load (load.Busy object) l h = before past between after well l.2.same h
  before_load (load.Spent object) l h = before past between after well l.same h

shares : (terms : Terms) (line : RoundLine) (tries : ℕ) (seen added : List Event) (past after : BusPast) (reply : RoundAnswer)
    → (round : Round terms line tries seen added past after reply)
    → Shares past after (sends_well (refusal_of_round round.loading) reply)
shares terms line tries seen added past after reply r =
    before_load terms tries seen r.first past r.between after _ r.loading r.loads
    (continued terms line tries _ r.last r.between after (refusal_of_round r.loading) reply r.continues)

longer : (e : NodeEvent) (xs ys : List NodeEvent) → ys ≡ e ∷ xs → ys ≡ xs → ⊥
longer e xs ys p q = let h = ap length (sym q ∙ p) in omega arith

is_sent : (past after : BusPast) (well : Bool) (s : Shares past after well) (node : ℕ) → HasEvent past after node Sent
    → s.event node ≡ Sent
is_sent past after well s node h =
    elim (s.given node) [
      | inl none ↦ absurd (longer _ _ _ h none)
      | inr some ↦ let e : BusEventOf (s.event node) ∷ past.events node ≡ BusEventOf Sent ∷ past.events node =
          sym some.1 ∙ h in cc
    ]

pub one_sends : AtMostOneSends
one_sends terms line tries seen added past after reply r one another a b =
    let s = shares terms line tries seen added past after reply r in
    s.one one (is_sent past after _ s one a) ∙ sym (s.one another (is_sent past after _ s another b))

by_well : (past after : BusPast) (well : Bool) → Shares past after well → SomeoneSends past after → well ≡ true
by_well past after true s some = refl
by_well past after false s some = absurd (s.sends_not refl some.0 (is_sent past after false s some.0 some.1))

pub one_on_success : OneSendsExactlyOnSuccess
one_on_success terms line tries seen added past after reply r =
    let s = shares terms line tries seen added past after reply r in
    (by_well past after _ s, λ well. (s.winner, s.sends well))

pub off_none : OffNodesHaveNoEvent
off_none terms line tries seen added past after reply r node off =
    elim ((shares terms line tries seen added past after reply r).given node) [
      | inl none ↦ none
      | inr some ↦ absurd (let e = sym off ∙ some.0 in cc)
    ]
