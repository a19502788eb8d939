-- One transfer, or none: which event each node has, and who sends its frame well.
use Rattle.std.proofs.Common.{ℕ, ◌≡◌, ◌≢◌, ◌==◌, Bool, true, false, cond, List, ◌∷◌, ◌++◌, refl, sym, ap, subst, ◌∙◌, ◌⊎◌, inl, inr, Option, arith}
use Rattle.std.proofs.lemmas.Bool.{eqb-true}
use Rattle.std.proofs.lemmas.Bool.Decides.{nat_tests}
use Rattle.std.proofs.lemmas.List.Elements.{All-get_or, filter_passes}
use Rattle.ccan_object.specs.declared.record.Record.{Record}
use Rattle.ccan_accept.specs.declared.frame.Frame.{Frame}
use Rattle.ccan_confine.specs.declared.bus_event.BusEvent.{BusEvent}
use Rattle.ccan_confine.specs.declared.bus_event.BusEvent.TheVariants.{Sent, Received, SendFault, ReceiveFault}
use Rattle.ccan_confine.specs.declared.status_event.StatusEvent.{StatusEvent}
use Rattle.ccan_confine.specs.Counters.{NodeEvent, Bus as BusEventOf}
use Rattle.ccan_bus.specs.declared.round_line.RoundLine.{RoundLine}
use Rattle.ccan_bus.specs.Past.{BusPast, is_controller, is_on, events_after, happens, with_own, sends_to_itself}
use Rattle.ccan_bus.specs.Contenders.{IsWonBy, contenders, own_frame}
use Rattle.ccan_bus.specs.Round.{IsSuccess, shared, is_node}
use Rattle.ccan_bus.specs.Laws.{HasEvent}

-- each node has no event, or is on and has its own; only the winner may send well, and it does where this is so
pub record Shares (past after : BusPast) (well : Bool) : Type 0 where
  pub event : ℕ → BusEvent
  pub winner : ℕ
  pub one : (node : ℕ) → event node ≡ Sent → node ≡ winner
  pub given : (node : ℕ) → (after.events node ≡ past.events node)
      ⊎ ((is_on past node ≡ true) × (after.events node ≡ BusEventOf (event node) ∷ past.events node))
  pub sends : well ≡ true → HasEvent past after winner Sent
  pub sends_not : well ≡ false → (node : ℕ) → event node ≢ Sent

pub quiet : (past after : BusPast) → after ≡ past → Shares past after false
quiet past after same =
    record {
      event = λ node. Received;
      winner = 0;
      one = λ node e. absurd cc;
      given = λ node. inl (ap (λ (p : BusPast). p.events node) same);
      sends = λ e. absurd cc;
      sends_not = λ e node f. absurd cc;
    }

by_on : (on : Bool) (events : List NodeEvent) (event : BusEvent) (after : List NodeEvent) (test : Bool) → test ≡ on
    → after ≡ cond on (BusEventOf event ∷ events) events
    → (after ≡ events) ⊎ ((test ≡ true) × (after ≡ BusEventOf event ∷ events))
by_on true events event after test t is = inr (t, is)
by_on false events event after test t is = inl is

given_by : (event : ℕ → BusEvent) (past : BusPast) (node : ℕ) (events : List NodeEvent) → events ≡ events_after event past node
    → (events ≡ past.events node) ⊎ ((is_on past node ≡ true) × (events ≡ BusEventOf (event node) ∷ past.events node))
unfolding events_after
given_by event past node events is = by_on (is_on past node) (past.events node) (event node) events (is_on past node) refl is

on_has : (event : ℕ → BusEvent) (past : BusPast) (node : ℕ) → is_on past node ≡ true
    → events_after event past node ≡ BusEventOf (event node) ∷ past.events node
unfolding events_after
on_has event past node on = rw on refl

-- a transfer that nobody sends well
pub failed : (event : ℕ → BusEvent) (noted : StatusEvent) (past after : BusPast) → ((node : ℕ) → event node ≢ Sent)
    → after ≡ happens event noted past → Shares past after false
failed event noted past after none is =
    record {
      event = event;
      winner = 0;
      one = λ node e. absurd (none node e);
      given = λ node. given_by event past node (after.events node) (ap (λ (p : BusPast). p.events node) is);
      sends = λ e. absurd cc;
      sends_not = λ e. none;
    }

-- a fault sends nothing well
pub faulty : (sends : Bool) → cond sends SendFault ReceiveFault ≢ Sent
faulty true e = absurd cc
faulty false e = absurd cc

by_test : (test : Bool) (node winner : ℕ) → (node == winner) ≡ test → cond test Sent Received ≡ Sent → node ≡ winner
by_test true node winner t e = eqb-true node winner t
by_test false node winner t e = absurd cc

self : (a : ℕ) → (a == a) ≡ true
self a = grind (arith, nat_tests)

-- who contends is on
winner_on : (on : ℕ → Bool) (loaded : Option (ℕ × Record)) (sends : List (ℕ × Frame)) (winner : ℕ) (frame : Frame)
    → IsWonBy (contenders on loaded sends) winner frame
    → on winner ≡ true
unfolding contenders
winner_on on loaded sends winner frame won =
    let passes = filter_passes (λ (c : ℕ × Frame). on c.0) (own_frame loaded ++ sends) in
    let at = All-get_or (λ (c : ℕ × Frame). on c.0 ≡ true) (contenders on loaded sends) won.place (winner, frame)
    won.within passes in
    ap (λ (c : ℕ × Frame). on c.0) won.sent ∙ at

pub success : (line : RoundLine) (past after : BusPast) (winner : ℕ) (frame : Frame) → IsSuccess line past after winner frame
    → Shares past after true
success line past after winner frame h =
    let event = shared (is_node winner) Sent Received in
    record {
      event = event;
      winner = winner;
      one = λ node e. by_test (node == winner) node winner refl e;
      given = λ node. given_by event past node (after.events node) (ap (λ (p : BusPast). p.events node) h.happened);
      sends = λ e.
          ap (λ (p : BusPast). p.events winner) h.happened
          ∙ (on_has event past winner (winner_on (is_on past) past.loaded line.send.items winner frame h.won)
          ∙ ap (λ b. BusEventOf (cond b Sent Received) ∷ past.events winner) (self winner));
      sends_not = λ e. absurd cc;
    }

-- the controller sends to itself
own_event : (past : BusPast) (node : ℕ) (own : Bool) → is_controller node ≡ own → is_on past 0 ≡ true → (events : List NodeEvent)
    → events ≡ with_own (BusEventOf Sent) past node
    → (events ≡ past.events node) ⊎ ((is_on past node ≡ true) × (events ≡ BusEventOf (cond own Sent Received) ∷ past.events node))
unfolding with_own
own_event past node true is on events h =
    inr (subst (λ n. is_on past n ≡ true) (sym (eqb-true node 0 is)) on, rw is at h)
own_event past node false is on events h = inl (rw is at h)

own_sends : (past : BusPast) → with_own (BusEventOf Sent) past 0 ≡ BusEventOf Sent ∷ past.events 0
unfolding with_own
own_sends past = refl

pub looped : (past after : BusPast) → is_on past 0 ≡ true → after ≡ sends_to_itself past → Shares past after true
looped past after on h =
    record {
      event = shared (is_node 0) Sent Received;
      winner = 0;
      one = λ node e. by_test (node == 0) node 0 refl e;
      given = λ node. own_event past node (node == 0) refl on (after.events node) (ap (λ (p : BusPast). p.events node) h);
      sends = λ e. ap (λ (p : BusPast). p.events 0) h ∙ own_sends past;
      sends_not = λ e. absurd cc;
    }
