-- What comes of the frames of a round.
use Rattle.std.proofs.Common.{ℕ, ◌≡◌, ◌≢◌, ◌<◌, ◌≤◌, ◌==◌, Bool, true, false, cond, List, [], ◌∷◌, ◌++◌, refl, sym, ap, subst, ◌∙◌, Option, Some, None, length, take, take_all, arith}
use Rattle.std.proofs.lemmas.List.Elements.{filter-append, All-filter, All-get_or}
use Rattle.ccan_object.specs.declared.record.Record.{Record}
use Rattle.std.specs.List.{filter}
use Rattle.ccan_accept.specs.declared.frame.Frame.{Frame}
use Rattle.ccan_confine.specs.declared.bus_event.BusEvent.{BusEvent}
use Rattle.ccan_confine.specs.declared.bus_event.BusEvent.TheVariants.{Sent, Received, SendFault, SendNoAck, ReceiveFault}
use Rattle.ccan_confine.specs.declared.status_event.StatusEvent.{StatusEvent}
use Rattle.ccan_confine.specs.declared.status_event.StatusEvent.TheVariants as status
use Rattle.ccan_bus.specs.declared.arbitration.Outcome.TheVariants.{Collision}
use Rattle.ccan_bus.specs.declared.bus.Bus.{Bus}
use Rattle.ccan_bus.specs.declared.decision.Decision.{Decision}
use Rattle.ccan_bus.specs.declared.decision.Decision.TheVariants as decision
use Rattle.ccan_bus.specs.declared.round_line.RoundLine.{RoundLine}
use Rattle.ccan_bus.specs.Arbitration.{Arbitrates}
use Rattle.ccan_bus.specs.Past.{BusPast, is_on, happens}
use Rattle.ccan_bus.specs.Bus.{LedTo, GoesOn, is_on_now}
use Rattle.ccan_bus.specs.Nodes.{sends_at, IsSharedOut}
use Rattle.ccan_bus.specs.RoundLine.{code_of}
use Rattle.ccan_bus.specs.Contenders.{own_frame, contenders, contenders_of, frames_of, sends_least, IsWonBy}
use Rattle.ccan_bus.specs.Round.{shared, is_node, IsSuccess}
use Rattle.ccan_bus.specs.Decide.{DecidesBetween, IsDue}
use Rattle.ccan_bus.proofs.Pasts.{on_same, GoesOn-none, GoesOn-weaker}

filter_same : (p q : ℕ → Bool) → ((n : ℕ) → p n ≡ q n) → (xs : List (ℕ × Frame)) → filter (λ c. p c.0) xs ≡ filter (λ c. q c.0) xs
filter_same p q h [] = refl
filter_same p q h (x ∷ xs) =
    ap (λ b. cond b (x ∷ filter (λ c. p c.0) xs) (filter (λ c. p c.0) xs)) (h x.0)
    ∙ ap (λ ys. cond (q x.0) (x ∷ ys) ys) (filter_same p q h xs)

-- the contenders, as the bus finds them
abbrev pub contenders_now : Bus → RoundLine → List (ℕ × Frame)
contenders_now bus line = contenders (is_on_now bus) bus.loaded line.send.items

pub contenders_same : (past : BusPast) (bus : Bus) → LedTo past bus → (line : RoundLine)
    → contenders_now bus line ≡ contenders_of past line
unfolding contenders
contenders_same past bus led line =
    filter_same (is_on_now bus) (is_on past) (λ n. sym (on_same past bus led n)) (own_frame bus.loaded ++ line.send.items)
    ∙ ap (λ loaded. filter (λ c. is_on past c.0) (own_frame loaded ++ line.send.items)) led.loaded

pub contenders_done : (on : ℕ → Bool) (loaded : Option (ℕ × Record)) (line : RoundLine) (found : List (ℕ × Frame)) (i : ℕ)
    → length line.send.items ≤ i
    → found ≡ filter (λ c. on c.0) (own_frame loaded) ++ filter (λ c. on c.0) (take i line.send.items)
    → found ≡ contenders on loaded line.send.items
unfolding contenders
contenders_done on loaded line found i all is =
    is ∙ (ap (λ xs. filter (λ c. on c.0) (own_frame loaded) ++ filter (λ c. on c.0) xs) (take_all i line.send.items all)
    ∙ sym (filter-append (λ c. on c.0) (own_frame loaded) line.send.items))

-- the other nodes' frames are not the controller's
pub no_own : (on : ℕ → Bool) (line : RoundLine) (frame : Frame) → IsWonBy (contenders on None line.send.items) 0 frame → ⊥
unfolding contenders
no_own on line frame won =
    let others = All-filter (λ c. on c.0) (λ s. (1 ≤ s.0) × (s.0 ≤ 8)) line.send.items line.senders.others in
    let at = All-get_or (λ s. (1 ≤ s.0) × (s.0 ≤ 8)) (filter (λ c. on c.0) line.send.items) won.place (0, frame)
    won.within others in
    let zero_is = ap (λ c. c.0) won.sent in
    let low = at.0 in
    omega arith

pub none_left : (code : Option ℕ) → ((x : ℕ) → code ≡ Some x → ⊥) → code ≡ None
none_left None h = refl
none_left (Some x) h = absurd (h x refl)

module _ (bus : Bus) (line : RoundLine) where
  pub idle : contenders_now bus line ≡ [] → GoesOn bus bus (λ past after. DecidesBetween line past after decision.Idle)
  idle nobody = GoesOn-none bus _ (λ past led. record {
    nobody = sym (contenders_same past bus led line) ∙ nobody;
    quiet = refl;
    same = refl;
  })

  -- events that are shared out by the places of an array
  abbrev pub Happens : Bus → List Bool → BusEvent → BusEvent → StatusEvent → Type 0
  Happens new senders sending listening noted =
      (each : ℕ → BusEvent) → IsSharedOut senders sending listening each
      → GoesOn bus new (λ past after. after ≡ happens each noted past)

  share : (senders : List Bool) (sends : ℕ → Bool) (sending listening : BusEvent)
      → ((node : ℕ) → node < 9 → sends_at senders node ≡ sends node)
      → IsSharedOut senders sending listening (shared sends sending listening)
  share senders sends sending listening h node within = ap (λ b. cond b sending listening) (sym (h node within))

  pub collided : (new : Bus) (senders : List Bool) (code : ℕ) → Arbitrates (frames_of (contenders_now bus line)) Collision
      → ((node : ℕ) → node < 9 → sends_at senders node ≡ sends_least (contenders_now bus line) node)
      → code ≡ cond (sends_at senders 0) 4 1 → 0 < 9
      → Happens new senders SendFault ReceiveFault (status.Fault code)
      → GoesOn bus new (λ past after. DecidesBetween line past after decision.Collision)
  collided new senders code tie sends told first happen =
      GoesOn-weaker (happen (shared (sends_least (contenders_now bus line)) SendFault ReceiveFault)
      (share senders _ SendFault ReceiveFault sends))
      (λ past after led here e.
      let same = contenders_same past bus led line in
      let code_is : code ≡ cond (sends_least (contenders_now bus line) 0) 4 1 = told ∙ ap (λ b. cond b 4 1) (sends 0 first) in
      record {
        outcome = subst (λ cs. Arbitrates (frames_of cs) Collision) same tie;
        quiet = refl;
        happened =
            subst (λ cs. after ≡ happens (shared (sends_least cs) SendFault ReceiveFault)
            (status.Fault (cond (sends_least cs 0) 4 1)) past) same
            (e ∙ ap (λ n. happens (shared (sends_least (contenders_now bus line)) SendFault ReceiveFault)
            (status.Fault n) past) code_is);
      })

  module _ (winner : ℕ) (frame : Frame) (won : IsWonBy (contenders_now bus line) winner frame) (new : Bus) (senders : List Bool)
      (one : (node : ℕ) → node < 9 → sends_at senders node ≡ (node == winner)) where
    won_by : (past : BusPast) → LedTo past bus → IsWonBy (contenders_of past line) winner frame
    won_by past led = subst (λ cs. IsWonBy cs winner frame) (contenders_same past bus led line) won

    pub spoiled : (code : ℕ) → code_of line.fault ≡ Some code → Happens new senders SendFault ReceiveFault (status.Fault code)
        → GoesOn bus new (λ past after. DecidesBetween line past after (decision.Fault winner frame))
    spoiled code fault happen =
        GoesOn-weaker (happen (shared (is_node winner) SendFault ReceiveFault) (share senders _ SendFault ReceiveFault one))
        (λ past after led here e. record {
          fault = record {
            winner = winner;
            frame = frame;
            won = won_by past led;
            code = code;
            fault = fault;
            quiet = refl;
            happened = e;
          };
          winner_is = refl;
          frame_is = refl;
        })

    both : (b : Bool) (event : BusEvent) → event ≡ cond b event event
    both true event = refl
    both false event = refl

    pub unheard : code_of line.fault ≡ None → ((node : ℕ) → is_on_now bus node ≡ true → node ≡ winner)
        → Happens new senders SendNoAck SendNoAck (status.Fault 3)
        → GoesOn bus new (λ past after. DecidesBetween line past after (decision.NoAck winner frame))
    unheard quiet alone happen =
        GoesOn-weaker (happen (λ node. SendNoAck) (λ node within. both (sends_at senders node) SendNoAck))
        (λ past after led here e. record {
          no_ack = record {
            winner = winner;
            frame = frame;
            won = won_by past led;
            no_fault = quiet;
            alone = λ node on. alone node (sym (on_same past bus led node) ∙ on);
            quiet = refl;
            happened = e;
          };
          winner_is = refl;
          frame_is = refl;
        })

    -- what is due is what is decided
    by_due : (past after : BusPast) → LedTo past bus → IsSuccess line past after winner frame → (decided : Decision)
        → IsDue bus winner frame decided → DecidesBetween line past after decided
    by_due past after led s (decision.Finish object sent) (own, same, started, loaded) =
        record {
          started = started;
          sent = sym led.loaded ∙ loaded;
          success = subst (λ f. IsSuccess line past after 0 f) (sym same) (subst (λ n. IsSuccess line past after n frame) own s);
        }
    by_due past after led s (decision.Receipt node sent) (another, on, at, same) =
        record {
          another = λ zero_is. another (sym at ∙ zero_is);
          on = on_same past bus led 0 ∙ on;
          success =
              subst (λ f. IsSuccess line past after node f) (sym same)
              (subst (λ n. IsSuccess line past after n frame) (sym at) s);
        }
    by_due past after led s (decision.Passed node sent) (off, at, same) =
        record {
          off = on_same past bus led 0 ∙ off;
          success =
              subst (λ f. IsSuccess line past after node f) (sym same)
              (subst (λ n. IsSuccess line past after n frame) (sym at) s);
        }
    by_due past after led s decision.Idle (own, none) =
        absurd (no_own (is_on past) line frame
        (subst (λ l. IsWonBy (contenders (is_on past) l line.send.items) 0 frame) (sym led.loaded ∙ none)
        (subst (λ n. IsSuccess line past after n frame) own s).won))
    by_due past after led s decision.Collision h = absurd h
    by_due past after led s (decision.Fault node sent) h = absurd h
    by_due past after led s (decision.NoAck node sent) h = absurd h
    by_due past after led s (decision.LoopBack object sent) h = absurd h

    pub heard : (decided : Decision) (noted : StatusEvent) → IsDue bus winner frame decided
        → noted ≡ cond (winner == 0) status.Sent status.Received
        → code_of line.fault ≡ None → (node : ℕ) × (node ≢ winner) × (is_on_now bus node ≡ true)
        → Happens new senders Sent Received noted
        → GoesOn bus new (λ past after. DecidesBetween line past after decided)
    heard decided noted due noted_is quiet listener happen =
        GoesOn-weaker (happen (shared (is_node winner) Sent Received) (share senders _ Sent Received one))
        (λ past after led here e. by_due past after led (record {
          won = won_by past led;
          no_fault = quiet;
          listener = listener.0;
          another = listener.1;
          listens = on_same past bus led listener.0 ∙ listener.2;
          happened = e ∙ ap (λ n. happens (shared (is_node winner) Sent Received) n past) noted_is;
        }) decided due)
