-- What a round sends is what was loaded. `own_won` says so of whatever frame of the controller wins the bus; the cases of a
-- round and of its report follow from it, since nothing is loaded anew where something is.
use Rattle.std.proofs.Common.{ℕ, ◌≡◌, ◌≤◌, Bool, true, false, List, [], ◌++◌, refl, sym, ap, subst, ◌∙◌, inl, inr, Option, Some, None, Ok, arith}
use Rattle.std.specs.List.{All}
use Rattle.std.proofs.lemmas.List.{append-nil}
use Rattle.std.proofs.lemmas.List.Elements.{All-nil, All-cons, All-append, All-filter, All-get_or, All-weaker}
use Rattle.ccan_object.specs.declared.record.Record.{Record}
use Rattle.ccan_accept.specs.declared.frame.Frame.{Frame}
use Rattle.ccan_accept.specs.Send.{frame_of}
use Rattle.ccan_ram.specs.declared.change.Change.TheVariants.{Store, Finish}
use Rattle.ccan_ram.specs.declared.change.Changed.TheVariants.{Done}
use Rattle.ccan_ram.specs.declared.event.Event.{Event}
use Rattle.ccan_ram.specs.Terms.{Terms}
use Rattle.ccan_ram.specs.Attempt.{Attempt}
use Rattle.ccan_handler.specs.Scan.{Scan, ScanEnd, Nowhere, MadeAt}
use Rattle.ccan_bus.specs.declared.answer.LoadAnswer.{LoadAnswer}
use Rattle.ccan_bus.specs.declared.answer.LoadAnswer.TheVariants as load
use Rattle.ccan_bus.specs.declared.decision.Decision.{Decision}
use Rattle.ccan_bus.specs.declared.decision.Decision.TheVariants as decision
use Rattle.ccan_bus.specs.declared.round_end.RoundEnd.{RoundEnd}
use Rattle.ccan_bus.specs.declared.round_line.RoundLine.{RoundLine}
use Rattle.ccan_bus.specs.declared.answer.RoundAnswer.TheVariants as answer
use Rattle.ccan_bus.specs.Past.{BusPast, is_on, hears_itself}
use Rattle.ccan_bus.specs.Contenders.{IsWonBy, contenders, contenders_of, own_frame}
use Rattle.ccan_bus.specs.Load.{Loads}
use Rattle.ccan_bus.specs.LoopBack.{IsLoop}
use Rattle.ccan_bus.specs.Round.{Transfers, Continues, refusal_of_round}
use Rattle.ccan_bus.specs.Decide.{Decides}
use Rattle.ccan_bus.specs.RoundReport.{RunsOn}
use Rattle.ccan_bus.specs.Laws.{SendsWhatWasLoaded, LoopsWhatWasLoaded, ScansAsTold, IsFinishAndScan, OwnFramesAre, IsOfTheLoad, EachRoundSendsWhatWasLoaded}

-- what node 0 sends is the loaded frame
abbrev IsOwn : Record → ℕ × Frame → Type 0
IsOwn started c = c.0 ≡ 0 → c.1 ≡ frame_of started

own_frames : (on : ℕ → Bool) (line : RoundLine) (object : ℕ) (started : Record)
    → All (IsOwn started) (contenders on (Some (object, started)) line.send.items)
unfolding contenders
own_frames on line object started =
    let others = All-weaker (λ s. (1 ≤ s.0) × (s.0 ≤ 8)) (IsOwn started)
    (λ s within is. absurd (let low = within.0 in omega arith)) line.send.items line.senders.others in
    let own = All-cons (IsOwn started) (0, frame_of started) [] (λ is. refl) (All-nil (IsOwn started)) in
    let all = All-append (IsOwn started) (own_frame (Some (object, started))) line.send.items own others in
    All-filter (λ (c : ℕ × Frame). on c.0) (IsOwn started) (own_frame (Some (object, started)) ++ line.send.items) all

own_is_loaded : (on : ℕ → Bool) (line : RoundLine) (object : ℕ) (started : Record) (frame : Frame)
    → IsWonBy (contenders on (Some (object, started)) line.send.items) 0 frame → frame ≡ frame_of started
own_is_loaded on line object started frame won =
    let kept = own_frames on line object started in
    let at = All-get_or (IsOwn started) (contenders on (Some (object, started)) line.send.items) won.place (0, frame)
    won.within kept in
    ap (λ (c : ℕ × Frame). c.1) won.sent ∙ at (sym (ap (λ (c : ℕ × Frame). c.0) won.sent))

-- what was loaded
loaded_then : (terms : Terms) (tries : ℕ) (earlier loading : List Event) (before loaded past : BusPast) (object : ℕ)
    (started : Record)
    → Loads terms tries earlier loading before loaded (load.Loaded object started) → past.loaded ≡ loaded.loaded
    → past.loaded ≡ Some (object, started)
loaded_then terms tries earlier loading before loaded past object started l same =
    same ∙ ap (λ (p : BusPast). p.loaded) l.now_loaded

abbrev object_in : Option (ℕ × Record) → ℕ
object_in None = 0
object_in (Some loaded) = loaded.0

abbrev record_in : Record → Option (ℕ × Record) → Record
record_in d None = d
record_in d (Some loaded) = loaded.1

same_object : (a b : ℕ) (r s : Record) (loaded : Option (ℕ × Record)) → loaded ≡ Some (a, r) → loaded ≡ Some (b, s)
    → (a ≡ b) × (r ≡ s)
same_object a b r s loaded p q = (sym (ap object_in p) ∙ ap object_in q, sym (ap (record_in r) p) ∙ ap (record_in r) q)

module _ (terms : Terms) (line : RoundLine) (tries : ℕ) (past : BusPast) (object : ℕ) (started : Record)
    (is : past.loaded ≡ Some (object, started)) where
  module _ (seen added : List Event) (after : BusPast) (place : ℕ) (finished : Record) where
    sent_by : (loops : Bool) → Transfers loops terms line tries seen added past after (answer.Sent place finished)
        → (place ≡ object) × IsWonBy (contenders_of past line) 0 (frame_of started)
    sent_by true h = absurd h
    sent_by false h =
        let same = same_object place object h.finish.started started past.loaded h.finish.sent is in
        let won : IsWonBy (contenders (is_on past) (Some (object, started)) line.send.items) 0 h.finish.frame =
        subst (λ l. IsWonBy (contenders (is_on past) l line.send.items) 0 h.finish.frame) is h.finish.success.won in (
          same.0,
          subst (IsWonBy (contenders_of past line) 0)
              (own_is_loaded (is_on past) line object started h.finish.frame won) h.finish.success.won,
        )

  -- nothing was to be loaded
  module _ (seen first rest last : List Event) (between after : BusPast) (place : ℕ) (finished : Record) where
    round_sent : (loading : LoadAnswer) → Loads terms tries seen first past between loading
        → Continues (refusal_of_round loading) terms line tries rest last between after (answer.Sent place finished)
        → (place ≡ object) × IsWonBy (contenders_of past line) 0 (frame_of started)
    round_sent (load.Loaded o s) l h = absurd (let e = sym l.choice.empty ∙ is in cc)
    round_sent (load.Held o) l h =
        sent_by rest last after place finished (hears_itself past)
        (subst (λ b. Transfers (hears_itself b) terms line tries rest last b after (answer.Sent place finished)) l.same h)
    round_sent load.Nothing (inl l) h = absurd (let e = sym l.empty ∙ is in cc)
    round_sent load.Nothing (inr l) h = absurd (let e = sym l.choice.empty ∙ is in cc)
    round_sent (load.Busy o) l h = absurd (let e = sym l.2.choice.empty ∙ is in cc)
    round_sent (load.Spent o) l h = absurd (let e = sym l.choice.empty ∙ is in cc)

  -- the round of loop back mode, with the scan as it is told
  module _ (seen added : List Event) (after : BusPast) (place : ℕ) (finished : Record) where
    looped_in : (found : Option (ℕ × Record)) (end : ScanEnd)
        → ((first last : List Event) → Scan terms (Store (frame_of started)) 1 tries (first ++ seen) last end
        → ScansAsTold terms tries (frame_of started) (first ++ seen) last found)
        → IsLoop terms tries seen added past after place finished end
        → (place ≡ object) × IsFinishAndScan terms tries object finished (frame_of started) seen added found
    looped_in found end told h =
        let same = same_object place object h.finish.started started past.loaded h.finish.loaded is in
        let own = h.finish.frame_is ∙ ap frame_of same.1 in (
          same.0,
          record {
            first = h.first;
            last = h.last;
            whole = h.whole;
            before = h.before;
            number = h.number;
            finish = subst (λ k. Attempt terms k Finish tries seen h.first (Ok (Done h.before finished h.number)))
                same.0 h.finish.finish;
            scan = told h.first h.last (subst (λ g. Scan terms (Store g) 1 tries (h.first ++ seen) h.last end) own h.scan);
          },
        )

    looped_by : (loops : Bool) (found : Option (ℕ × Record))
        → Transfers loops terms line tries seen added past after (answer.Looped place finished found)
        → (place ≡ object) × IsFinishAndScan terms tries object finished (frame_of started) seen added found
    looped_by true None h = looped_in None Nowhere (λ first last scan. scan) h
    looped_by true (Some found) h =
        looped_in (Some found) (MadeAt found.0 h.0 found.1 h.1) (λ first last scan. (h.0, h.1, scan)) h.2
    looped_by false found h = absurd h

  module _ (seen first last added : List Event) (whole : added ≡ last ++ first) (between after : BusPast) (place : ℕ)
      (finished : Record) (found : Option (ℕ × Record)) where
    round_looped : (loading : LoadAnswer) → Loads terms tries seen first past between loading
        → Continues (refusal_of_round loading) terms line tries (first ++ seen) last between after
        (answer.Looped place finished found)
        → (place ≡ object) × IsFinishAndScan terms tries object finished (frame_of started) seen added found
    round_looped (load.Loaded o s) l h = absurd (let e = sym l.choice.empty ∙ is in cc)
    round_looped (load.Held o) l h =
        let all : added ≡ last = whole ∙ ap (λ es. last ++ es) l.quiet ∙ append-nil last in
        let here = subst (λ b. Transfers (hears_itself b) terms line tries (first ++ seen) last b after
        (answer.Looped place finished found)) l.same h in
        let alone = subst (λ es. Transfers (hears_itself past) terms line tries (es ++ seen) last past after
        (answer.Looped place finished found)) l.quiet here in
        subst (λ es. (place ≡ object) × IsFinishAndScan terms tries object finished (frame_of started) seen es found) (sym all)
        (looped_by seen last after place finished (hears_itself past) found alone)
    round_looped load.Nothing (inl l) h = absurd (let e = sym l.empty ∙ is in cc)
    round_looped load.Nothing (inr l) h = absurd (let e = sym l.choice.empty ∙ is in cc)
    round_looped (load.Busy o) l h = absurd (let e = sym l.2.choice.empty ∙ is in cc)
    round_looped (load.Spent o) l h = absurd (let e = sym l.choice.empty ∙ is in cc)

  -- ---- whatever the round comes to

  all_own : OwnFramesAre (frame_of started) (contenders_of past line)
  all_own =
      subst (λ l. OwnFramesAre (frame_of started) (contenders (is_on past) l line.send.items)) (sym is)
      (own_frames (is_on past) line object started)

  own_won : (winner : ℕ) (frame : Frame) → IsWonBy (contenders_of past line) winner frame → winner ≡ 0 → frame ≡ frame_of started
  own_won winner frame won zero =
      own_is_loaded (is_on past) line object started frame
      (subst (λ l. IsWonBy (contenders (is_on past) l line.send.items) 0 frame) is
      (subst (λ w. IsWonBy (contenders_of past line) w frame) zero won))

  module _ (after : BusPast) where
    decided_by : (loops : Bool) (decided : Decision) → Decides loops line past after decided
        → IsOfTheLoad object (frame_of started) decided
    decided_by true decision.Idle h = tt
    decided_by true (decision.LoopBack place frame) h =
        let same = same_object place object h.started started past.loaded h.loaded is in
        (same.0, h.frame_is ∙ ap frame_of same.1)
    decided_by true decision.Collision h = absurd h
    decided_by true (decision.Fault winner frame) h = absurd h
    decided_by true (decision.NoAck winner frame) h = absurd h
    decided_by true (decision.Finish place frame) h = absurd h
    decided_by true (decision.Receipt winner frame) h = absurd h
    decided_by true (decision.Passed winner frame) h = absurd h
    decided_by false decision.Idle h = tt
    decided_by false decision.Collision h = tt
    decided_by false (decision.Fault winner frame) h = λ zero.
        h.frame_is ∙ own_won h.fault.winner h.fault.frame h.fault.won (sym h.winner_is ∙ zero)
    decided_by false (decision.NoAck winner frame) h = λ zero.
        h.frame_is ∙ own_won h.no_ack.winner h.no_ack.frame h.no_ack.won (sym h.winner_is ∙ zero)
    decided_by false (decision.Finish place frame) h =
        ((same_object place object h.started started past.loaded h.sent is).0, own_won 0 frame h.success.won refl)
    decided_by false (decision.Receipt winner frame) h = h.another
    decided_by false (decision.Passed winner frame) h = own_won winner frame h.success.won
    decided_by false (decision.LoopBack place frame) h = absurd h

  module _ (seen first rest last : List Event) (between after : BusPast) (end : RoundEnd) (d : Decision) where
    report_told : (loading : LoadAnswer) (decided : Option Decision) → Loads terms tries seen first past between loading
        → RunsOn (refusal_of_round loading) terms line tries rest last between after decided end → decided ≡ Some d
        → IsOfTheLoad object (frame_of started) d
    report_told (load.Loaded o s) decided l h told = absurd (let e = sym l.choice.empty ∙ is in cc)
    report_told (load.Held o) (Some decided) l h told =
        let same : decided ≡ d = cc in
        subst (IsOfTheLoad object (frame_of started)) same
        (decided_by after (hears_itself past) decided (subst (λ b. Decides (hears_itself b) line b after decided) l.same h.0))
    report_told (load.Held o) None l h told = absurd h
    report_told load.Nothing decided (inl l) h told = absurd (let e = sym l.empty ∙ is in cc)
    report_told load.Nothing decided (inr l) h told = absurd (let e = sym l.choice.empty ∙ is in cc)
    report_told (load.Busy o) decided l h told = absurd (let e = sym l.2.choice.empty ∙ is in cc)
    report_told (load.Spent o) decided l h told = absurd (let e = sym l.choice.empty ∙ is in cc)

pub each_sends_loaded : EachRoundSendsWhatWasLoaded
each_sends_loaded terms line tries earlier loading seen added before loaded past after object started report l same r =
    let is = loaded_then terms tries earlier loading before loaded past object started l same in (
      all_own terms line tries past object started is,
      λ decided told. report_told terms line tries past object started is seen r.first _ r.last r.between after report.end decided
          report.loading report.decision r.loads r.runs told,
    )

pub sends_loaded : SendsWhatWasLoaded
sends_loaded terms line tries earlier loading seen added before loaded past after object place started finished l same r =
    round_sent terms line tries past object started
    (loaded_then terms tries earlier loading before loaded past object started l same)
    seen r.first _ r.last r.between after place finished r.loading r.loads r.continues

pub loops_loaded : LoopsWhatWasLoaded
loops_loaded terms line tries earlier loading seen added before loaded past after object place started finished found l same r =
    round_looped terms line tries past object started
    (loaded_then terms tries earlier loading before loaded past object started l same)
    seen r.first r.last added r.whole r.between after place finished found r.loading r.loads r.continues
