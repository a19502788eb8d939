-- The start of a frame, as a load of the bus of one chip; and its end, which is as the start was.
use Rattle.std.proofs.Common.{ℕ, ◌≡◌, ◌≢◌, Bool, true, false, ◌&&◌, not, List, [], refl, sym, ap, subst, ◌∙◌, inl, inr}
use Rattle.std.specs.Prelude.{Option, Some, None, Ok, Err, if◌then◌else◌}
use Rattle.ccan_accept.specs.declared.frame.Frame.{Frame}
use Rattle.ccan_ram.specs.declared.change.Refused.{Refused}
use Rattle.ccan_ram.specs.declared.change.Refused.TheVariants.{Busy, Spent}
use Rattle.ccan_ram.specs.declared.event.Event.{Event}
use Rattle.ccan_ram.specs.declared.sending.Sending.{Sending}
use Rattle.ccan_ram.specs.declared.sending.Sending.TheVariants.{UntilSent, Once}
use Rattle.ccan_ram.specs.Terms.{Terms}
use Rattle.ccan_handler.specs.Moment.{Chosen, ChoosesAtOnce}
use Rattle.ccan_confine.specs.declared.bus_event.BusEvent.{BusEvent}
use Rattle.ccan_confine.specs.declared.controller.Controller.{Controller}
use Rattle.ccan_confine.specs.declared.status_event.StatusEvent.{StatusEvent}
use Rattle.ccan_confine.specs.declared.node_state.NodeState.TheVariants.{Off, Passive, Active}
use Rattle.ccan_confine.specs.Counters.{NodeEvent, faults_to_off, is_off, passive_limit, reaches, state_of}
use Rattle.ccan_bus.specs.declared.answer.LoadAnswer.{LoadAnswer}
use Rattle.ccan_bus.specs.declared.answer.LoadAnswer.TheVariants as load
use Rattle.ccan_bus.specs.declared.choice.Choice.TheVariants.{AtOnce}
use Rattle.ccan_bus.specs.declared.round_end.RoundEnd.{RoundEnd}
use Rattle.ccan_bus.specs.Choice.{Chooses}
use Rattle.ccan_bus.specs.Complete.{Completes}
use Rattle.ccan_bus.specs.Controller.{with_controller}
use Rattle.ccan_bus.specs.Load as bus
use Rattle.ccan_bus.specs.Past.{BusPast, is_on}
use Rattle.ccan_chip.specs.Arrival.{left_behind, may_take_part, takes_part, unloaded}
use Rattle.ccan_chip.specs.Round.{events_in, loops_back}
use Rattle.ccan_chip.proofs.Ports.{counters_found}
use Rattle.ccan_chip.proofs.Rounds.{found_on}
use Rattle.ccan_wire.specs.declared.flaw.Flaw.{Flaw}
use Rattle.ccan_wire.specs.declared.member.Member.{Member}
use Rattle.ccan_wire.specs.declared.role.Role.{Role}
use Rattle.ccan_wire.specs.declared.role.Role.TheVariants.{Absent, Silent, Alone, Looped}
use Rattle.ccan_wire.specs.declared.role.Role.TheVariants as role
use Rattle.ccan_wire.specs.declared.wire.Wire.{Wire}
use Rattle.ccan_wire.specs.Event.{event_of}
use Rattle.ccan_wire.specs.Role.{looped, role_of, role_of_running}
use Rattle.ccan_wire.specs.Wire.{start_of}
use Rattle.ccan_station.specs.declared.loaded.Loaded.{Loaded}
use Rattle.ccan_station.specs.Laws.{BeginsAreLoads, EndsAsItBegan, as_of_one}
use Rattle.ccan_station.specs.Station.{Loads, answer_of, due, ending, frame_won, loaded_before, loaded_by, may_send}
use Rattle.ccan_station.specs.Station.{role_now, sending_now, sent_as}

-- ---- who takes part and is not silent may send

first : (a b : Bool) → (a && b) ≡ true → a ≡ true
first true b h = refl
first false b h = absurd cc

second : (a b : Bool) → (a && b) ≡ true → b ≡ true
second true b h = h
second false b h = absurd cc

not_so : (b : Bool) → not b ≡ true → b ≡ false
not_so true h = absurd cc
not_so false h = refl

looped_sends : (silent : Bool) → may_send (if silent then Alone else Looped) ≡ true
looped_sends true = refl
looped_sends false = refl

in_mode_sends : (loops silent : Bool) (c : Controller) (r : Role) → may_send r ≡ true
    → (if loops then looped c else (if silent then Silent else r)) ≢ Silent
    → may_send (if loops then looped c else (if silent then Silent else r)) ≡ true
in_mode_sends true silent c r h drives = looped_sends c.test.silent
in_mode_sends false true c r h drives = absurd (drives refl)
in_mode_sends false false c r h drives = h

running_sends : (c : Controller) (off passive : Bool) → off ≡ false
    → role_of_running c (if off then Off else (if passive then Passive else Active)) ≢ Silent
    → may_send (role_of_running c (if off then Off else (if passive then Passive else Active))) ≡ true
running_sends c true passive is drives = absurd cc
running_sends c false true is drives =
    in_mode_sends (c.control.test && c.test.lback) (c.control.test && c.test.silent) c role.Passive refl drives
running_sends c false false is drives =
    in_mode_sends (c.control.test && c.test.lback) (c.control.test && c.test.silent) c role.Active refl drives

init_sends : (init : Bool) (r : Role) → init ≡ false → (r ≢ Silent → may_send r ≡ true)
    → (if init then Absent else r) ≢ Silent → may_send (if init then Absent else r) ≡ true
init_sends true r is h drives = absurd cc
init_sends false r is h drives = h drives

role_sends : (c : Controller) → takes_part c ≡ true → role_of c ≢ Silent → may_send (role_of c) ≡ true
role_sends c takes drives =
    let may = first (may_take_part c) (not c.has_left) takes in
    let on = first (not c.control.init) (not (is_off c.counters.levels)) may in
    let not_off = second (not c.control.init) (not (is_off c.counters.levels)) may in
    init_sends c.control.init (role_of_running c (state_of c.counters.levels)) (not_so _ on)
    (λ d. running_sends c (is_off c.counters.levels) (reaches passive_limit c.counters.levels) (not_so _ not_off) d) drives

-- ---- the load

module _ (terms : Terms) (tries : ℕ) (seen added : List Event) where
  -- a load of that bus from this past, with this left loaded
  abbrev IsLoad : BusPast → Option Loaded → LoadAnswer → Type 0
  IsLoad past new told = (after : BusPast) × bus.Loads terms tries seen added past after told × (after.loaded ≡ as_of_one new)

  -- nothing is loaded by a controller that takes no part
  off : (p : BusPast) (new : Option Loaded) (told : LoadAnswer) → p.loaded ≡ None → is_on p 0 ≡ false → added ≡ [] → new ≡ None
      → told ≡ load.Nothing → IsLoad p new told
  off p new told empty out quiet new_is told_is = (
    p,
    subst (λ t. bus.Loads terms tries seen added p p t) (sym told_is)
        (inl (record { empty = empty; off = out; quiet = quiet; same = refl })),
    empty ∙ ap as_of_one (sym new_is),
  )

  module _ (p : BusPast) (choice : p.choice ≡ AtOnce) (on : is_on p 0 ≡ true) where
    held : (loaded : Loaded) (new : Option Loaded) (told : LoadAnswer) → p.loaded ≡ as_of_one (Some loaded) → added ≡ []
        → new ≡ Some loaded → told ≡ load.Held loaded.object → IsLoad p new told
    held loaded new told is quiet new_is told_is = (
      p,
      subst (λ t. bus.Loads terms tries seen added p p t) (sym told_is)
          (record { started = loaded.started; held = is; quiet = quiet; same = refl }),
      is ∙ ap as_of_one (sym new_is),
    )

    module _ (empty : p.loaded ≡ None) where
      chosen_at : (chosen : Chosen) → ChoosesAtOnce terms UntilSent tries seen added chosen
          → bus.IsLoadChoice terms tries seen added p chosen
      chosen_at chosen h =
          record {
            empty = empty;
            on = on;
            chooses = subst (λ c. Chooses c terms tries seen added chosen) (sym choice) h;
          }

      refused_at : (at : ℕ) (why : Refused) → ChoosesAtOnce terms UntilSent tries seen added (Err (record { at = at; why = why }))
          → bus.Loads terms tries seen added p p (bus.refusal_of_load at why)
      refused_at at (Busy told now) h = (told, now, record { choice = chosen_at _ h; same = refl })
      refused_at at Spent h = record { choice = chosen_at _ h; same = refl }

      chosen_by : (chosen : Chosen) → ChoosesAtOnce terms UntilSent tries seen added chosen
          → IsLoad p (loaded_by UntilSent chosen) (answer_of chosen)
      chosen_by (Ok None) h = (p, inr (record { choice = chosen_at _ h; same = refl }), empty)
      chosen_by (Ok (Some found)) h =
          (record p { loaded = Some found }, record { choice = chosen_at _ h; now_loaded = refl }, refl)
      chosen_by (Err refused) h = (p, refused_at refused.at refused.why h, empty)

      chooses : (new : Option Loaded) (told : LoadAnswer) (chosen : Chosen)
          → ChoosesAtOnce terms UntilSent tries seen added chosen
          → new ≡ loaded_by UntilSent chosen → told ≡ answer_of chosen → IsLoad p new told
      chooses new told chosen h new_is told_is =
          subst (λ (u : Option Loaded × LoadAnswer). IsLoad p u.0 u.1) (λ i. (sym new_is i, sym told_is i)) (chosen_by chosen h)

    runs : (old new : Option Loaded) (told : LoadAnswer) → p.loaded ≡ as_of_one old
        → Loads true UntilSent terms tries seen added old new told
        → IsLoad p new told
    runs (Some loaded) new told is h = held loaded new told is h.0 h.1 h.2
    runs None new told is h = chooses is new told h.0 h.1 h.2 h.3

  -- by whether the controller takes part
  module _ (c : Controller) (events : List NodeEvent) (past : BusPast) (choice : past.choice ≡ AtOnce) where
    abbrev past_by : Bool → BusPast
    past_by takes =
        if takes then with_controller events (loops_back c) past else unloaded (with_controller faults_to_off false past)

    by_part : (takes : Bool) → is_on (past_by takes) 0 ≡ takes → (takes ≡ true → may_send (role_of c) ≡ true)
        → (old new : Option Loaded) (told : LoadAnswer) → past.loaded ≡ as_of_one old
        → Loads (may_send (if takes then role_of c else Absent)) UntilSent terms tries seen added old new told
        → IsLoad (past_by takes) new told
    by_part true on sends old new told is h =
        runs (past_by true) choice on old new told is
        (subst (λ s. Loads s UntilSent terms tries seen added old new told) (sends refl) h)
    by_part false out sends old new told is h = off (past_by false) new told refl out h.0 h.1 h.2

loaded_left : (left : Bool) (past : BusPast) (loaded : Option Loaded) → past.loaded ≡ as_of_one loaded
    → (if left then unloaded past else past).loaded ≡ as_of_one (if left then None else loaded)
loaded_left true past loaded is = refl
loaded_left false past loaded is = is

choice_left : (left : Bool) (past : BusPast) → (if left then unloaded past else past).choice ≡ past.choice
choice_left true past = refl
choice_left false past = refl

pub begins_as_load : BeginsAreLoads
begins_as_load terms tries old new past loaded after under_way told choice same b drives again =
    let c = told.found in
    let looked = b.looked in
    let events = events_in looked.whole in
    let left = left_behind b.first past in
    let before = loaded_before b.first loaded in
    let counts = counters_found b.arrives.before looked c b.arrives.looks.adds in
    let loads = subst (λ s. Loads (may_send (role_now c)) s terms tries looked.pass.seen b.added before after told.loading)
    (ap (λ (dar : Bool). if dar then Once else UntilSent) again) b.loads in
    let made = by_part terms tries looked.pass.seen b.added c events left (choice_left b.first.has_left past ∙ choice)
    (takes_part c) (found_on c events left counts) (λ takes. role_sends c takes drives) before after told.loading
    (loaded_left b.first.has_left past loaded same) loads in (
      made.0,
      record {
        looked = looked;
        first = b.first;
        arrives = b.arrives;
        rests = b.rests;
        added = b.added;
        adds = b.adds;
        loads = made.1;
      },
      made.2,
    )

-- ---- the end, as the start was

-- what is loaded by a choice is tried as that choice was made for
chosen_as : (sending : Sending) (chosen : Chosen) (loaded : Loaded) → Some loaded ≡ loaded_by sending chosen
    → loaded.sending ≡ sending
chosen_as sending (Ok None) loaded is = absurd cc
chosen_as sending (Ok (Some found)) loaded is = let e = is in cc
chosen_as sending (Err refused) loaded is = absurd cc

loaded_as : (sends : Bool) (sending : Sending) (terms : Terms) (tries : ℕ) (seen added : List Event) (loaded : Loaded)
    (told : LoadAnswer) → Loads sends sending terms tries seen added None (Some loaded) told → loaded.sending ≡ sending
loaded_as true sending terms tries seen added loaded told (chosen, h, is, answer) = chosen_as sending chosen loaded is
loaded_as false sending terms tries seen added loaded told (quiet, none, answer) = absurd cc

none_before : (left : Bool) (before : Option Loaded) → before ≡ None → (if left then None else before) ≡ None
none_before true before is = refl
none_before false before is = is

completes_by : (takes : Bool) (sending : Sending) (terms : Terms) (tries : ℕ) (seen added : List Event) (loaded : Loaded)
    (own : Option (BusEvent × StatusEvent)) (won : Option Frame) (end : RoundEnd) → loaded.sending ≡ sending
    → (takes ≡ false → own ≡ None)
    → Completes terms (sent_as (if takes then Some loaded else None)) tries seen added
    (due own (if takes then Some loaded else None) won) end
    → Completes terms sending tries seen added (due own (if takes then Some loaded else None) won) end
completes_by true sending terms tries seen added loaded own won end same gone h =
    subst (λ s. Completes terms s tries seen added (due own (Some loaded) won) end) same h
completes_by false sending terms tries seen added loaded own won end same gone h =
    let none = gone refl in
    subst (λ o. Completes terms sending tries seen added (due o None won) end) (sym none)
    (subst (λ o. Completes terms UntilSent tries seen added (due o None won) end) none h)

no_event_by : (takes : Bool) (on : Wire) (place : ℕ) (flaw : Option Flaw) (under_way : Option Member) → takes ≡ false
    → event_of on place (ending (if takes then under_way else None) flaw) ≡ None
no_event_by true on place flaw under_way is = absurd cc
no_event_by false on place flaw under_way is = refl

pub ends_as_begun : EndsAsItBegan
ends_as_begun terms tries old new later last on place flaw loaded after under_way begun told b e =
    let loads = subst (λ l. Loads (may_send (role_now begun.found)) (sending_now begun.found) terms tries b.looked.pass.seen
    b.added l (Some loaded) begun.loading) (none_before b.first.has_left None refl) b.loads in
    let same = loaded_as (may_send (role_now begun.found)) (sending_now begun.found) terms tries b.looked.pass.seen b.added loaded
    begun.loading loads in
    completes_by (takes_part told.found) (sending_now begun.found) terms tries e.looked.pass.seen e.added loaded told.own
    (frame_won (start_of on)) told.end same
    (λ gone. e.own ∙ no_event_by (takes_part told.found) on place flaw under_way gone) e.completes
