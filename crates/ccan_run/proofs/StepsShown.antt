-- Steps in the parts of a history: which of them the calls of a port made, and what they show.
use Rattle.std.proofs.Common.{◌≡◌, ◌≤◌, ◌<◌, ◌+◌, ◌-◌, ℕ, Bool, true, false, List, [], ◌∷◌, ◌++◌, inl, inr, Ok}
use Rattle.std.proofs.Common.{ap, arith, cond, length, sym, subst}
use Rattle.std.specs.Prelude.{Contains}
use Rattle.std.specs.List.{list_any}
use Rattle.std.proofs.lemmas.Bool.{cases_lt, or_parts}
use Rattle.std.proofs.lemmas.List.Elements.{Contains-append_cases, Contains-append_left, Contains-append_right}
use Rattle.std.proofs.lemmas.List.Elements.{Contains-push, All-weaker}
use Rattle.ccan_object.specs.declared.record.Record.{Record}
use Rattle.ccan_ram.specs.declared.port.PortName.{PortName}
use Rattle.ccan_ram.specs.declared.change.Change.{Change}
use Rattle.ccan_ram.specs.declared.change.Changed.TheVariants.{Done}
use Rattle.ccan_ram.specs.declared.event.Event.{Event}
use Rattle.ccan_ram.specs.declared.event.Operation.TheVariants.{Look, Make}
use Rattle.ccan_ram.specs.declared.flag.Flag.{Flag}
use Rattle.ccan_ram.specs.Flags.{flag_of}
use Rattle.ccan_ram.specs.Port.{same_port}
use Rattle.ccan_ram.specs.History.{events_of}
use Rattle.ccan_ram.specs.Terms.{Terms}
use Rattle.ccan_ram.specs.Attempt.{Attempt, EndsIn, IsLook, look_at, change_at}
use Rattle.ccan_handler.specs.Watch.{Looks, FirstShows, NumbersFirst, Watches, ReadsFlags, in_turn}
use Rattle.ccan_handler.specs.Laws.{IsLookWithout}
use Rattle.ccan_handler.proofs.Rows.{no_law, shown_law}
use Rattle.ccan_run.specs.Answered.{HasStep, FlagWasShown, FindsUnset, WasNeverShown, NamesLowest, WordWasShown}

-- ---- steps in a part of the history

pub in_newest : (event : Event) (added newest earlier : List Event) → added ≡ newest ++ earlier → Contains newest event
    → Contains added event
in_newest event added newest earlier whole there =
    subst (λ (es : List Event). Contains es event) (sym whole) (Contains-append_left newest earlier event there)

pub in_earlier : (event : Event) (added newest earlier : List Event) → added ≡ newest ++ earlier → Contains earlier event
    → Contains added event
in_earlier event added newest earlier whole there =
    subst (λ (es : List Event). Contains es event) (sym whole) (Contains-append_right newest earlier event there)

ends_in : (terms : Terms) (added : List Event) (event : Event) → EndsIn terms added event → Contains added event
ends_in terms added event (others, foreign, whole) = in_newest event added (event ∷ []) others whole (Contains-push [] event)

-- what a port did is a step among all
own_more : (mine : Bool) (event first : Event) (own events : List Event) → (Contains own event → Contains events event)
    → Contains (cond mine (first ∷ own) own) event → Contains (first ∷ events) event
own_more true event first own events more there = elim (Contains-append_cases (first ∷ []) own event there) [
  | inl here ↦ Contains-append_left (first ∷ []) events event here
  | inr later ↦ Contains-append_right (first ∷ []) events event (more later)
]
own_more false event first own events more there = Contains-append_right (first ∷ []) events event (more there)

own_step : (port : PortName) (event : Event) (events : List Event) → Contains (events_of port events) event
    → Contains events event
own_step port event [] there = there
own_step port event (first ∷ events) there =
    own_more (same_port first.port port) event first (events_of port events) events (own_step port event events) there

-- ---- looks and changes

-- a look is a step of the port, and so is the change of an attempt that made it
pub looked_at : (terms : Terms) (object : ℕ) (shown : Record) (added : List Event) → IsLook terms object shown added
    → HasStep terms.port object Look shown shown added
looked_at terms object shown added look = ends_in terms added (look_at terms.port object shown) look

pub done_at : (terms : Terms) (object : ℕ) (change : Change) (tries : ℕ) (seen added : List Event) (before after : Record)
    (number : ℕ) → Attempt terms object change tries seen added (Ok (Done before after number))
    → HasStep terms.port object (Make change) before after added
done_at terms object change tries seen added before after number h =
    let event = change_at terms.port object change before in
    let made = ends_in terms h.made event h.make in
    let there : Contains added event = in_newest event added h.made (h.looked ++ h.lost) h.whole made in
    subst (λ (r : Record). HasStep terms.port object (Make change) before r added) (sym h.left) there

-- ---- flags

module _ (terms : Terms) where
  -- the newest look of some, and those before it
  newest_shown : (object : ℕ) (flag : Flag) (shown : Record) (is : Bool) (added newest earlier : List Event)
      → added ≡ newest ++ earlier → IsLook terms object shown newest → flag_of flag shown ≡ is
      → FlagWasShown terms.port object flag is added
  newest_shown object flag shown is added newest earlier whole look so =
      let step = looked_at terms object shown newest look in
      (shown, in_newest (look_at terms.port object shown) added newest earlier whole step, so)

  earlier_shown : (object : ℕ) (flag : Flag) (is : Bool) (added newest earlier : List Event) → added ≡ newest ++ earlier
      → FlagWasShown terms.port object flag is earlier → FlagWasShown terms.port object flag is added
  earlier_shown object flag is added newest earlier whole (shown, step, so) =
      (shown, in_earlier (look_at terms.port object shown) added newest earlier whole step, so)

  -- looks that don't show the flag
  none_shown : (place : ℕ → ℕ) (flag : Flag) (shown : List Record) (added : List Event) → Looks terms place shown added
      → list_any (flag_of flag) shown ≡ false → (n : ℕ) → n < length shown
      → FlagWasShown terms.port (place n) flag false added
  none_shown place flag [] added looks none n less = absurd (omega arith)
  none_shown place flag (last ∷ before) added (newest, earlier, whole, look, looks) none n less =
      let parts = or_parts (flag_of flag last) (list_any (flag_of flag) before) none in
      elim (cases_lt n (length before)) [
        | inl under ↦ earlier_shown (place n) flag false added newest earlier whole
            (none_shown place flag before earlier looks parts.1 n under)
        | inr top ↦
            let here : length before ≡ n = omega arith in
            subst (λ (k : ℕ). FlagWasShown terms.port (place k) flag false added) here
            (newest_shown (place (length before)) flag last false added newest earlier whole look parts.0)
      ]

  none_in_turn : (flag : Flag) (shown : List Record) (added : List Event) → Looks terms in_turn shown added
      → list_any (flag_of flag) shown ≡ false → (object : ℕ) → 1 ≤ object → object ≤ length shown
      → FlagWasShown terms.port object flag false added
  none_in_turn flag shown added looks none object least most =
      let here : object - 1 + 1 ≡ object = omega arith in
      subst (λ (k : ℕ). FlagWasShown terms.port k flag false added) here
      (none_shown in_turn flag shown added looks none (object - 1) (omega arith))

  first_shown : (place : ℕ → ℕ) (flag : Flag) (count : ℕ) (added : List Event) → FirstShows terms place flag count added
      → FlagWasShown terms.port (place count) flag true added
  first_shown place flag count added h =
      let look = h.looks in
      subst (λ (n : ℕ). FlagWasShown terms.port (place n) flag true added) h.counted
      (newest_shown (place (length h.before)) flag h.last true added look.0 look.1 look.2 look.3 h.shows)

  pub watch_shown : (object : ℕ) (flag : Flag) (turns : ℕ) (added : List Event) → Watches terms object flag turns added true
      → FlagWasShown terms.port object flag true added
  watch_shown object flag turns added (count, less, h) = first_shown (λ before. object) flag count added h

  pub watch_in_vain : (object : ℕ) (flag : Flag) (turns : ℕ) (added : List Event) → Watches terms object flag turns added false
      → WasNeverShown terms.port object flag turns added
  watch_in_vain object flag turns added h =
      let all = no_law terms object turns flag added h in
      record {
        each = All-weaker (IsLookWithout terms object flag) (FindsUnset object flag)
            (λ event is. record {
              object_is = ap (λ (e : Event). e.object) is.look;
              looks = ap (λ (e : Event). e.operation) is.look;
              unset = is.unset;
            }) (events_of terms.port added) all.1;
        counted = all.0;
      }

  pub number_shown : (flag : Flag) (value : ℕ) (added : List Event) → NumbersFirst terms flag added value
      → NamesLowest terms.port terms.profile flag value added
  number_shown flag value added (inl (is, h)) = inl (
    is,
    λ object held. none_in_turn flag h.shown added h.looks h.none object held.least (omega (arith, h.counted, held.greatest)),
  )
  number_shown flag value added (inr (count, less, is, h)) =
      let look = h.looks in inr (
        record { least = omega (arith, is); greatest = omega (arith, is, less) },
        subst (λ (n : ℕ). FlagWasShown terms.port n flag true added) (sym is) (first_shown in_turn flag count added h),
        λ object held below. earlier_shown object flag false added look.0 look.1 look.2
            (none_in_turn flag h.before look.1 look.4 h.none object held.least (omega (arith, h.counted, is, below))),
      )

  pub word_shown : (flag : Flag) (word : ℕ) (added : List Event) → ReadsFlags terms flag added word
      → WordWasShown terms.port terms.profile flag word added
  word_shown flag word added reads object held =
      let s = shown_law terms flag word object added reads held.least held.greatest in
      let look = look_at terms.port object s.shown in
      let among : Contains (s.later ++ (look ∷ s.earlier)) look =
      Contains-append_right s.later (look ∷ s.earlier) look
      (Contains-append_left (look ∷ []) s.earlier look (Contains-push [] look)) in
      let own : Contains (events_of terms.port added) look = subst (λ (es : List Event). Contains es look) (sym s.own) among in
      (s.shown, own_step terms.port look added own, s.so)
