-- The port's own events where it looks, one look after another.
use Rattle.std.proofs.Common.{ℕ, suc, ◌≡◌, ◌≤◌, ◌<◌, ◌+◌, ◌-◌, true, false, List, [], ◌∷◌, ◌++◌, length, refl, sym, ap, subst, ◌∙◌, inl, inr, ◌⊎◌, arith}
use Rattle.std.specs.List.{All, list_any}
use Rattle.std.proofs.lemmas.Bool.{cases_lt, or_parts}
use Rattle.std.proofs.lemmas.List.Elements.{All-nil, All-cons}
use Rattle.ccan_object.specs.declared.record.Record.{Record}
use Rattle.ccan_object.specs.Bits.{bit}
use Rattle.ccan_object.specs.Profile.{objects_in}
use Rattle.ccan_ram.specs.declared.event.Event.{Event}
use Rattle.ccan_ram.specs.declared.flag.Flag.{Flag}
use Rattle.ccan_ram.specs.Flags.{flag_of}
use Rattle.ccan_ram.specs.HandlerRegisters.{flag_word}
use Rattle.ccan_ram.specs.History.{events_of, changes_by}
use Rattle.ccan_ram.specs.Terms.{Terms}
use Rattle.ccan_ram.specs.Attempt.{look_at}
use Rattle.ccan_ram.proofs.Registers.{word_below, top_bit, low_bit}
use Rattle.ccan_ram.proofs.Histories.{events_of-append, events_of-EndsIn, changes_by-append, changes_by-foreign}
use Rattle.ccan_handler.specs.Watch.{Looks, in_turn}
use Rattle.ccan_handler.specs.Laws.{IsLookWithout, WaitingAnswersYesAtItsLastLook, WaitingAnswersNoAfterAllTurns, LooksInTurn, InterruptsAreBounded, FlagsTakeOneLookEach, EachFlagIsShown}
use Rattle.ccan_handler.proofs.Own.{its_own}

-- one look for each record
abbrev own_looks : Terms → (ℕ → ℕ) → List Record → List Event
own_looks terms place [] = []
own_looks terms place (last ∷ before) = look_at terms.port (place (length before)) last ∷ own_looks terms place before

module _ (terms : Terms) (place : ℕ → ℕ) where
  own : (shown : List Record) (added : List Event) → Looks terms place shown added
      → events_of terms.port added ≡ own_looks terms place shown
  own [] added none = ap (events_of terms.port) none
  own (last ∷ before) added (newest, earlier, whole, look, looks) =
      let port = terms.port in
      let event = look_at port (place (length before)) last in
      ap (events_of port) whole ∙ (events_of-append port newest earlier
      ∙ (ap (λ es. es ++ events_of port earlier) (events_of-EndsIn terms newest event (its_own port) look)
      ∙ ap (λ es. event ∷ es) (own before earlier looks)))

  as_many : (shown : List Record) → length (own_looks terms place shown) ≡ length shown
  as_many [] = refl
  as_many (last ∷ before) = ap suc (as_many before)

  no_change : (shown : List Record) (added : List Event) → Looks terms place shown added → changes_by terms.port added ≡ 0
  no_change [] added none = ap (changes_by terms.port) none
  no_change (last ∷ before) added (newest, earlier, whole, (others, foreign, look), looks) =
      let port = terms.port in
      let first : changes_by port newest ≡ 0 = ap (changes_by port) look ∙ changes_by-foreign port others foreign.not_own in
      omega (arith, ap (changes_by port) whole, changes_by-append port newest earlier, first, no_change before earlier looks)

-- looks at one object that do not show a flag
without : (terms : Terms) (object : ℕ) (flag : Flag) (shown : List Record) → list_any (flag_of flag) shown ≡ false
    → All (IsLookWithout terms object flag) (own_looks terms (λ before. object) shown)
without terms object flag [] none = All-nil (IsLookWithout terms object flag)
without terms object flag (last ∷ before) none =
    let parts = or_parts (flag_of flag last) (list_any (flag_of flag) before) none in
    All-cons (IsLookWithout terms object flag) (look_at terms.port object last) (own_looks terms (λ k. object) before)
    (record { look = refl; unset = parts.0 }) (without terms object flag before parts.1)

pub yes_law : WaitingAnswersYesAtItsLastLook
yes_law terms object turns flag added (count, within, first) =
    let place : ℕ → ℕ = λ before. object in
    record {
      shown = first.last;
      before = own_looks terms place first.before;
      own = own terms place (first.last ∷ first.before) added first.looks;
      shows = first.shows;
      none = without terms object flag first.before first.none;
      within = omega (arith, as_many terms place first.before, first.counted, within);
    }

pub no_law : WaitingAnswersNoAfterAllTurns
no_law terms object turns flag added none =
    let place : ℕ → ℕ = λ before. object in
    let all = own terms place none.shown added none.looks in
    (ap length all ∙ (as_many terms place none.shown ∙ none.counted), rw all (without terms object flag none.shown none.none))

-- looks in turn are one at each object
one_each : (terms : Terms) (shown : List Record) → LooksInTurn terms (length shown) (own_looks terms in_turn shown)
one_each terms [] = refl
one_each terms (last ∷ before) =
    let next : length before + 1 ≡ suc (length before) = omega arith in
    let event = λ (k : ℕ). look_at terms.port k last in
    (last, own_looks terms in_turn before, ap (λ k. event k ∷ own_looks terms in_turn before) next, one_each terms before)

in_turn_to : (terms : Terms) (n : ℕ) (shown : List Record) (added : List Event) → Looks terms in_turn shown added
    → length shown ≡ n
    → LooksInTurn terms n (events_of terms.port added)
in_turn_to terms n shown added looks counted =
    subst (λ k. LooksInTurn terms k (events_of terms.port added)) counted
    (subst (LooksInTurn terms (length shown)) (sym (own terms in_turn shown added looks)) (one_each terms shown))

pub interrupt_law : InterruptsAreBounded
interrupt_law terms true value added (is, none) = rw none (omega arith, refl, refl)
interrupt_law terms false value added (inl (is, none)) =
    let all = ap length (own terms in_turn none.shown added none.looks) ∙ as_many terms in_turn none.shown in (
      omega (arith, all, none.counted),
      no_change terms in_turn none.shown added none.looks,
      rw is (in_turn_to terms (objects_in terms.profile) none.shown added none.looks none.counted),
    )
interrupt_law terms false value added (inr (count, within, is, first)) =
    let shown = first.last ∷ first.before in
    let all = ap length (own terms in_turn shown added first.looks) ∙ as_many terms in_turn shown in
    let found : value ≡ suc count = omega (arith, is) in (
      omega (arith, all, first.counted, within),
      no_change terms in_turn shown added first.looks,
      rw found (in_turn_to terms (suc count) shown added first.looks (ap suc first.counted)),
    )

pub flags_law : FlagsTakeOneLookEach
flags_law terms flag word added reads = (
  ap length (own terms in_turn reads.shown added reads.looks)
      ∙ (as_many terms in_turn reads.shown ∙ reads.counted),
  no_change terms in_turn reads.shown added reads.looks,
  in_turn_to terms (objects_in terms.profile) reads.shown added reads.looks reads.counted,
)

-- ---- the bits of a flag word

-- the look at an object in turn, and its bit
record Found (terms : Terms) (flag : Flag) (shown : List Record) (k : ℕ) : Type 0 where
  pub record_shown : Record
  pub later : List Event
  earlier : List Event
  own : own_looks terms in_turn shown ≡ later ++ look_at terms.port (k + 1) record_shown ∷ earlier
  set : flag_of flag record_shown ≡ bit (flag_word flag shown) k

find : (terms : Terms) (flag : Flag) (shown : List Record) (k : ℕ) → k < length shown → Found terms flag shown k
find terms flag [] k less = absurd (omega arith)
find terms flag (last ∷ before) k less = by_order (cases_lt k (length before)) (find terms flag before k) where
  by_order : (k < length before) ⊎ (length before ≤ k) → (k < length before → Found terms flag before k)
      → Found terms flag (last ∷ before) k
  by_order (inl under) deeper =
      let f = deeper under in
      record {
        record_shown = f.record_shown;
        later = look_at terms.port (in_turn (length before)) last ∷ f.later;
        earlier = f.earlier;
        own = ap (λ es. look_at terms.port (in_turn (length before)) last ∷ es) f.own;
        set = f.set ∙ sym (low_bit (flag_word flag before) (length before) (word_below flag before) (flag_of flag last) k under);
      }
  by_order (inr top) deeper =
      let here : length before ≡ k = omega arith in
      record {
        record_shown = last;
        later = [];
        earlier = own_looks terms in_turn before;
        own = ap (λ n. look_at terms.port (n + 1) last ∷ own_looks terms in_turn before) here;
        set = sym (top_bit (flag_word flag before) (length before) (word_below flag before) (flag_of flag last))
            ∙ ap (bit (flag_word flag (last ∷ before))) here;
      }

pub shown_law : EachFlagIsShown
shown_law terms flag word object added reads low high =
    let f = find terms flag reads.shown (object - 1) (omega (arith, reads.counted)) in
    let here : object - 1 + 1 ≡ object = omega arith in
    record {
      shown = f.record_shown;
      later = f.later;
      earlier = f.earlier;
      own = own terms in_turn reads.shown added reads.looks
          ∙ (f.own ∙ ap (λ n. f.later ++ look_at terms.port n f.record_shown ∷ f.earlier) here);
      so = f.set ∙ ap (λ n. bit n (object - 1)) (sym reads.is);
    }
