-- What one picture shows, and the choice among its objects.
use Rattle.std.proofs.Common.{ℕ, suc, ◌≡◌, ◌≤◌, ◌<◌, ◌+◌, ◌^◌, List, ◌++◌, true, false, refl, ap, ◌∙◌, subst, arith, inl, inr, ⊎_elim, Option, None, Result, Ok}
use Rattle.std.proofs.lemmas.Bool.{cases_lt}
use Rattle.std.proofs.lemmas.Nat.Bits.{bit_at_above, bit_at-trailing_zeros}
use Rattle.std.specs.Int.{trailing_zeros, w64}
use Rattle.ccan_object.specs.declared.record.Record.{Record}
use Rattle.ccan_object.specs.Bits.{bit}
use Rattle.ccan_object.specs.Profile.{objects_in}
use Rattle.ccan_ram.specs.declared.change.Refused.{Refused}
use Rattle.ccan_ram.specs.declared.flag.Flag.{Flag}
use Rattle.ccan_ram.specs.declared.handler_registers.HandlerRegisters.{HandlerRegisters}
use Rattle.ccan_ram.specs.declared.event.Event.{Event}
use Rattle.ccan_ram.specs.Access.{Passes, Goes}
use Rattle.ccan_ram.specs.Terms.{Terms}
use Rattle.ccan_ram.specs.HandlerRegisters.{register_of}
use Rattle.ccan_ram.specs.Picture.{AddsPicture}
use Rattle.ccan_ram.specs.Change.{fits, changed}
use Rattle.ccan_ram.specs.Sending.{start_by}
use Rattle.ccan_ram.specs.declared.sending.Sending.{Sending}
use Rattle.ccan_ram.specs.declared.sending.Sending.TheVariants.{UntilSent, Once}
use Rattle.ccan_ram.proofs.Calls.{Goes-then, Goes-none, Goes-weaker}
use Rattle.ccan_handler.specs.declared.scan.ScanRefused.{ScanRefused}
use Rattle.ccan_handler.specs.Scan.{BearsStart, IsStarted}
use Rattle.ccan_handler.proofs.Scans.{both}
use Rattle.ccan_handler.specs.Moment.{IsFirstSet, AddsFlagsAtOnce, AddsInterruptAtOnce, Starts, Skips, StopsAtOne, AddsStart, AddsChoiceAmong, AddsChoiceAtOnce}

pub flags_of_picture : {x y : Passes} (flag : Flag) (word : ℕ) (shown : HandlerRegisters) → AddsPicture x y shown
    → word ≡ register_of flag shown → AddsFlagsAtOnce x y flag word
flags_of_picture flag word shown picture is =
    Goes-weaker picture (λ seen added here after p. record { shown = shown; picture = p; is = is })

pub interrupt_of_picture : {x y : Passes} (value : ℕ) (shown : HandlerRegisters) → AddsPicture x y shown
    → IsFirstSet shown.intpnd value → AddsInterruptAtOnce x y false value
interrupt_of_picture value shown picture first = Goes-weaker picture (λ seen added here after p. (shown, p, first))

-- ---- the lowest bit

-- a word that is not 0 has one, below 64 where the word is
pub some_set : (word value : ℕ) → 0 < word → word < 2 ^ 64 → value ≡ trailing_zeros w64 word + 1 → IsFirstSet word value
some_set word value some fits is =
    let bits = bit_at-trailing_zeros w64 word some fits in
    inr (trailing_zeros w64 word, is, (rw bits.1 refl), (λ k less. let none = bits.2 k less in rw none refl))

-- no bit of a word is set above it
pub set_below : (word n place : ℕ) → word < 2 ^ n → bit word place ≡ true → place < n
set_below word n place below set = ⊎_elim (λ (l : place < n). l)
    (λ (g : n ≤ place). let none = bit_at_above word n place below g in
    let unset : bit word place ≡ false = rw none refl in absurd cc) (cases_lt place n)

pub first_within : (word n value : ℕ) → word < 2 ^ n → IsFirstSet word value → value ≤ n
first_within word n value below (inl (none, zero)) = omega arith
first_within word n value below (inr (place, is, set, first)) = let less = set_below word n place below set in omega arith

-- ---- a choice

pub none_skipped : {x : Passes} (sending : Sending) (shown : HandlerRegisters) (tries : ℕ)
    → Goes x x (λ terms seen added. Skips terms sending shown tries 0 seen added)
none_skipped sending shown tries = Goes-none (λ seen here. refl)

-- one object more is passed over
pub skips_more : {x y z : Passes} (sending : Sending) (shown : HandlerRegisters) (tries n object : ℕ) → object ≡ n + 1
    → Goes x y (λ terms seen added. Skips terms sending shown tries n seen added)
    → AddsStart y z sending shown object tries (Ok None)
    → Goes x z (λ terms seen added. Skips terms sending shown tries (n + 1) seen added)
skips_more {x} {y} {z} sending shown tries n object is so_far start =
    let next : suc n ≡ n + 1 = omega arith in
    let here : object ≡ suc n = omega arith in
    subst (λ (k : ℕ). Goes x z (λ terms seen added. Skips terms sending shown tries k seen added)) next
    (Goes-then so_far start (λ seen xs ys p q.
    (ys, xs, refl, subst (λ (k : ℕ). Starts x.terms sending shown k tries (xs ++ seen) ys (Ok None)) here q, p)))

-- an object at which the choice stops
pub stops_at : {x y z : Passes} (sending : Sending) (shown : HandlerRegisters) (tries n object : ℕ)
    (outcome : Result (Option Record) Refused)
    → object ≡ n + 1 → n < objects_in x.terms.profile
    → Goes x y (λ terms seen added. Skips terms sending shown tries n seen added)
    → AddsStart y z sending shown object tries outcome
    → Goes x z (λ terms seen added. StopsAtOne terms sending shown tries object seen added outcome)
stops_at sending shown tries n object outcome is held so_far start =
    Goes-then so_far start (λ seen xs ys p q. record {
      below = n;
      is = is;
      held = held;
      skipped = xs;
      last = ys;
      whole = refl;
      skips = p;
      start = q;
    })

pub all_skipped : {x y : Passes} (sending : Sending) (shown : HandlerRegisters) (tries n : ℕ) → n ≡ objects_in x.terms.profile
    → Goes x y (λ terms seen added. Skips terms sending shown tries n seen added)
    → AddsChoiceAmong x y sending shown tries (Ok None)
all_skipped {x} sending shown tries n all so_far =
    Goes-weaker so_far (λ seen added here after p. subst (λ (k : ℕ). Skips x.terms sending shown tries k seen added) all p)

-- what a start leaves
pub start_bears : (sending : Sending) (before after : Record) → fits (start_by sending) before ≡ true
    → after ≡ changed (start_by sending) before → (after.valid ≡ true) × BearsStart sending after
start_bears UntilSent before after fit left =
    let ready = both before.valid before.txrqst fit in (
      ap (λ (r : Record). r.valid) left ∙ ready.0,
      (ap (λ (r : Record). r.txrqst) left ∙ ready.1, ap (λ (r : Record). r.newdat) left),
    )
start_bears Once before after fit left =
    let ready = both before.valid before.txrqst fit in
    (ap (λ (r : Record). r.valid) left ∙ ready.0, ap (λ (r : Record). r.txrqst) left)

-- a start that was made after others
pub started_later : {x y : Passes} {what : Terms → List Event → List Event → Type 0} (sending : Sending) (chosen : ℕ × Record)
    → Goes x y what → IsStarted y.terms sending 1 chosen → IsStarted x.terms sending 1 chosen
started_later sending chosen goes started = subst (λ (t : Terms). IsStarted t sending 1 chosen) goes.same started

pub chosen_at_once : {x y z : Passes} (sending : Sending) (shown : HandlerRegisters) (tries : ℕ)
    (answer : Result (Option (ℕ × Record)) ScanRefused)
    → AddsPicture x y shown → AddsChoiceAmong y z sending shown tries answer → AddsChoiceAtOnce x z sending tries answer
chosen_at_once sending shown tries answer picture choice =
    Goes-then picture choice (λ seen xs ys p q. record {
      shown = shown;
      looked = xs;
      tried = ys;
      whole = refl;
      picture = p;
      choice = q;
    })
