-- How many changes a host makes in the parts of the history in which its lines run.
use Rattle.std.proofs.Common.{◌≡◌, ◌<◌, ◌+◌, ℕ, Bool, true, false, List, [], ◌∷◌, ◌++◌, inl, inr, Result, Ok, Err, refl, ap, ◌∙◌, arith, length}
use Rattle.std.specs.Prelude.{◌⊎◌}
use Rattle.ccan_object.specs.declared.record.Record.{Record}
use Rattle.ccan_object.specs.Profile.{objects_in}
use Rattle.ccan_ram.specs.declared.port.PortName.{PortName}
use Rattle.ccan_ram.specs.declared.change.Change.{Change}
use Rattle.ccan_ram.specs.declared.change.Changed.{Changed}
use Rattle.ccan_ram.specs.declared.change.Changed.TheVariants.{Done, NotNow}
use Rattle.ccan_ram.specs.declared.change.Refused.{Refused}
use Rattle.ccan_ram.specs.declared.change.Refused.TheVariants.{Busy, Spent}
use Rattle.ccan_ram.specs.declared.event.Event.{Event}
use Rattle.ccan_ram.specs.declared.flag.Flag.{Flag}
use Rattle.ccan_ram.specs.History.{changes_by}
use Rattle.ccan_ram.specs.Terms.{Terms}
use Rattle.ccan_ram.specs.Attempt.{Attempt, EndsIn, IsLook, change_at}
use Rattle.ccan_ram.proofs.Attempts.{changes_by-lost}
use Rattle.ccan_ram.proofs.Histories.{changes_by-append, changes_by-foreign}
use Rattle.ccan_handler.specs.Watch.{Looks, NumbersFirst, Watches, ReadsFlags, in_turn}
use Rattle.ccan_handler.proofs.Own.{its_own}

in_two : (port : PortName) (added newest earlier : List Event) (m n : ℕ) → added ≡ newest ++ earlier → changes_by port newest ≡ m
    → changes_by port earlier ≡ n → changes_by port added ≡ m + n
in_two port added newest earlier m n whole first last =
    omega (arith, ap (changes_by port) whole, changes_by-append port newest earlier, first, last)

module _ (terms : Terms) where
  pub changes_by-look : (object : ℕ) (shown : Record) (added : List Event) → IsLook terms object shown added
      → changes_by terms.port added ≡ 0
  changes_by-look object shown added (others, foreign, whole) =
      ap (changes_by terms.port) whole ∙ changes_by-foreign terms.port others foreign.not_own

  changes_by-made : (object : ℕ) (change : Change) (before : Record) (added : List Event)
      → EndsIn terms added (change_at terms.port object change before) → changes_by terms.port added ≡ 1
  changes_by-made object change before added (others, foreign, whole) =
      let port = terms.port in
      let counted : changes_by port (change_at port object change before ∷ others) ≡ changes_by port others + 1 =
      rw (its_own port) refl in
      ap (changes_by port) whole ∙ (counted ∙ ap (λ n. n + 1) (changes_by-foreign port others foreign.not_own))

  -- how many changes an attempt makes
  abbrev pub made : Result Changed Refused → ℕ
  made (Ok (Done before after number)) = 1
  made (Ok (NotNow shown)) = 0
  made (Err why) = 0

  pub changes_by-attempt : (object : ℕ) (change : Change) (tries : ℕ) (seen added : List Event)
      (outcome : Result Changed Refused)
      → Attempt terms object change tries seen added outcome → changes_by terms.port added ≡ made outcome
  changes_by-attempt object change tries seen added (Ok (Done before after number)) a =
      let port = terms.port in
      let looked = changes_by-look object before a.looked a.look in
      let lost = changes_by-lost terms object change a.times a.lost a.lose in
      let tried = in_two port (a.looked ++ a.lost) a.looked a.lost 0 0 refl looked lost in
      in_two port added a.made (a.looked ++ a.lost) 1 0 a.whole (changes_by-made object change before a.made a.make) tried
  changes_by-attempt object change tries seen added (Ok (NotNow shown)) a =
      in_two terms.port added a.looked a.lost 0 0 a.whole (changes_by-look object shown a.looked a.look)
      (changes_by-lost terms object change a.times a.lost a.lose)
  changes_by-attempt object change tries seen added (Err (Busy told now)) a =
      changes_by-lost terms object change tries added a.lose
  changes_by-attempt object change tries seen added (Err Spent) a = ap (changes_by terms.port) a.1

  -- looks make none
  changes_by-looks : (place : ℕ → ℕ) (shown : List Record) (added : List Event) → Looks terms place shown added
      → changes_by terms.port added ≡ 0
  changes_by-looks place [] added none = ap (changes_by terms.port) none
  changes_by-looks place (last ∷ before) added (newest, earlier, whole, look, rest) =
      in_two terms.port added newest earlier 0 0 whole (changes_by-look (place (length before)) last newest look)
      (changes_by-looks place before earlier rest)

  pub changes_by-watch : (object : ℕ) (flag : Flag) (turns : ℕ) (added : List Event) (shown : Bool)
      → Watches terms object flag turns added shown → changes_by terms.port added ≡ 0
  changes_by-watch object flag turns added true (count, less, h) =
      changes_by-looks (λ before. object) (h.last ∷ h.before) added h.looks
  changes_by-watch object flag turns added false h = changes_by-looks (λ before. object) h.shown added h.looks

  pub changes_by-number : (flag : Flag) (value : ℕ) (added : List Event) → NumbersFirst terms flag added value
      → changes_by terms.port added ≡ 0
  changes_by-number flag value added (inl (is, h)) = changes_by-looks in_turn h.shown added h.looks
  changes_by-number flag value added (inr (count, less, is, h)) =
      changes_by-looks in_turn (h.last ∷ h.before) added h.looks

  pub changes_by-flags : (flag : Flag) (added : List Event) (word : ℕ) → ReadsFlags terms flag added word
      → changes_by terms.port added ≡ 0
  changes_by-flags flag added word h = changes_by-looks (λ before. before + 1) h.shown added h.looks
