-- Looks and scans during which nobody else acts: they are those of a one-thread memory.
use Rattle.std.proofs.Common.{◌≡◌, ◌≤◌, ◌-◌, ◌+◌, ℕ, zero, suc, Bool, true, false, List, [], ◌∷◌, ◌++◌, inl, inr, Result, length, subst}
use Rattle.ccan_object.specs.declared.record.Record.{Record}
use Rattle.ccan_object.specs.Profile.{objects_in}
use Rattle.ccan_ram.specs.declared.change.Change.{Change}
use Rattle.ccan_ram.specs.declared.change.Changed.{Changed}
use Rattle.ccan_ram.specs.declared.change.Refused.{Refused}
use Rattle.ccan_ram.specs.declared.event.Event.{Event}
use Rattle.ccan_ram.specs.declared.flag.Flag.{Flag}
use Rattle.ccan_ram.specs.History.{NobodyElse}
use Rattle.ccan_ram.specs.Terms.{Terms}
use Rattle.ccan_ram.specs.Laws.{as_one_thread}
use Rattle.ccan_ram.proofs.Histories.{undisturbed_parts}
use Rattle.ccan_ram.proofs.Undisturbed.{looks_undisturbed, attempts_undisturbed}
use Rattle.ccan_handler.specs.Watch.{Looks, NoneShows, FirstShows, Watches}
use Rattle.ccan_handler.specs.Scan.{IsTried, IsPassed, PassesOver, StopsAt, Scan, ScanEnd, Nowhere, MadeAt, RefusedAt}

-- nobody else acts in either part
pub apart : (terms : Terms) (added last first : List Event) → added ≡ last ++ first → NobodyElse terms.port added
    → NobodyElse terms.port last × NobodyElse terms.port first
apart terms added last first whole alone = undisturbed_parts terms.port last first (subst (NobodyElse terms.port) whole alone)

-- ---- looks

module _ (terms : Terms) where
  looks_apart : (place : ℕ → ℕ) (shown : List Record) (added : List Event) → NobodyElse terms.port added
      → Looks terms place shown added → Looks (as_one_thread terms) place shown added
  looks_apart place [] added alone looks = looks
  looks_apart place (last ∷ before) added alone (newest, earlier, whole, look, rest) =
      let parts = apart terms added newest earlier whole alone in (
        newest,
        earlier,
        whole,
        looks_undisturbed terms (place (length before)) last newest parts.0 look,
        looks_apart place before earlier parts.1 rest,
      )

  module _ (added : List Event) (alone : NobodyElse terms.port added) where
    none_apart : (place : ℕ → ℕ) (flag : Flag) (count : ℕ) → NoneShows terms place flag count added
        → NoneShows (as_one_thread terms) place flag count added
    none_apart place flag count h =
        record { shown = h.shown; looks = looks_apart place h.shown added alone h.looks; counted = h.counted; none = h.none }

    first_apart : (place : ℕ → ℕ) (flag : Flag) (count : ℕ) → FirstShows terms place flag count added
        → FirstShows (as_one_thread terms) place flag count added
    first_apart place flag count h = record {
      last = h.last;
      before = h.before;
      looks = looks_apart place (h.last ∷ h.before) added alone h.looks;
      counted = h.counted;
      none = h.none;
      shows = h.shows;
    }

    pub watches_apart : (object : ℕ) (flag : Flag) (turns : ℕ) (shown : Bool) → Watches terms object flag turns added shown
        → Watches (as_one_thread terms) object flag turns added shown
    watches_apart object flag turns true (count, less, h) = (count, less, first_apart (λ before. object) flag count h)
    watches_apart object flag turns false h = none_apart (λ before. object) flag turns h

-- ---- scans

module _ (terms : Terms) (change : Change) (tries : ℕ) (some : 1 ≤ tries) where
  tried_apart : (object : ℕ) (seen added : List Event) (outcome : Result Changed Refused) → NobodyElse terms.port added
      → IsTried terms object change tries seen added outcome
      → IsTried (as_one_thread terms) object change tries seen added outcome
  tried_apart object seen added outcome alone h =
      let parts = apart terms added h.tried h.looked h.whole alone in
      record {
        shown = h.shown;
        looked = h.looked;
        tried = h.tried;
        whole = h.whole;
        look = looks_undisturbed terms object h.shown h.looked parts.1 h.look;
        fit = h.fit;
        attempt = attempts_undisturbed terms object change tries (h.looked ++ seen) h.tried outcome some parts.0 h.attempt;
      }

  passed_apart : (object : ℕ) (seen added : List Event) → NobodyElse terms.port added
      → IsPassed terms object change tries seen added
      → IsPassed (as_one_thread terms) object change tries seen added
  passed_apart object seen added alone (inl (shown, unfit, look)) =
      inl (shown, unfit, looks_undisturbed terms object shown added alone look)
  passed_apart object seen added alone (inr (shown, tried)) = inr (shown, tried_apart object seen added _ alone tried)

  passes_apart : (from n : ℕ) (seen added : List Event) → NobodyElse terms.port added
      → PassesOver terms from n change tries seen added
      → PassesOver (as_one_thread terms) from n change tries seen added
  passes_apart from zero seen added alone none = none
  passes_apart from (suc n) seen added alone (last, earlier, whole, passed, rest) =
      let parts = apart terms added last earlier whole alone in (
        last,
        earlier,
        whole,
        passed_apart (from + n) (earlier ++ seen) last parts.0 passed,
        passes_apart from n seen earlier parts.1 rest,
      )

  stops_apart : (from object : ℕ) (seen added : List Event) (outcome : Result Changed Refused) → NobodyElse terms.port added
      → StopsAt terms from object change tries seen added outcome
      → StopsAt (as_one_thread terms) from object change tries seen added outcome
  stops_apart from object seen added outcome alone h =
      let parts = apart terms added h.last h.passed h.whole alone in
      record {
        in_turn = h.in_turn;
        held = h.held;
        passed = h.passed;
        last = h.last;
        whole = h.whole;
        passes = passes_apart from (object - from) seen h.passed parts.1 h.passes;
        try = tried_apart object (h.passed ++ seen) h.last outcome parts.0 h.try;
      }

  pub scans_apart : (from : ℕ) (seen added : List Event) (end : ScanEnd) → NobodyElse terms.port added
      → Scan terms change from tries seen added end → Scan (as_one_thread terms) change from tries seen added end
  scans_apart from seen added Nowhere alone h = passes_apart from (objects_in terms.profile + 1 - from) seen added alone h
  scans_apart from seen added (MadeAt object before after number) alone h = stops_apart from object seen added _ alone h
  scans_apart from seen added (RefusedAt object why) alone h = stops_apart from object seen added _ alone h
