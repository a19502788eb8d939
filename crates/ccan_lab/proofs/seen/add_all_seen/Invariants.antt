use Rattle.std.proofs.Common.{◌≡◌, ◌≤◌, ◌++◌, ℕ, List, map, string_bytes}
use Rattle.ccan_outcomes.specs.RaceScript.{fields_of}
use Rattle.ccan_lab.specs.Observed.{AreFirstTexts, first_count}
use Rattle.ccan_lab.specs.Seen.{IsSeenText}
use Rattle.ccan_lab.specs.Telling.{frames_in}
use Rattle.ccan_lab.proofs.seen.add_all_seen.Given as goal

-- the outcomes so far, and how many of them show what none before them does
abbrev pub invariant-loop-place : goal.invariant-loop-place
invariant-loop-place g l =
    (l.count ≤ l.place) × (l.count ≡ first_count (map string_bytes l.texts.lines.items) l.place)
    × ((added : List ℕ) × (string_bytes l.text ≡ string_bytes l.initial.text ++ added)
    × AreFirstTexts (IsSeenText (frames_in l.telling.list.now) l.telling.query.now.form
    (fields_of l.telling.query.now.race.now) l.marks l.shown.endings.items (map string_bytes l.texts.lines.items))
    (map string_bytes l.texts.lines.items) l.place added)
