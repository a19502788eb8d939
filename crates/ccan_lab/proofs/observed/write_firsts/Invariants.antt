use Rattle.std.proofs.Common.{◌≤◌, ℕ, List, length, map, string_bytes}
use Rattle.std.specs.Io.KnownBytes.{Appends}
use Rattle.ccan_outcomes.specs.RaceScript.{fields_of}
use Rattle.ccan_outcomes.specs.OutcomeWords.{endings_in}
use Rattle.ccan_lab.specs.Observed.{AreFirstTexts}
use Rattle.ccan_lab.specs.OutcomeText.{IsOutcomeText}
use Rattle.ccan_lab.specs.Telling.{frames_in}
use Rattle.ccan_lab.proofs.observed.write_firsts.Given as goal

-- the outcomes so far
abbrev pub invariant-loop-number : goal.invariant-loop-number
invariant-loop-number g l = record {
  within : l.number ≤ length (endings_in l.telling.list.now.words);
  told : (added : List ℕ) × Appends (g.W.Write.contents l.initial.writer) (g.W.Write.contents l.writer) added
      × AreFirstTexts (IsOutcomeText (frames_in l.telling.list.now) l.telling.query.now.form
      (fields_of l.telling.query.now.race.now) (endings_in l.telling.list.now.words)) (map string_bytes l.texts.lines.items)
      l.number added;
}
