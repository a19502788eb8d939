use Rattle.std.proofs.Common.{◌≡◌, ◌++◌, drop, if◌then◌else◌}
use Rattle.ccan_language.specs.Words.{with_letter}
use Rattle.ccan_language.proofs.sources.with_letter.Given as goal

abbrev pub invariant-loop-other : goal.invariant-loop-other
invariant-loop-other l =
    l.longer.items ++ (if l.stands then drop l.other-index l.word else with_letter l.letter (drop l.other-index l.word))
    ≡ with_letter l.letter l.word
