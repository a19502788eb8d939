use Rattle.std.proofs.Common.{◌≡◌, ◌++◌, drop, if◌then◌else◌}
use Rattle.ccan_language.specs.Images.{without_letter}
use Rattle.ccan_language.proofs.sources.without_letter.Given as goal

abbrev pub invariant-loop-other : goal.invariant-loop-other
invariant-loop-other l =
    l.shorter.items
    ++ (if l.is_left_out then drop l.other-index l.word else without_letter l.letter (drop l.other-index l.word))
    ≡ without_letter l.letter l.word
