use Rattle.std.proofs.Common.{◌≡◌, take}
use Rattle.ccan_language.specs.Signs.{signs_left}
use Rattle.ccan_language.proofs.signs.signs_left.Given as goal

-- those of the signs so far
abbrev pub invariant-loop-sign : goal.invariant-loop-sign
invariant-loop-sign g l = l.left.items ≡ signs_left (g.S.Signs.bears l.signs) (take l.sign-index l.sought) l.letter
