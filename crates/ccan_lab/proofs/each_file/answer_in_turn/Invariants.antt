use Rattle.std.proofs.Common.{map, take}
use Rattle.std.specs.Fn.{FnReturnsAt}
use Rattle.ccan_lab.specs.EachFile.{AreAnswered, IsPartOf}
use Rattle.ccan_lab.proofs.each_file.answer_in_turn.Given as goal

-- the files so far were asked about
abbrev pub invariant-loop-file : goal.invariant-loop-file
invariant-loop-file g l =
    AreAnswered (IsPartOf (FnReturnsAt g.F.Fn l.answer) l.is_shown) (map (λ file. file.now) (take l.file-index l.files))
    (g.W.Write.contents l.initial.writer) (g.W.Write.contents l.writer) l.worst
