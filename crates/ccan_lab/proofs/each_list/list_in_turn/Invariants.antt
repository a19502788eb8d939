use Rattle.std.proofs.Common.{map, take}
use Rattle.ccan_lab.specs.EachFile.{AreAnswered}
use Rattle.ccan_lab.specs.EachList.{IsListPart}
use Rattle.ccan_lab.proofs.each_list.list_in_turn.Given as goal

-- the files so far were listed
abbrev pub invariant-loop-file : goal.invariant-loop-file
invariant-loop-file g l =
    AreAnswered (IsListPart l.question l.is_shown) (map (λ file. file.now) (take l.file-index l.files))
    (g.W.Write.contents l.initial.writer) (g.W.Write.contents l.writer) l.worst
