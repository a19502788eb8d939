use Rattle.std.proofs.Common.{Bor, List, [], ℕ, refl, sym, subst}
use Rattle.std.proofs.KnownBytes.{Appends-nil}
use Rattle.std.proofs.lemmas.List.{map_more}
use Rattle.ccan_lab.specs.EachFile.{AreAnswered, FilePart}
use Rattle.ccan_lab.specs.EachList.{IsListPart}
use Rattle.ccan_lab.proofs.Answered.{answered_more}
use Rattle.ccan_lab.proofs.each_list.list_in_turn.Goals as goal

pub loop-file-init : goal.loop-file-init
loop-file-init g c =
    record { parts = []; each = tt; printed = Appends-nil (g.W.Write.contents c.args.writer.now); worst = refl }

pub loop-file-preserved : goal.loop-file-preserved
loop-file-preserved g c =
    let IsPart = IsListPart c.args.question.now c.args.is_shown in
    let old = g.W.Write.contents c.args.writer.now in
    let new = g.W.Write.contents c.status_of_file.new.writer in
    let listed = c.in_ok-status.ensures.listed in
    let last : FilePart = record { text = listed.0; status = c.in_ok-status.status } in
    let more =
    map_more (λ (file : Bor (List ℕ)). file.now) c.args.files.now c.loop-file.file-index _ c.loop-file-test.true in
    subst (λ files. AreAnswered IsPart files old new c.worse-worst.result) (sym more)
    (answered_more IsPart _ last _ old _ new _ _ c.loop-file.invariant listed.2 listed.1 c.worse-worst.ensures)
