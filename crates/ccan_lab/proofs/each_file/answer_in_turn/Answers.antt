use Rattle.std.proofs.Common.{Bor, List, ℕ, refl, subst, sym}
use Rattle.std.proofs.iter.Next.{says_at}
use Rattle.std.proofs.lemmas.List.{map_more}
use Rattle.std.specs.Fn.{FnReturnsAt}
use Rattle.ccan_lab.specs.EachFile.{AreAnswered, IsPartOf}
use Rattle.ccan_lab.proofs.Answered.{answered_whole}
use Rattle.ccan_lab.proofs.each_file.answer_in_turn.Goals as goal

pub loop-file-preserved : goal.loop-file-preserved
loop-file-preserved g c =
    let Answers = FnReturnsAt g.F.Fn c.args.answer in
    let old = g.W.Write.contents c.args.writer.now in
    let new = g.W.Write.contents c.write_answer.new.writer in
    let more =
    map_more (λ (file : Bor (List ℕ)). file.now) c.args.files.now c.loop-file.file-index _ c.loop-file-test.true in
    subst (λ files. AreAnswered (IsPartOf Answers c.args.is_shown) files old new c.worse-worst.result) (sym more)
    (answered_whole Answers c.args.is_shown _ c.answer-answered.result _ old _ new _ _ _ c.loop-file.invariant
    (says_at g.F.Fn c.answer-answered.ensures refl) c.in_ok-write_answer.ensures.ok
    c.status_of.ensures c.worse-worst.ensures)
