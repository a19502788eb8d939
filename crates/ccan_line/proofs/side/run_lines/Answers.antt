use Rattle.std.proofs.Common.{[], ◌∷◌, ◌++◌, take, ◌∙◌, sym, ap, arith}
use Rattle.std.proofs.lemmas.List.{take_more}
use Rattle.ccan_line.proofs.Rows.{LetsRun-more, runs_more}
use Rattle.ccan_line.proofs.side.run_lines.Goals as goal

pub loop-line-preserved : goal.loop-line-preserved
loop-line-preserved g c =
    let so_far = c.loop-line.invariant in
    let lines = c.args.lines.now in
    let n = c.loop-line.line-index in
    let line = c.line-item.result in
    let port = c.args.port in
    let front = take_more lines n line (omega arith) ∙ ap (λ x. take n lines ++ x ∷ []) (sym c.line-item.is) in
    record {
      count = omega arith;
      room = omega arith;
      taken = λ k d h. c.run_line-answer.ensures.takes _ _ (so_far.taken k d h);
      runs = runs_more g.S.Side.led_to (λ terms. g.S.Side.means terms c.args.tries) (take n lines) line _ _ _ _ front
          c.log_answer.ensures.items so_far.runs c.run_line-answer.ensures.runs;
      asked = LetsRun-more g.G.Gate.enters port _ c.run_line-answer.result n _ _ _ _ _ _ (omega arith)
          c.log_answer.ensures.items so_far.asked (search) (search) c.enter.ensures;
    }
