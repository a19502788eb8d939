use Rattle.std.proofs.Common.{◌+◌, ◌∷◌, ◌∙◌, drop, sym, ap}
use Rattle.std.proofs.lemmas.List.{drop_more}
use Rattle.ccan_run.proofs.lane.Lane.run_next.Goals as goal

pub returns-clause-runs : goal.returns-clause-runs
returns-clause-runs g c =
    let lines = c.args.lines.now in
    let next = c.args.self.now.next in
    let at = drop_more lines next c.index-lines-self.result c.requires.left
    ∙ ap (λ line. line ∷ drop (next + 1) lines) (sym c.index-lines-self.is) in
    rw (c.into_port.ensures.port, sym c.new-access.ensures.port) (c.index-lines-self.result, at, c.run_line-answer.ensures.runs)
