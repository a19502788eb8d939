use Rattle.ccan_words.specs.Picture.{Poses}
use Rattle.ccan_words.proofs.Posing.{poses}
use Rattle.ccan_words.proofs.Stepping.{first_held, cell_inside, may_step}
use Rattle.ccan_words.proofs.steps.pose_as.Goals as goal

pub load-requires : goal.load-requires
load-requires g c =
    let s = c.words.inside in
    let w = c.words.invariant in
    let form = g.L.Layout.form in
    let lies = g.met.L.Layout.lies s.key.profile in
    let d = g.D.Deed in
    may_step form w.0 w.1 c.words.view_is c.args.seat.now c.requires.table c.requires.profile c.cell-word.result
    (cell_inside lies (first_held s.key.profile) c.cell-word.ensures) (λ n. n)
    (λ u _ n. Poses (form u) d.port c.args.seat.now.me n)
    (poses (form s.key.profile) lies _ _ c.args.seat.now.me c.cell-word.result d.port c.requires.held.0 c.requires.held.1)
