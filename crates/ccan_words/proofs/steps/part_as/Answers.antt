use Rattle.std.proofs.Common.{None, arith}
use Rattle.atomic_table.specs.Table.{Splits}
use Rattle.ccan_ram.specs.ByPort.{holding, only, with_held}
use Rattle.ccan_words.proofs.Parting.{splits}
use Rattle.ccan_words.proofs.SeatMoves.{TableState}
use Rattle.ccan_words.proofs.Stepping.{first_inside, of_table, by_key}
use Rattle.ccan_words.proofs.steps.part_as.Goals as goal

pub split_seat-requires : goal.split_seat-requires
split_seat-requires g c =
    let s = c.words.inside in
    let w = c.words.invariant in
    let form = g.L.Layout.form in
    let first = first_inside (g.met.L.Layout.lies s.key.profile) in
    let p = g.D.Deed.port in
    let v = c.args.seat.now.me.0 in (
      of_table form w.0 w.1 c.words.view_is c.requires.table,
      (let wide = w.1.wide in omega arith),
      by_key form w.0
          (λ (rule : TableState → Type 0).
          Splits rule c.args.seat.now.id v (with_held p None v) (only p (holding p v)))
          (splits (form s.key.profile) c.args.seat.now.id p v),
    )
