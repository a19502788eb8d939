use Rattle.std.proofs.Common.{arith}
use Rattle.atomic_table.specs.Table.{Joins}
use Rattle.ccan_ram.specs.ByPort.{nothing, together}
use Rattle.ccan_words.proofs.Parting.{joins}
use Rattle.ccan_words.proofs.SeatMoves.{TableState}
use Rattle.ccan_words.proofs.Stepping.{first_inside, of_table, by_key}
use Rattle.ccan_words.proofs.steps.join.Goals as goal

pub join_seat-requires : goal.join_seat-requires
join_seat-requires g c =
    let w = c.words.invariant in
    let form = g.L.Layout.form in
    let first = first_inside (g.met.L.Layout.lies c.words.inside.key.profile) in
    let here = c.args.seat.now in
    let other = c.args.other in (
      of_table form w.0 w.1 c.words.view_is c.requires.table,
      of_table form w.0 w.1 c.words.view_is c.requires.other,
      c.requires.none,
      (let wide = w.1.wide in omega arith),
      by_key form w.0
          (λ (rule : TableState → Type 0).
          Joins rule here.id here.me.0 other.id other.me.0 (together here.me.0 other.me.0) nothing)
          (joins (form c.words.inside.key.profile) here.id other.id here.me.0 other.me.0),
    )
