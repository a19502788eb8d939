use Rattle.std.proofs.Common.{◌≡◌, sym, subst, arith, ◌∙◌}
use Rattle.atomic_table.specs.Table.{Allows}
use Rattle.ccan_object.specs.declared.profile.Profile.{Profile}
use Rattle.ccan_endless.specs.Layout.{controller_cell}
use Rattle.ccan_endless.specs.Port.{numbers_of}
use Rattle.ccan_endless.specs.Seat.{SeatKnows, IsSeated}
use Rattle.ccan_endless.proofs.Lifting.{ChipState, seated}
use Rattle.ccan_endless.proofs.Stepping.{of_table, by_key, profile_is}
use Rattle.ccan_endless.specs.ChipRule.{ChipKeeps, SeesController}
use Rattle.ccan_endless.proofs.ControllerSteps.{sees_controller}
use Rattle.ccan_endless.proofs.steps.see_aside_as.Goals as goal

pub load-requires : goal.load-requires
load-requires g c =
    let s = c.words.inside in
    let w = c.words.invariant in
    let d = g.D.Deed in
    let seat = c.seat.inside.inner in (
      of_table w.0 w.1 c.words.view_is
          (subst (λ (u : SeatKnows). numbers_of u.table_id ≡ c.args.words.now.name) (sym c.seat.view_is) c.requires.table),
      (let wide = w.1.wide in omega arith),
      by_key w.0
          (λ (rule : ChipState → Type 0).
          Allows rule s.table.shared.table_id.slots seat.id seat.me controller_cell (λ n. n)
          (λ found n. SeesController d.profile seat.me found n × IsSeated n.0))
          (subst (λ (u : Profile).
          Allows (ChipKeeps s.key.profile) s.table.shared.table_id.slots seat.id seat.me controller_cell (λ n. n)
          (λ found n. SeesController u seat.me found n × IsSeated n.0))
          (profile_is w.0 w.1 c.words.view_is ∙ sym c.requires.profile)
          (seated s.key.profile _ _ seat.me controller_cell (λ n. n) (SeesController s.key.profile seat.me)
          (sees_controller s.key.profile _ _ seat.me))),
    )
