-- The step's own rule is that of the chip, since it is at the controller's word: `looks_controller` says that the rule allows
-- the load, and the rest carries that from the table's key to the memory's.
use Rattle.std.proofs.Common.{◌≡◌, Some, sym, subst, arith, ◌∙◌}
use Rattle.atomic_table.specs.Table.{Allows}
use Rattle.ccan_object.specs.declared.profile.Profile.{Profile}
use Rattle.ccan_ram.specs.ByPort.{holding}
use Rattle.ccan_endless.specs.Chip.{ChipHistory}
use Rattle.ccan_endless.specs.Layout.{controller_cell}
use Rattle.ccan_endless.specs.Port.{numbers_of}
use Rattle.ccan_endless.specs.Seat.{SeatKnows, IsSeated}
use Rattle.ccan_endless.proofs.Lifting.{ChipState, seated, agree_back}
use Rattle.ccan_endless.specs.declared.view.PortView.{PortView}
use Rattle.ccan_endless.proofs.Stepping.{of_table, by_key, profile_is}
use Rattle.ccan_endless.specs.ChipRule.{ChipKeeps, LooksController}
use Rattle.ccan_endless.proofs.ControllerSteps.{looks_controller}
use Rattle.ccan_endless.proofs.steps.look_aside_as.Goals as goal

pub load-requires : goal.load-requires
load-requires g c =
    let s = c.words.inside in
    let w = c.words.invariant in
    let d = g.D.Deed in
    let seat = c.seat.inside.inner in
    let mine = subst (λ (u : SeatKnows). (x : PortView) × (holding d.port u.me.0 ≡ Some x)) (sym c.seat.view_is)
    c.requires.held in
    let held = agree_back (holding d.port seat.me.0.ram) (holding d.port seat.me.0.chip) mine.0 (c.seat.invariant d.port).0
    mine.1 in (
      of_table w.0 w.1 c.words.view_is
          (subst (λ (u : SeatKnows). numbers_of u.table_id ≡ c.args.words.now.name) (sym c.seat.view_is) c.requires.table),
      (let wide = w.1.wide in omega arith),
      by_key w.0
          (λ (rule : ChipState → Type 0).
          Allows rule s.table.shared.table_id.slots seat.id seat.me controller_cell (λ n. n)
          (λ found n. LooksController d.profile d.port seat.me found n × IsSeated n.0))
          (subst (λ (u : Profile).
          Allows (ChipKeeps s.key.profile) s.table.shared.table_id.slots seat.id seat.me controller_cell (λ n. n)
          (λ found n. LooksController u d.port seat.me found n × IsSeated n.0))
          (profile_is w.0 w.1 c.words.view_is ∙ sym c.requires.profile)
          (seated s.key.profile _ _ seat.me controller_cell (λ n. n) (LooksController s.key.profile d.port seat.me)
          (looks_controller s.key.profile _ _ seat.me d.port held.0 held.1))),
    )

pub returns-clause-had : goal.returns-clause-had
returns-clause-had g c =
    let p = g.D.Deed.port in
    let seat = c.seat.inside.inner in
    let mine = subst (λ (u : SeatKnows). (x : PortView) × (holding p u.me.0 ≡ Some x)) (sym c.seat.view_is) c.requires.held in
    subst (λ (u : SeatKnows). (h : ChipHistory) × (holding p u.chip ≡ Some h)) c.seat.view_is
    (agree_back (holding p seat.me.0.ram) (holding p seat.me.0.chip) mine.0 (c.seat.invariant p).0 mine.1)
