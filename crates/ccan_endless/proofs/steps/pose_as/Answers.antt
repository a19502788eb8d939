use Rattle.ccan_endless.specs.Seat.{SeatKnows}
use Rattle.ccan_endless.specs.ChipRule.{ram_knows}
use Rattle.ccan_endless.specs.Port.{numbers_of}
use Rattle.std.proofs.Common.{◌≡◌, sym, subst}
use Rattle.ccan_endless.specs.declared.view.PortView.{PortView}
use Rattle.ccan_ram.specs.ByPort.{holding}
use Rattle.std.proofs.Common.{Some}
use Rattle.ccan_endless.specs.Picture.{Poses}
use Rattle.ccan_endless.proofs.Posing.{poses}
use Rattle.ccan_endless.proofs.Stepping.{may_step}
use Rattle.ccan_endless.proofs.steps.pose_as.Goals as goal

pub load-requires : goal.load-requires
load-requires g c =
    let s = c.words.inside in
    let w = c.words.invariant in
    let d = g.D.Deed in
    let held = subst (λ (u : SeatKnows). (x : PortView) × (holding d.port u.me.0 ≡ Some x)) (sym c.seat.view_is)
    c.requires.held in
    may_step w.0 w.1 c.words.view_is c.seat.inside.inner
    (subst (λ (u : SeatKnows). numbers_of u.table_id ≡ c.args.words.now.name) (sym c.seat.view_is) c.requires.table)
    c.requires.profile c.cell_of-word.result
    c.cell_of-word.ensures.inside (λ n. n) (λ u _ n. Poses u d.port (ram_knows c.seat.inside.inner.me) n)
    (poses s.key.profile _ (ram_knows c.seat.inside.inner.me) c.cell_of-word.result d.port held.0 held.1)
