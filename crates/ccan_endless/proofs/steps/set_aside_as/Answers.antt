-- The step's own rule is that of the chip, since it is at the controller's word: `sets_controller` says that the rule allows
-- the exchange, and the rest carries that from the table's key and the packed words to the memory's and the controllers.
use Rattle.std.proofs.Common.{◌≡◌, ℕ, Some, sym, subst, arith, ap, ◌∙◌, eqb}
use Rattle.atomic_table.specs.Table.{Allows}
use Rattle.ccan_object.specs.declared.profile.Profile.{Profile}
use Rattle.ccan_ram.specs.ByPort.{holding}
use Rattle.ccan_endless.specs.Chip.{ChipHistory}
use Rattle.ccan_endless.specs.Layout.{controller_cell}
use Rattle.ccan_endless.specs.Port.{numbers_of}
use Rattle.ccan_endless.specs.Seat.{SeatKnows, IsSeated}
use Rattle.ccan_endless.proofs.Lifting.{ChipState, seated, agree_back}
use Rattle.ccan_endless.specs.declared.view.PortView.{PortView}
use Rattle.ccan_endless.proofs.Stepping.{of_table, by_key, profile_is}
use prog.Atomic.{either}
use Rattle.ccan_confine.specs.declared.controller.Controller.{Controller}
use Rattle.ccan_confine.specs.declared.controller_change.ControllerChange.{ControllerChange}
use Rattle.ccan_confine.specs.Controller.{packed, controller_after}
use Rattle.ccan_endless.specs.ChipRule.{ChipKeeps, IsSetting, SetsController}
use Rattle.ccan_endless.proofs.ControllerSteps.{sets_controller}
use Rattle.ccan_endless.proofs.steps.set_aside_as.Goals as goal

pub compare_exchange-requires : goal.compare_exchange-requires
compare_exchange-requires g c =
    let s = c.words.inside in
    let w = c.words.invariant in
    let d = g.D.Deed in
    let seat = c.seat.inside.inner in
    let slots = s.table.shared.table_id.slots in
    let mine = subst (λ (u : SeatKnows). (x : PortView) × (holding d.port u.me.0 ≡ Some x)) (sym c.seat.view_is)
    c.requires.held in
    let held = agree_back (holding d.port seat.me.0.ram) (holding d.port seat.me.0.chip) mine.0 (c.seat.invariant d.port).0
    mine.1 in
    let setting = subst (λ (u : ControllerChange × Controller). IsSetting d.port u.0 u.1)
    (λ i. (sym c.requires.change i, sym c.requires.before i)) c.requires.setting in
    let old : packed d.before ≡ c.args.word = ap packed c.requires.before ∙ sym c.requires.word in
    let new : packed (controller_after d.change d.before) ≡ c.pack-new.result =
    (λ i. packed (controller_after (c.requires.change i) (c.requires.before i)))
    ∙ (ap packed (sym c.requires.after) ∙ sym c.pack-new.ensures.word) in (
      of_table w.0 w.1 c.words.view_is
          (subst (λ (u : SeatKnows). numbers_of u.table_id ≡ c.args.words.now.name) (sym c.seat.view_is) c.requires.table),
      (let wide = w.1.wide in omega arith),
      by_key w.0
          (λ (rule : ChipState → Type 0).
          Allows rule slots seat.id seat.me controller_cell (λ n. either (eqb n c.args.word) c.pack-new.result n)
          (λ found n. SetsController d.profile d.port d.change d.before seat.me found n × IsSeated n.0))
          (subst (λ (u : Profile × ℕ × ℕ).
          Allows (ChipKeeps s.key.profile) slots seat.id seat.me controller_cell (λ n. either (eqb n u.1) u.2 n)
          (λ found n. SetsController u.0 d.port d.change d.before seat.me found n × IsSeated n.0))
          (λ i. ((profile_is w.0 w.1 c.words.view_is ∙ sym c.requires.profile) i, old i, new i))
          (seated s.key.profile _ _ seat.me controller_cell
          (λ n. either (eqb n (packed d.before)) (packed (controller_after d.change d.before)) n)
          (SetsController s.key.profile d.port d.change d.before seat.me)
          (sets_controller s.key.profile _ _ seat.me d.port d.change d.before held.0 held.1 setting))),
    )

pub returns-clause-had : goal.returns-clause-had
returns-clause-had g c =
    let p = g.D.Deed.port in
    let seat = c.seat.inside.inner in
    let mine = subst (λ (u : SeatKnows). (x : PortView) × (holding p u.me.0 ≡ Some x)) (sym c.seat.view_is) c.requires.held in
    subst (λ (u : SeatKnows). (h : ChipHistory) × (holding p u.chip ≡ Some h)) c.seat.view_is
    (agree_back (holding p seat.me.0.ram) (holding p seat.me.0.chip) mine.0 (c.seat.invariant p).0 mine.1)
