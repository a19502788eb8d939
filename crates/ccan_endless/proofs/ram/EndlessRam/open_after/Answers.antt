use Rattle.std.proofs.Common.{◌≡◌, [], ap, ◌∙◌, subst}
use Rattle.ccan_confine.specs.declared.controller.Controller.{Controller}
use Rattle.ccan_ram.specs.declared.by_port.ByPort.{ByPort}
use Rattle.ccan_ram.specs.declared.port.PortName.TheVariants.{Bus}
use Rattle.ccan_ram.specs.ByPort.{holding}
use Rattle.ccan_endless.specs.Chip.{ChipHistory}
use Rattle.ccan_endless.specs.ChipPort.{begun_by, whole_in}
use Rattle.ccan_endless.specs.ChipRule.{SetsController, all_seen}
use Rattle.ccan_endless.specs.Plays.{Knows}
use Rattle.ccan_endless.specs.Seat.{chip_me}
use Rattle.ccan_endless.specs.View.{all_ports, start}
use Rattle.ccan_endless.proofs.ChipOpening.{begun}
use Rattle.ccan_endless.proofs.ram.EndlessRam.open_after.Goals.{After-set_aside}
use Rattle.ccan_endless.proofs.ram.EndlessRam.open_after.Goals as goal

pub set_aside-requires-clause-held : goal.set_aside-requires-clause-held
set_aside-requires-clause-held c =
    (start c.args.quota, ap (λ (m : Knows). holding Bus m.0) c.in_ok-words.ensures.view)

-- the change was the first event
first : (c : After-set_aside) → (c.set_aside.new.seat.me ≡ (all_ports c.args.quota, []))
    × (c.set_aside.new.seat.chip ≡ all_seen (begun_by c.args.first.now))
first c =
    let e = c.in_ok-words.ensures in
    begun c.in_ok-words.words.profile c.args.quota c.args.first.now c.in_ok-words.seat c.set_aside.new.seat c.set_aside.result e.view e.chip
    e.told
    (subst (λ (k : Controller). SetsController c.in_ok-words.words.profile Bus c.args.first.now k (chip_me c.in_ok-words.seat)
    c.set_aside.result (chip_me c.set_aside.new.seat)) c.new-opening.ensures.opened c.set_aside.ensures.told)

pub with_ports-requires-clause-view : goal.with_ports-requires-clause-view
with_ports-requires-clause-view c = (first (goal.at.with_ports-requires-clause-view c).After-set_aside).0

pub returns-clause-chip : goal.returns-clause-chip
returns-clause-chip c =
    let all = (first (goal.at.returns-clause-chip c).After-set_aside).1 in
    let w = c.with_ports.ensures.chip in (
      w.0 ∙ ap (λ (v : ByPort ChipHistory). whole_in v.if1) all,
      w.1 ∙ ap (λ (v : ByPort ChipHistory). whole_in v.if2) all,
      w.2 ∙ ap (λ (v : ByPort ChipHistory). whole_in v.bus) all,
    )
