use Rattle.std.proofs.Common.{ap, ◌∙◌}
use Rattle.ccan_endless.specs.ChipPort.{begun_by}
use Rattle.ccan_c.specs.Opening.{after_reset_of}
use Rattle.ccan_c.proofs.Chips.{opens_as}
use Rattle.ccan_c.proofs.opening.opened_after_reset.Goals as goal

pub returns : goal.returns
returns c =
    let opens = c.in-Ok.ensures in
    let settings = c.args.settings.now in
    let first = ap begun_by c.reset_of-reset.ensures.value in
    let if1 = opens.chip.0 ∙ first in
    let if2 = opens.chip.1 ∙ first in
    let bus = opens.chip.2 ∙ first in
    opens_as c.chip_of.result settings.profile (after_reset_of c.args.map)
    (record { settings = settings; map = c.args.map; own = c.reset.result })
    c.in-Ok.ram.words c.in-Ok.if1 c.in-Ok.if2 c.in-Ok.bus opens.memory c.reset.ensures
    (λ i. record { pass = opens.if1 i; whole = if1 i }) (λ i. record { pass = opens.if2 i; whole = if2 i })
    (λ i. record { pass = opens.bus i; whole = bus i }) c.chip_of.ensures
