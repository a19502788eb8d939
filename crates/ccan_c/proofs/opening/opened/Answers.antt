use Rattle.ccan_chip.specs.declared.map.Map.TheVariants.{Narrow}
use Rattle.ccan_c.specs.Opening.{at_zero}
use Rattle.ccan_c.proofs.Chips.{opens_as}
use Rattle.ccan_c.proofs.opening.opened.Goals as goal

pub returns : goal.returns
returns c =
    let opens = c.in-Ok.ensures in
    let settings = c.args.settings.now in
    opens_as c.chip_of.result settings.profile at_zero (record { settings = settings; map = Narrow; own = c.new.result })
    c.in-Ok.ram.words c.in-Ok.if1 c.in-Ok.if2 c.in-Ok.bus opens.memory c.new.ensures
    (λ i. record { pass = opens.if1 i; whole = opens.chip.0 i }) (λ i. record { pass = opens.if2 i; whole = opens.chip.1 i })
    (λ i. record { pass = opens.bus i; whole = opens.chip.2 i }) c.chip_of.ensures
