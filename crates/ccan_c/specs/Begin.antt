-- A handle as it opens, by what each handle of a chip begins with. Source: this project's own.
use Rattle.ccan_endless.specs.ChipPort.{ChipPass}
use Rattle.ccan_c.specs.declared.begin.Begin.{Begin}
use Rattle.ccan_c.specs.declared.held.Held.{Held}
use Rattle.ccan_c.specs.Held.{IsHolding}

abbrev pub Begins : ChipPass → Begin → Held → Type 0
Begins port begin held = IsHolding port begin.settings.nodes begin.settings.tries begin.map begin.own held
