-- A seal that lends what its box holds to a call. Source: this project's own.
use Rattle.std.specs.Prelude.{Some}
use Rattle.std.specs.Borrow.{Lends, MutBor, Fml}
use Rattle.ccan_c.specs.declared.held.Held.{Held}
use Rattle.ccan_c.specs.declared.seal.Seal.{Seal}
use Rattle.ccan_c.specs.contracts.held.Held.{the_row as held_row}
use Rattle.ccan_c.specs.contracts.seal.Seal.{the_row as seal_row}

-- the seal, with this in its box
abbrev pub sealing : Seal → Held → Seal
sealing seal held = record seal { value = Some held }

-- the seal ends with what was left in its box
abbrev pub LendsHeld : MutBor Seal → MutBor Held → Fml
LendsHeld seal held = Lends seal_row held_row seal held (sealing seal.now)
