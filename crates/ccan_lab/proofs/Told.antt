-- What leads to an outcome: orders that were found, and equal endings.
use Rattle.std.proofs.Common.{◌≡◌, Bool, List, Option, None, Some, Vec, Global, IfSome, true, sym, subst}
use Rattle.std.specs.Option.{option_map}
use Rattle.ccan_ram.specs.declared.port.PortName.{PortName}
use Rattle.ccan_line.specs.Script.{ScriptFields}
use Rattle.ccan_outcomes.specs.declared.ending.Ending.{Ending}
use Rattle.ccan_outcomes.specs.contracts.ending.EndingPartialEq.TheImpl.{ghosts as ending_is}
use Rattle.ccan_outcomes.specs.Equal.{same_ending}
use Rattle.ccan_lab.specs.Replay.{Replays}

-- the names in an order that was found
abbrev pub names_in : Option (Vec PortName Global) → Option (List PortName)
names_in found = option_map (λ order. order.items) found

pub names_lead : (LeadsTo : List PortName → Type 0) (found : Option (Vec PortName Global))
    → IfSome found (λ order. LeadsTo order.items) → IfSome (names_in found) LeadsTo
names_lead LeadsTo None h = h
names_lead LeadsTo (Some order) h = h

-- the run has the outcome that is equal to what is shown of it
pub replays_equal : (frames : Bool) (script : ScriptFields) (ending shown : Ending) (order : List PortName)
    → ending_is.eq ending shown ≡ true
    → Replays frames script shown order → Replays frames script ending order
replays_equal frames script ending shown order equal replays =
    subst (λ (e : Ending). Replays frames script e order) (sym (same_ending ending shown equal)) replays
