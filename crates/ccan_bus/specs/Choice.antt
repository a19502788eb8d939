-- The choice of what to send, made in turn or at once. Source: C_CAN User's Manual 1.2, section 4.2 (the message handler
-- takes the pending object with the highest priority); that a bus makes one of the two is this project's own.
use Rattle.std.specs.Prelude.{ℕ, List}
use Rattle.ccan_ram.specs.declared.event.Event.{Event}
use Rattle.ccan_ram.specs.declared.sending.Sending.TheVariants.{UntilSent}
use Rattle.ccan_ram.specs.Terms.{Terms}
use Rattle.ccan_ram.specs.Access.{Passes, Goes}
use Rattle.ccan_handler.specs.Scan as scan
use Rattle.ccan_handler.specs.Moment.{Chosen, ChoosesAtOnce}
use Rattle.ccan_bus.specs.declared.choice.Choice.{Choice}
use Rattle.ccan_bus.specs.declared.choice.Choice.TheVariants.{InTurn, AtOnce}

-- object after object, or among the objects of one picture; what is chosen is sent again until it is sent
abbrev pub Chooses : Choice → Terms → ℕ → List Event → List Event → Chosen → Type 0
Chooses InTurn terms tries seen added chosen = scan.Chooses terms tries seen added chosen
Chooses AtOnce terms tries seen added chosen = ChoosesAtOnce terms UntilSent tries seen added chosen

abbrev pub AddsChoice : Choice → Passes → Passes → ℕ → Chosen → Type 0
AddsChoice choice old new tries chosen = Goes old new (λ terms seen added. Chooses choice terms tries seen added chosen)
