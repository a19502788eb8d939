use Rattle.std.proofs.Common.{◌≡◌}
use Rattle.ccan_confine.specs.Controller.{IsController, packed}
use Rattle.ccan_endless.specs.Chip.{controller_at}
use Rattle.ccan_endless.specs.ChipPort.{AddsNone, AddsNoEvent, HasChanges}
use Rattle.ccan_endless.proofs.ram.EndlessRam.change_controller.Given as goal

-- each try so far was lost to a change of its own, and the word is that of the controller that the last found
abbrev pub invariant-loop-turn : goal.invariant-loop-turn
invariant-loop-turn l = record {
  none : AddsNone l.fn.port l.port;
  objects : AddsNoEvent l.fn.port l.port;
  is : IsController (controller_at l.port.whole);
  found : l.word ≡ packed (controller_at l.port.whole);
  lost : HasChanges l.turn l.fn.port.whole l.port.whole;
}
