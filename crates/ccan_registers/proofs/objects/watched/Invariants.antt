use Rattle.std.proofs.Common.{◌≡◌}
use Rattle.ccan_ram.specs.Access.{Goes}
use Rattle.ccan_ram.specs.SharedRam.{passes_of}
use Rattle.ccan_handler.specs.Watch.{NoneShows}
use Rattle.ccan_endless.specs.ChipPort.{AddsNone}
use Rattle.ccan_endless.specs.Layout.{same_object}
use Rattle.ccan_registers.proofs.objects.watched.Given as goal

-- no look so far showed the flag
abbrev pub invariant-loop-turn : goal.invariant-loop-turn
invariant-loop-turn l =
    record {
      settings : l.chip.settings ≡ l.fn.chip.settings;
      none : AddsNone l.fn.chip.port l.chip.port;
      looks : Goes (passes_of same_object l.fn.chip.port.pass) (passes_of same_object l.chip.port.pass)
          (λ terms seen added. NoneShows terms (λ before. l.object) l.flag l.turn added);
    }
