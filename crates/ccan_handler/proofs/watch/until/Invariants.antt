use Rattle.ccan_ram.specs.Access.{Goes}
use Rattle.ccan_handler.specs.Watch.{NoneShows}
use Rattle.ccan_handler.proofs.watch.until.Given as goal

-- no look so far showed the flag
abbrev pub invariant-loop-turn : goal.invariant-loop-turn
invariant-loop-turn g l =
    let passes = g.A.Access.passes in
    Goes (passes l.fn.access) (passes l.access) (λ terms seen added. NoneShows terms (λ before. l.object) l.flag l.turn added)
