use Rattle.ccan_ram.specs.Access.{Goes}
use Rattle.ccan_handler.specs.Moment.{Skips}
use Rattle.ccan_handler.proofs.moment.choose_among.Given as goal

-- the objects so far were passed over
abbrev pub invariant-loop-place : goal.invariant-loop-place
invariant-loop-place g l =
    let passes = g.A.Access.passes in
    Goes (passes l.fn.access) (passes l.access) (λ terms seen added. Skips terms l.sending l.shown l.tries l.place seen added)
