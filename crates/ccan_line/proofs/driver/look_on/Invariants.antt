use Rattle.std.proofs.Common.{ℕ, ◌≡◌, ◌≤◌}
use Rattle.ccan_object.specs.Profile.{Holds}
use Rattle.ccan_ram.specs.Access.{Goes}
use Rattle.ccan_line.specs.declared.next_act.NextAct.TheVariants as kind
use Rattle.ccan_line.specs.Engine.{Asks, Leads}
use Rattle.ccan_line.proofs.driver.look_on.Given as goal

-- the looks so far lead to this one
abbrev pub invariant-loop-next : goal.invariant-loop-next
invariant-loop-next g l =
    let passes = g.A.Access.passes in
    let rest = g.E.Engine.rest l.profile l.line in
    let left = g.E.Engine.left l.profile l.line in
    record {
      unchanged : l.engine ≡ l.fn.engine;
      same : (passes l.access).terms.profile ≡ l.profile;
      within : g.E.Engine.within l.profile (g.E.Engine.fixed l.engine) l.line l.here;
      held : Holds l.profile l.object;
      is : g.E.Engine.act l.profile l.engine l.line l.here ≡ kind.Look l.object;
      asks : (state : g.E.Engine.State) → g.E.Engine.led_to state l.engine → Asks (rest state l.here) (kind.Look l.object);
      less : left l.here ≤ left l.point;
      leads : Goes (passes l.fn.access) (passes l.access) (λ terms seen added.
          (state : g.E.Engine.State) → g.E.Engine.led_to state l.engine → (tries : ℕ)
          → Leads terms tries (rest state l.point) (rest state l.here) seen added);
    }

abbrev pub decreases-loop-next : goal.decreases-loop-next
decreases-loop-next g l = g.E.Engine.left l.profile l.line l.here
