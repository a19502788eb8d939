use Rattle.std.proofs.Common.{◌≡◌}
use Rattle.ccan_ram.specs.Access.{Goes}
use Rattle.ccan_line.specs.Side.{GoesOn}
use Rattle.ccan_line.specs.Engine.{CourseIs, Leads, course_left, course_rest}
use Rattle.ccan_line.proofs.driver.drive.Given as goal

-- what was done so far leads to what is left
abbrev pub invariant-loop-course : goal.invariant-loop-course
invariant-loop-course g l =
    let passes = g.A.Access.passes in
    record {
      same : (passes l.access).terms.profile ≡ l.profile;
      within : CourseIs (g.E.Engine.within l.profile (g.E.Engine.fixed l.engine) l.line) l.course;
      leads : Goes (passes l.fn.access) (passes l.access) (λ terms seen added.
          GoesOn g.E.Engine.led_to l.fn.engine l.engine (λ state now.
          Leads terms l.tries (g.E.Engine.process l.profile l.line state)
          (course_rest (g.E.Engine.rest l.profile l.line) now l.course) seen added));
      fixed : g.E.Engine.fixed l.engine ≡ g.E.Engine.fixed l.fn.engine;
    }

abbrev pub decreases-loop-course : goal.decreases-loop-course
decreases-loop-course g l = course_left (g.E.Engine.left l.profile l.line) l.course
