use Rattle.std.proofs.Common.{sym, ap, subst, ◌∙◌, ◌<◌}
use Rattle.ccan_object.specs.declared.profile.Profile.{Profile}
use Rattle.ccan_ram.specs.Terms.{Terms}
use Rattle.ccan_ram.proofs.Calls.{Goes-none, Goes-then, Goes-weaker}
use Rattle.ccan_process.specs.Act.{Runs}
use Rattle.ccan_line.specs.Engine.{course_rest}
use Rattle.ccan_line.proofs.Rows.{GoesOn-then}
use Rattle.ccan_line.proofs.Leading.{leads_none, leads_on, leads_to_end, course_weaker}
use Rattle.ccan_line.proofs.driver.drive.Goals as goal

pub loop-course-init : goal.loop-course-init
loop-course-init g c =
    let profile = c.profile-profile.result in
    let rest = g.E.Engine.rest profile c.args.line.now in
    record {
      same = sym c.profile-profile.ensures;
      within = c.enter-course.ensures.within;
      leads = Goes-none (λ seen _. record {
        each = λ state led. let a = c.enter-course.ensures.comes.each state led in (
          a.0,
          a.1,
          leads_none _ c.args.tries (g.E.Engine.process profile c.args.line.now state)
              (course_rest rest a.0 c.enter-course.result) seen a.2,
        );
      });
      fixed = c.enter-course.ensures.fixed;
    }

pub loop-course-preserved : goal.loop-course-preserved
loop-course-preserved g c =
    let profile = c.profile-profile.result in
    let line = c.args.line.now in
    let point = c.in-At.point in
    let rest = g.E.Engine.rest profile line in
    let terms = (g.A.Access.passes c.args.access.now).terms in
    let invariant = c.loop-course.invariant in
    let acts = c.go_on-course.ensures in
    let within = g.E.Engine.within profile (g.E.Engine.fixed c.go_on-course.new.engine) line in
    record {
      same = ap (λ (t : Terms). t.profile) acts.leads.same ∙ invariant.same;
      within = course_weaker (λ next. within next × (g.E.Engine.left profile line next < g.E.Engine.left profile line point))
          within c.go_on-course.result (λ next is. is.0) acts.within;
      leads = Goes-then invariant.leads acts.leads (λ seen xs ys f h. GoesOn-then f h (λ state between left one other.
          leads_on terms c.args.tries rest (g.E.Engine.process profile line state) seen between left point
          c.loop-course.course c.go_on-course.result xs ys c.in-At.is one other));
      fixed = acts.fixed ∙ invariant.fixed;
    }

pub returns-in-Ended-clause-runs : goal.returns-in-Ended-clause-runs
returns-in-Ended-clause-runs g c =
    let profile = c.profile-profile.result in
    let line = c.args.line.now in
    let rest = g.E.Engine.rest profile line in
    let terms = (g.A.Access.passes c.args.access.now).terms in
    Goes-weaker c.loop-course.invariant.leads (λ seen added _ _ f. record {
      each = λ state led. let a = f.each state led in (
        a.0,
        a.1,
        subst (λ (p : Profile). Runs terms c.args.tries (g.E.Engine.process p line state) seen added (c.in-Ended.end, a.0))
            c.profile-profile.ensures
            (leads_to_end terms c.args.tries rest (g.E.Engine.process profile line state) seen a.0 c.loop-course.course
            c.in-Ended.end added c.in-Ended.is a.2),
      );
    })
