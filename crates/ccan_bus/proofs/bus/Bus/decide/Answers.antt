-- In loop back mode and on, the decision is the controller's own; else it is that of the frames that contend. Each return is
-- one case of the definition.
use Rattle.std.proofs.Common.{sym, ◌≡◌, ◌&&◌, true, false, ◌∙◌}
use Rattle.ccan_bus.specs.Bus.{is_on_now}
use Rattle.ccan_bus.proofs.AfterLoads.{decides_back, decides_between, and_true, and_false, and_first, and_second}
use Rattle.ccan_bus.proofs.bus.Bus.decide.Goals.{then-self, else-self}
use Rattle.ccan_bus.proofs.bus.Bus.decide.Goals as goal

pub decide_back-requires : goal.decide_back-requires
decide_back-requires c =
    let bus = c.args.self.now in
    let loops : (bus.loops_back && is_on_now bus 0) ≡ true =
    elim c.if-self.branch [
      | then-self w ↦ and_true bus.loops_back (is_on_now bus 0) c.if-self.loops w.if-self.true
          (w.loops-is ∙ w.is_on-loops.ensures) c.if-loops.true
      | else-self w ↦ absurd (let e = sym w.loops-is ∙ c.if-loops.true in cc)
    ] in
    and_second bus.loops_back (is_on_now bus 0) loops

pub returns-then-loops : goal.returns-then-loops
returns-then-loops c =
    let bus = c.args.self.now in
    let loops : (bus.loops_back && is_on_now bus 0) ≡ true =
    elim c.if-self.branch [
      | then-self w ↦ and_true bus.loops_back (is_on_now bus 0) c.if-self.loops w.if-self.true
          (w.loops-is ∙ w.is_on-loops.ensures) c.if-loops.true
      | else-self w ↦ absurd (let e = sym w.loops-is ∙ c.if-loops.true in cc)
    ] in
    record {
      same = c.decide_back.ensures.same;
      held = c.decide_back.ensures.held;
      goes_on = decides_back c.args.line.now bus c.decide_back.new.self _ loops c.decide_back.ensures.goes_on;
    }

pub returns-else-loops : goal.returns-else-loops
returns-else-loops c =
    let bus = c.args.self.now in
    let loops : (bus.loops_back && is_on_now bus 0) ≡ false =
    elim c.if-self.branch [
      | then-self w ↦ and_false bus.loops_back (is_on_now bus 0) c.if-self.loops w.if-self.true
          (w.loops-is ∙ w.is_on-loops.ensures) c.if-loops.false
      | else-self w ↦ and_first bus.loops_back (is_on_now bus 0) w.if-self.false
    ] in
    record {
      same = c.contend.ensures.same;
      held = c.contend.ensures.held;
      goes_on = decides_between c.args.line.now bus c.contend.new.self _ loops c.contend.ensures.goes_on;
    }
