-- The loop has run the lines that the order names so far, in one history of all three ports; each turn adds a line of one
-- port, which has met the others.
use Rattle.std.proofs.Common.{◌≤◌, drop, get_or, refl, arith, ◌∙◌, sym, ap}
use Rattle.std.proofs.lemmas.List.{drop_all}
use Rattle.ccan_ram.specs.declared.port.PortName.TheVariants.{If1, If2, Bus}
use Rattle.ccan_ram.specs.SharedRam.{Memory}
use Rattle.ccan_line.specs.Script.{fields_of}
use Rattle.ccan_run.proofs.Turns.{all_left, has_left, left_after, names_left}
use Rattle.ccan_run.proofs.TurnsSoFar.{all_ran, so_far_more, so_far_none}
use Rattle.ccan_run.proofs.ordered.run_lines_in_order.Goals as goal

pub loop-port-init : goal.loop-port-init
loop-port-init g c =
    let s = c.args.script.now in
    let script = fields_of s in
    let none = c.new-ports.ensures.none in
    record {
      count = search;
      room = c.requires.room;
      can_run = c.new-ports.ensures.can_run;
      memory = c.requires.memory;
      left = all_left script c.new-ports.result none s.if1_times s.if2_times s.bus_times;
      so_far = so_far_none script _ _ _ _ c.requires.opens c.new-ports.ensures.opened (none If1) (none If2)
          (none Bus) refl c.requires.empty;
    }

pub turn-answer-requires-clause-left : goal.turn-answer-requires-clause-left
turn-answer-requires-clause-left g c =
    let items = c.deref-port-items.result.now in
    let i = c.loop-port.port-index in
    let left = c.loop-port.invariant.left (get_or items i If1) in
    λ κs lives. has_left items _ c.deref-port-items.ensures.value i If1 c.loop-port-test.true _ _ left

pub loop-port-preserved : goal.loop-port-preserved
loop-port-preserved g c =
    let script = fields_of c.args.script.now in
    let items = c.deref-port-items.result.now in
    let value = c.deref-port-items.ensures.value in
    let i = c.loop-port.port-index in
    let within = c.loop-port-test.true in
    let so_far = c.loop-port.invariant in
    let turn = c.turn-answer.ensures in
    let some : 1 ≤ script.tries = rw (sym c.get-tries.ensures.number) c.get-tries.ensures.range.least in
    record {
      count = omega (arith, so_far.count, c.log_answer.ensures.len);
      room = omega (arith, so_far.room, c.log_answer.ensures.capacity);
      can_run = turn.can_run;
      memory = rw turn.memory so_far.memory;
      left = λ name. left_after items script.order value i If1 within _ _ _ name (turn.next name) (so_far.left name);
      so_far = so_far_more script _ _ so_far.memory some _ _ _ _ (get_or items i If1) _ _ _ so_far.so_far turn.runs _ _
          (names_left items script.order value i If1 within) c.log_answer.ensures.items;
    }

pub returns-clause-runs : goal.returns-clause-runs
returns-clause-runs g c =
    let script = fields_of c.args.script.now in
    let trio = c.loop-port.trio in
    let profile = ap (λ (m : Memory). m.profile) trio.if1_memory ∙ c.loop-port.invariant.memory.profile_is in
    let i = c.loop-port.port-index in
    let none = ap (drop i) (sym c.deref-port-items.ensures.value)
    ∙ drop_all i c.deref-port-items.result.now c.loop-port-test.false in
    all_ran script _ _ _ trio.if1_name trio.if2_name trio.bus_name c.close.result c.close.ensures c.loop-port.ports _ _
    profile none c.loop-port.invariant.so_far
