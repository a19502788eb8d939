use Rattle.std.proofs.Common.{refl}
use Rattle.ccan_line.specs.Script.{fields_of}
use Rattle.ccan_run.specs.Threads.{HaveRun, StopsThreads}
use Rattle.ccan_run.proofs.AtOnce.{at_once, held_first, passed_on}
use Rattle.ccan_run.proofs.threads.run_threads.Goals as goal

pub returns-clause-ok : goal.returns-clause-ok
returns-clause-ok g c =
    let all = c.in_ok-if1.field-0 in
    let script = fields_of c.args.script.now in
    let pass = g.R.SharedRam.pass in
    let contends = g.R.SharedRam.contends in
    let memory = g.R.SharedRam.memory c.in_ok-ram.ram in
    let ran : HaveRun pass contends memory script all = rw c.in_ok-if1.ensures.ok.0 c.in_ok-runs.ensures.ok in
    at_once pass contends memory script all
    (record { if1 = all.if1.log; if2 = all.if2.log; bus = all.bus.log; last = c.close.result })
    c.in_ok-ram.ensures.memory ran c.in_ok-if1.ensures.ok.1 refl refl refl c.close.ensures

pub returns-in_err-if1-clause-err : goal.returns-in_err-if1-clause-err
returns-in_err-if1-clause-err g c =
    let pass = g.R.SharedRam.pass in
    let contends = g.R.SharedRam.contends in
    let memory = g.R.SharedRam.memory c.in_ok-ram.ram in
    let enters = g.G.Gate.enters in
    let held = held_first pass contends enters c.args.gate.now memory (fields_of c.args.script.now) c.in_ok-ram.ensures.memory
    c.in_ok-runs.runs _ c.in_ok-runs.ensures.ok c.in_ok-runs.ensures.asked c.in_err-if1.ensures.err in
    passed_on _ (StopsThreads contends enters c.args.gate.now
    (fields_of c.args.script.now)) _ _ c.from_residual-in_err-if1.ensures.1
    (λ e same. cc) held
