use Rattle.std.proofs.Common.{◌≡◌, ◌+◌, ◌==◌, Bool, true, false, not, sym, ap, cond, ◌∙◌, eq-eqb, ne_eqb}
use Rattle.ccan_time.specs.declared.stuffing.Stuffing.{Stuffing}
use Rattle.ccan_time.specs.Stuffing.{most_identical, run_with}
use Rattle.ccan_time.specs.Transmitter.{stuffing_at, stuffing_with}
use Rattle.ccan_time.proofs.stuffing.Stuffing.with.Goals as goal

ended : (s : Stuffing) (b : Bool) (ends : Bool) → (run_with s.value s.run b == most_identical) ≡ ends
    → stuffing_with s b
    ≡ cond ends (stuffing_at (not b) 1 (s.bits + 2)) (stuffing_at b (run_with s.value s.run b) (s.bits + 1))
unfolding stuffing_with
ended s b ends h =
    ap (λ (t : Bool). cond t (stuffing_at (not b) 1 (s.bits + 2)) (stuffing_at b (run_with s.value s.run b) (s.bits + 1))) h

pub returns-then-run-eq-MOST_IDENTICAL-clause-value :
    goal.returns-then-run-eq-MOST_IDENTICAL-clause-value
returns-then-run-eq-MOST_IDENTICAL-clause-value c =
    let s = c.args.self in
    let b = c.args.bit in
    sym (ended s b true (eq-eqb (run_with s.value s.run b) 5
    (sym c.run_with-run.ensures.run ∙ c.if-run-eq-MOST_IDENTICAL.true)))

pub returns-else-run-eq-MOST_IDENTICAL-clause-value :
    goal.returns-else-run-eq-MOST_IDENTICAL-clause-value
returns-else-run-eq-MOST_IDENTICAL-clause-value c =
    let s = c.args.self in
    let b = c.args.bit in
    let run = c.run_with-run.ensures.run in
    ap (λ n. stuffing_at b n (s.bits + 1)) run
    ∙ sym (ended s b false (ne_eqb (run_with s.value s.run b) 5 (λ e. c.if-run-eq-MOST_IDENTICAL.false (run ∙ e))))
