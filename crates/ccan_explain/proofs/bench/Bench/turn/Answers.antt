-- A turn runs the next line of its port over the one memory; one case for each port, which differ in the registers or the bus
-- that the line works on.
use Rattle.std.proofs.Common.{◌∙◌, ap}
use Rattle.ccan_ram.specs.Terms.{Terms}
use Rattle.ccan_line.specs.HostLine.{HostFits}
use Rattle.ccan_line.specs.Script.{fields_of}
use Rattle.ccan_line.specs.BusPort.{TakesLine}
use Rattle.ccan_explain.proofs.Turns.{by_bus, by_if1, by_if2, fits_at}
use Rattle.ccan_explain.proofs.bench.Bench.turn.Goals as goal

pub run_line-requires : goal.run_line-requires
run_line-requires c =
    let profile = ap (λ (t : Terms). t.profile) c.at.ensures.terms ∙ c.requires.serves.profile_is in
    let left = rw c.in-If1.is at c.requires.left in
    fits_at HostFits _ _ _ _ _ _ profile c.as_slice.ensures.value c.line_at-line.ensures.item c.args.script.now.if1_fits left

pub run_line-requires-in-If2 : goal.run_line-requires-in-If2
run_line-requires-in-If2 c =
    let profile = ap (λ (t : Terms). t.profile) c.at.ensures.terms ∙ c.requires.serves.profile_is in
    let left = rw c.in-If2.is at c.requires.left in
    fits_at HostFits _ _ _ _ _ _ profile c.as_slice-in-If2.ensures.value c.line_at-line-in-If2.ensures.item
    c.args.script.now.if2_fits left

pub run_reported-requires : goal.run_reported-requires
run_reported-requires c =
    let profile = ap (λ (t : Terms). t.profile) c.at.ensures.terms ∙ c.requires.serves.profile_is in
    let left = rw c.in-Bus.is at c.requires.left in
    fits_at (λ p line. TakesLine p c.args.self.now.bus line) _ _ _ _ _ _ profile c.as_slice-in-Bus.ensures.value
    c.line_at-line-in-Bus.ensures.item c.requires.serves.takes left

pub returns-in-If1-clause-runs : goal.returns-in-If1-clause-runs
returns-in-If1-clause-runs c =
    let serves = c.requires.serves in
    rw (c.in-If1.is, c.of_other.ensures)
    (by_if1 _ _ _ (fields_of c.args.script.now) c.args.self.now _ serves.profile_is serves.quota_is c.at.ensures.same
    (rw c.in-If1.is at c.at.ensures.terms) _ _ _ _ c.as_slice.ensures.value c.line_at-line.ensures.rest c.run_line.ensures.runs)

pub returns-in-If2-clause-runs : goal.returns-in-If2-clause-runs
returns-in-If2-clause-runs c =
    let serves = c.requires.serves in
    rw (c.in-If2.is, c.of_other-in-If2.ensures)
    (by_if2 _ _ _ (fields_of c.args.script.now) c.args.self.now _ serves.profile_is serves.quota_is c.at.ensures.same
    (rw c.in-If2.is at c.at.ensures.terms) _ _ _ _ c.as_slice-in-If2.ensures.value c.line_at-line-in-If2.ensures.rest
    c.run_line-in-If2.ensures.runs)

pub returns-in-Bus-clause-runs : goal.returns-in-Bus-clause-runs
returns-in-Bus-clause-runs c =
    let serves = c.requires.serves in
    rw c.in-Bus.is
    (by_bus _ _ _ (fields_of c.args.script.now) c.args.self.now _ serves.profile_is serves.quota_is c.at.ensures.same
    (rw c.in-Bus.is at c.at.ensures.terms) _ _ _ _ _ c.as_slice-in-Bus.ensures.value c.line_at-line-in-Bus.ensures.rest
    c.run_reported.ensures.runs)
