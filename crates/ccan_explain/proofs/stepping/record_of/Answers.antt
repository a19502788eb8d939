use Rattle.std.proofs.Common.{subst, sym}
use Rattle.ccan_object.specs.Profile.{Holds}
use Rattle.ccan_ram.specs.Array.{Leaves, passes_of}
use Rattle.ccan_explain.proofs.StepRecords.{leaves_none}
use Rattle.ccan_explain.proofs.stepping.record_of.Goals as goal

pub returns-else-holds : goal.returns-else-holds
returns-else-holds c =
    let ram = c.args.ram.now in
    let memory = passes_of ram.profile ram.records ram.used ram.port ram.quota in
    subst (λ r. Leaves memory c.args.object r) (sym c.zero.ensures)
    (leaves_none memory c.args.object (λ seen h. h.legal)
    (λ held.
    let here = c.holds.ensures.1 (subst (λ p. Holds p c.args.object) (sym c.profile.ensures) held) in
    let not = c.if-holds.false in
    absurd cc))
