use Rattle.std.proofs.Common.{◌≡◌, ◌≤◌, ◌<◌, ℕ, true, false, nat_le, refl, sym, subst, arith}
use Rattle.std.proofs.lemmas.Bool.Decides.{nat_tests}
use Rattle.ccan_c.specs.declared.shown_counters.ShownCounters.{ShownCounters}
use Rattle.ccan_c.specs.BusCall as bus_call
use Rattle.ccan_c.specs.BusCall.{Counts0}
use Rattle.ccan_c.specs.Codes.{done}
use Rattle.ccan_registers.specs.ChipSteps.{terms_at}
use Rattle.ccan_c.specs.Held.{port_of}
use Rattle.ccan_c.proofs.Calls.{bus_did, bus_rests, on_false, on_open, on_true}
use Rattle.ccan_c.proofs.bus.ccan_counters.Goals as goal

too_many : (node shown nodes : ℕ) → shown < node → shown ≡ nodes → nat_le node nodes ≡ false
too_many node shown nodes more is = grind (arith, nat_tests)

one_of : (node shown nodes : ℕ) → node ≤ shown → shown ≡ nodes → nat_le node nodes ≡ true
one_of node shown nodes few is = grind (arith, nat_tests)

pub returns-then-node-from-clause-call : goal.returns-then-node-from-clause-call
returns-then-node-from-clause-call c =
    let held = c.as_mut-held.result.now in
    on_open _ _ _ _ _ c.as_mut-held.ensures.value
    (bus_rests (bus_call.counters c.args.node 14 c.args.out.now) held
    refl (λ past led. on_false _ _ _ (too_many c.args.node c.from.result held.nodes c.if-node-from.true c.from.ensures)
    (record { code_is = refl; quiet = refl; leaves = refl })))

pub returns-clause-call : goal.returns-clause-call
returns-clause-call c =
    let held = c.as_mut-held.result.now in
    on_open _ _ _ _ _ c.as_mut-held.ensures.value
    (bus_did (bus_call.counters c.args.node 0 c.of.result) held c.count.new.self _ c.count.ensures.steps
    c.count.ensures.station (λ past after seen added h. on_true _ _ _
    (one_of c.args.node c.from.result held.nodes c.if-node-from.false c.from.ensures)
    (subst (λ (out : ShownCounters). Counts0 (terms_at (port_of held)) c.args.node past seen added after done out)
    (sym c.of.ensures) h)))
