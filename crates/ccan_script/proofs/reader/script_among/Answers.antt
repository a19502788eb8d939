-- Each return is one case of the definition of a script: where a check failed, all before it had passed, and its fault is the
-- first; where all passed, what was read is the script.
use Rattle.std.proofs.Common.{◌∙◌, ap, length, refl, sym}
use Rattle.serde_json.specs.View.{view}
use Rattle.ccan_ram.specs.declared.port.PortName.TheVariants as port
use Rattle.ccan_script.proofs.Parts.{bad_members, bad_nodes, bad_profile, bad_quota, bad_tries}
use Rattle.ccan_script.proofs.Scripts.{bad_bus, bad_if1, bad_if2, bad_order_of, told}
use Rattle.ccan_script.proofs.Scripts.{lists_read, no_fault_of, numbers_read, order_of}
use Rattle.ccan_script.proofs.Unless.{unless_memory}
use Rattle.ccan_script.proofs.reader.script_among.Goals as goal

-- ---- the names and the numbers

pub returns-then-not-has_only : goal.returns-then-not-has_only
returns-then-not-has_only c = bad_members _ (view c.args.value.now) (sym c.has_only.ensures ∙ c.if-not-has_only.true)

pub returns-in_err-profile : goal.returns-in_err-profile
returns-in_err-profile c =
    let names = sym c.has_only.ensures ∙ c.if-not-has_only.false in
    let bad = bad_profile _ (view c.args.value.now) names in
    told _ _ _ _ c.from_residual.ensures.1 (unless_memory _ (bad _ c.in_err-profile.ensures.reads))

pub returns-in_err-quota : goal.returns-in_err-quota
returns-in_err-quota c =
    let names = sym c.has_only.ensures ∙ c.if-not-has_only.false in
    let bad = bad_quota _ (view c.args.value.now) names c.in_ok-profile.ensures.reads.0 in
    told _ _ _ _ c.from_residual-in_err-quota.ensures.1 (unless_memory _ (bad _ c.in_err-quota.ensures.reads))

pub returns-in_err-tries : goal.returns-in_err-tries
returns-in_err-tries c =
    let names = sym c.has_only.ensures ∙ c.if-not-has_only.false in
    let bad = bad_tries _ (view c.args.value.now) names c.in_ok-profile.ensures.reads.0 c.in_ok-quota.ensures.reads.0 in
    told _ _ _ _ c.from_residual-in_err-tries.ensures.1 (unless_memory _ (bad _ c.in_err-tries.ensures.reads))

pub returns-in_err-nodes : goal.returns-in_err-nodes
returns-in_err-nodes c =
    let names = sym c.has_only.ensures ∙ c.if-not-has_only.false in
    let bad = bad_nodes _ (view c.args.value.now) names
    c.in_ok-profile.ensures.reads.0 c.in_ok-quota.ensures.reads.0 c.in_ok-tries.ensures.reads.0 in
    told _ _ _ _ c.from_residual-in_err-nodes.ensures.1 (unless_memory _ (bad _ c.in_err-nodes.ensures.reads))

-- ---- the lists and the order

pub returns-in_err-if1 : goal.returns-in_err-if1
returns-in_err-if1 c =
    let numbers = numbers_read _ (view c.args.value.now) _ _ _ _ (sym c.has_only.ensures ∙ c.if-not-has_only.false)
    c.in_ok-profile.ensures.reads c.in_ok-quota.ensures.reads c.in_ok-tries.ensures.reads c.in_ok-nodes.ensures.reads
    _ c.profile_numbered.ensures in
    let bad = bad_if1 _ _ _ _ numbers in
    told _ _ _ _ c.from_residual-in_err-if1.ensures.1 (bad _ c.in_err-if1.ensures.reads)

pub returns-in_err-if2 : goal.returns-in_err-if2
returns-in_err-if2 c =
    let numbers = numbers_read _ (view c.args.value.now) _ _ _ _ (sym c.has_only.ensures ∙ c.if-not-has_only.false)
    c.in_ok-profile.ensures.reads c.in_ok-quota.ensures.reads c.in_ok-tries.ensures.reads c.in_ok-nodes.ensures.reads
    _ c.profile_numbered.ensures in
    let bad = bad_if2 _ _ _ _ numbers c.in_ok-if1.ensures.reads.0 in
    told _ _ _ _ c.from_residual-in_err-if2.ensures.1 (bad _ c.in_err-if2.ensures.reads)

pub returns-in_err-bus : goal.returns-in_err-bus
returns-in_err-bus c =
    let numbers = numbers_read _ (view c.args.value.now) _ _ _ _ (sym c.has_only.ensures ∙ c.if-not-has_only.false)
    c.in_ok-profile.ensures.reads c.in_ok-quota.ensures.reads c.in_ok-tries.ensures.reads c.in_ok-nodes.ensures.reads
    _ c.profile_numbered.ensures in
    let bad = bad_bus _ _ _ _ numbers c.in_ok-if1.ensures.reads.0 c.in_ok-if2.ensures.reads.0 in
    told _ _ _ _ c.from_residual-in_err-bus.ensures.1 (bad _ c.in_err-bus.ensures.reads)

pub returns-in_err-order : goal.returns-in_err-order
returns-in_err-order c =
    let numbers = numbers_read _ (view c.args.value.now) _ _ _ _ (sym c.has_only.ensures ∙ c.if-not-has_only.false)
    c.in_ok-profile.ensures.reads c.in_ok-quota.ensures.reads c.in_ok-tries.ensures.reads c.in_ok-nodes.ensures.reads
    _ c.profile_numbered.ensures in
    let lists = lists_read _ _ _ _ numbers c.in_ok-if1.if1.items c.in_ok-if2.if2.items c.in_ok-bus.bus.items
    c.in_ok-if1.ensures.reads c.in_ok-if2.ensures.reads c.in_ok-bus.ensures.reads
    _ _ _ _ c.counts_of-counts.ensures c.deref.ensures.value c.deref-2.ensures.value c.deref-3.ensures.value in
    told _ _ _ _ c.from_residual-in_err-order.ensures.1 (bad_order_of _ _ _ _ _ _ lists _ c.in_err-order.ensures.reads)

pub returns : goal.returns
returns c =
    let numbers = numbers_read _ (view c.args.value.now) _ _ _ _ (sym c.has_only.ensures ∙ c.if-not-has_only.false)
    c.in_ok-profile.ensures.reads c.in_ok-quota.ensures.reads c.in_ok-tries.ensures.reads c.in_ok-nodes.ensures.reads
    _ c.profile_numbered.ensures in
    let lists = lists_read _ _ _ _ numbers c.in_ok-if1.if1.items c.in_ok-if2.if2.items c.in_ok-bus.bus.items
    c.in_ok-if1.ensures.reads c.in_ok-if2.ensures.reads c.in_ok-bus.ensures.reads
    _ _ _ _ c.counts_of-counts.ensures c.deref.ensures.value c.deref-2.ensures.value c.deref-3.ensures.value in
    let order = c.in_ok-order.ensures.reads in (
      no_fault_of _ _ _ _ _ _ lists order.0,
      record {
        profile_is = numbers.same_profile;
        quota_is = c.in_ok-quota.ensures.reads.1;
        tries_is = c.tries_of.ensures ∙ c.in_ok-tries.ensures.reads.1;
        nodes_are = numbers.same_nodes;
        if1_lines = lists.if1_lines;
        if2_lines = lists.if2_lines;
        bus_lines = lists.bus_lines;
        order_is = order_of _ _ _ _ _ _ lists _ refl refl refl _ _ order.1;
      },
    )

-- ---- what a script is

pub invariant_of-result : goal.invariant_of-result
invariant_of-result c =
    let counts = c.counts_of-counts.ensures in
    let times = c.in_ok-order.ensures.times in
    record {
      quota_range = record { least = c.in_ok-quota.ensures.within.0; greatest = c.in_ok-quota.ensures.within.1 };
      few_nodes = c.in_ok-nodes.ensures.within.1;
      if1_few = c.in_ok-if1.ensures.few;
      if2_few = c.in_ok-if2.ensures.few;
      bus_few = c.in_ok-bus.ensures.few;
      if1_fits = c.in_ok-if1.ensures.fits;
      if2_fits = c.in_ok-if2.ensures.fits;
      bus_fits = c.in_ok-bus.ensures.fits;
      if1_times = times port.If1 ∙ ap (λ n. n.if1) counts ∙ ap length c.deref.ensures.value;
      if2_times = times port.If2 ∙ ap (λ n. n.if2) counts ∙ ap length c.deref-2.ensures.value;
      bus_times = times port.Bus ∙ ap (λ n. n.bus) counts ∙ ap length c.deref-3.ensures.value;
    }
